use Rattle.std.proofs.Common.{◌∙◌}
use Rattle.dz_zonemd.proofs.PlaceLemmas.{places_rise, run_is}
use Rattle.dz_zonemd.proofs.verification.zonemds_of.Goals as goal

pub between-requires-clause-order : goal.between-requires-clause-order
between-requires-clause-order c =
    places_rise c.args.apex.now c.args.records.now _ _ c.zonemds_begin.ensures.within c.zonemds_begin.ensures.point
    c.zonemds_end.ensures.point

pub returns : goal.returns
returns c =
    c.between.ensures ∙ run_is c.args.apex.now c.args.records.now _ _ c.zonemds_begin.ensures.within
    c.zonemds_end.ensures.within c.zonemds_begin.ensures.point c.zonemds_end.ensures.point
