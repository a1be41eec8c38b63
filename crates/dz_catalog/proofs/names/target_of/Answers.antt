use Rattle.std.proofs.Common.{◌≡◌, sym, ◌∙◌, true}
use Rattle.dz_record.specs.Record.{has_target}
use Rattle.dz_catalog.proofs.TargetLemmas.{target_wire}
use Rattle.dz_catalog.proofs.names.target_of.Goals as goal

pub of_wire-requires : goal.of_wire-requires
of_wire-requires c =
    let kind : has_target c.args.found.now.kind ≡ true =
    rw c.kind.ensures.kind at (sym c.has_target.ensures ∙ c.if-has_target.true) in
    rw (← c.rdata.ensures.rdata) at (target_wire c.args.found.now c.rdata.ensures.valid kind)
