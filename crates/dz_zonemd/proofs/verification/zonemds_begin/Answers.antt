use Rattle.std.specs.Ordering.{is_lt}
use Rattle.std.proofs.Common.{rules}
use Rattle.std.proofs.lemmas.Fn.{always_returns_same}
use Rattle.dz_record.specs.Record.{Record}
use Rattle.dz_zonemd.specs.inner.Places.{from_zonemds}
use Rattle.dz_zonemd.proofs.PlaceLemmas.{parted_before}
use Rattle.dz_zonemd.proofs.verification.zonemds_begin.Goals as goal

pub returns-clause-point : goal.returns-clause-point
returns-clause-point c =
    c.partition_point.ensures.partitioned (λ (r : Record). is_lt (from_zonemds c.args.apex.now r))
    (always_returns_same _ _ _ (λ a r f h. search rules))
    (parted_before c.args.apex.now c.args.records.now c.requires)
