use Rattle.std.proofs.Common.{arith}
use Rattle.dz_zone.specs.inner.Kept.{apex_in}
use Rattle.dz_zone.proofs.ApexLemmas.{some_records}
use Rattle.dz_zone.proofs.version.Version.apex.Goals as goal

pub unreachable-requires : goal.unreachable-requires
unreachable-requires c =
    let records = c.self.inside.records.items in
    omega (
      arith,
      some_records (apex_in records) records c.self.invariant.version.valid.faultless,
      rw c.as_slice.ensures.value at c.in-empty.len_below,
    )
