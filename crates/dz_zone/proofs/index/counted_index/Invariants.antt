use Rattle.std.proofs.Common.{◌≡◌, take}
use Rattle.dz_index.specs.Rows.{IsIndex, total}
use Rattle.dz_zone.specs.Version.{owners_of}
use Rattle.dz_zone.proofs.index.counted_index.Given as goal

-- the index of the owners so far
abbrev pub invariant-records : goal.invariant-records
invariant-records g l = record {
  is : IsIndex (take l.record-index (owners_of l.records)) l.index;
  long : total l.index ≡ l.record-index;
}
