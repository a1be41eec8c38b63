use Rattle.std.proofs.Common.{◌≡◌, true, take}
use Rattle.std.specs.List.{AllAdjacentBelow}
use Rattle.dz_index.specs.Rows.{IsIndex, total}
use Rattle.dz_zone.specs.Version.{owners_of}
use Rattle.dz_zone.proofs.RecordLemmas.{is_before}
use Rattle.dz_zone.proofs.index.counted_rising.Given as goal

-- the index of the owners so far, each record of which comes before the next
abbrev pub invariant-records : goal.invariant-records
invariant-records g l = record {
  is : IsIndex (take l.place (owners_of l.records)) l.index;
  long : total l.index ≡ l.place;
  up : AllAdjacentBelow (λ a b. true ≡ is_before a b) l.records l.place;
}
