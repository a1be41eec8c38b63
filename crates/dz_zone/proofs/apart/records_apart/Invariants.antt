use Rattle.std.proofs.Common.{◌≡◌, ◌+◌, ◌≤◌, ◌++◌, length, map}
use Rattle.std.specs.List.Sorted.{IsStrictlySortedBy}
use Rattle.dz_record.specs.Record.{full_order}
use Rattle.dz_zone.specs.Apart.{missing_in}
use Rattle.dz_zone.proofs.apart.records_apart.Given as goal

abbrev pub invariant-records : goal.invariant-records
invariant-records l = record {
  before : IsStrictlySortedBy full_order l.olds;
  after : IsStrictlySortedBy full_order l.news;
  gone : map (λ r. r.now) l.apart.gone.items ++ missing_in l.news l.olds ≡ missing_in l.after.records l.before.records;
  come : map (λ r. r.now) l.apart.come.items ++ missing_in l.olds l.news ≡ missing_in l.before.records l.after.records;
  few : length l.apart.gone.items + length l.apart.come.items ≤ 1024;
}

abbrev pub decreases-records : goal.decreases-records
decreases-records l = length l.olds + length l.news
