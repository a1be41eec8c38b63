use Rattle.std.proofs.Common.{◌≡◌, ◌-◌, ◌+◌, ◌≤◌, length}
use Rattle.dz_header.specs.Shape.{behind_records}
use Rattle.dz_header.proofs.shape.counted_skip.Given as goal

abbrev pub invariant-records : goal.invariant-records
invariant-records g l = record {
  rest : behind_records (l.count - l.counter) l.rest ≡ behind_records l.count l.octets;
  used : l.steps + length l.rest ≤ l.fn.steps + length l.octets;
  least : l.fn.steps + l.counter ≤ l.steps;
}
