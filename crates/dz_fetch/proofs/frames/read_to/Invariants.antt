use Rattle.std.proofs.Common.{◌≡◌, ◌≤◌, ◌-◌, length}
use Rattle.dz_fetch.specs.inner.Frames.{Joins}
use Rattle.dz_fetch.proofs.frames.read_to.Given as goal

abbrev pub invariant-pieces : goal.invariant-pieces
invariant-pieces g l = record {
  joins : Joins l.fn.octets.items l.octets.items (g.S.Source.given l.fn.source) (g.S.Source.given l.source);
  fits : length l.octets.items ≤ l.want;
  beside : g.S.Source.beside l.source ≡ g.S.Source.beside l.fn.source;
  count : g.S.Source.faults l.source ≡ g.S.Source.faults l.fn.source;
}

abbrev pub decreases-pieces : goal.decreases-pieces
decreases-pieces g l = l.want - length l.octets.items
