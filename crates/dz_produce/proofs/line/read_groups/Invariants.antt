use Rattle.std.proofs.Common.{◌≡◌, length}
use Rattle.dz_produce.specs.Lines.{groups_of}
use Rattle.dz_produce.specs.inner.Words.{with_groups}
use Rattle.dz_produce.proofs.line.read_groups.Given as goal

abbrev pub invariant-words : goal.invariant-words
invariant-words l = groups_of l.initial.words ≡ with_groups l.groups.items (groups_of l.words)

abbrev pub decreases-words : goal.decreases-words
decreases-words l = length l.words
