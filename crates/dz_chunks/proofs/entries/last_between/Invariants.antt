use Rattle.std.proofs.Common.{◌≡◌, ◌+◌, ◌-◌, ◌<◌, ◌≤◌}
use Rattle.dz_chunks.specs.inner.Chunked.{IsUptoAt, IsBehindAt}
use Rattle.dz_chunks.proofs.entries.last_between.Given as goal

-- the one that was found is the last so far: where others came after it, the next is after the key
abbrev pub invariant-steps : goal.invariant-steps
invariant-steps g l =
    (l.place < l.end)
    × (l.begin ≤ l.found)
    × (l.found ≤ l.place)
    × IsUptoAt g.K.Ord.cmp l.key l.entries l.found
    × (l.found < l.place → IsBehindAt g.K.Ord.cmp l.key l.entries (l.found + 1))
    × (l.steps + l.begin ≡ l.fn.steps + l.place)

abbrev pub decreases-steps : goal.decreases-steps
decreases-steps g l = l.end - l.place
