use Rattle.std.proofs.Common.{◌≡◌, ◌+◌, ◌-◌, ◌*◌, ◌%◌, ◌<◌, ◌≤◌}
use Rattle.dz_chunks.specs.inner.Chunked.{IsUptoAt, IsBehindAt}
use Rattle.dz_chunks.proofs.block.Block.last_run.Given as goal

-- the one that was found is the last so far: where others came after it, the next is after the key
abbrev pub invariant-marks : goal.invariant-marks
invariant-marks g l =
    (l.place < l.end)
    × (l.place % 16 ≡ 0)
    × (l.found ≤ l.place)
    × IsUptoAt g.K.Ord.cmp l.key l.self l.found
    × (l.found < l.place → IsBehindAt g.K.Ord.cmp l.key l.self (l.found + 16))
    × (l.steps * 16 ≡ l.fn.steps * 16 + l.place)

abbrev pub decreases-marks : goal.decreases-marks
decreases-marks g l = l.end - l.place
