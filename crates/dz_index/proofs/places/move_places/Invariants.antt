use Rattle.std.proofs.Common.{◌≡◌, ◌++◌, map, take, drop}
use Rattle.dz_index.specs.inner.Portion.{moved}
use Rattle.dz_index.proofs.places.move_places.Given as goal

-- the places so far are moved, and the others are as they were
abbrev pub invariant-places : goal.invariant-places
invariant-places l =
    l.places ≡ map (moved l.old l.new) (take l.place-index l.fn.places) ++ drop l.place-index l.fn.places
