use Rattle.std.proofs.Common.{◌≡◌, length, ◌+◌}
use Rattle.dz_name.specs.inner.Landings.{AreLandings}
use Rattle.dz_name.proofs.wire.landings_of.Given as goal

-- the offsets so far have their landings, and each was one step
abbrev pub invariant-offsets : goal.invariant-offsets
invariant-offsets g l = record {
  long : length l.landings.items ≡ l.at;
  are : AreLandings l.message l.landings.items;
  steps : l.steps ≡ l.initial.steps + l.at;
}
