use Rattle.std.proofs.Common.{◌≡◌, ℕ, ◌<◌, ◌+◌}
use Rattle.dz_name.specs.inner.Landings.{LeadsTo, LeadsOn}
use Rattle.dz_name.proofs.wire.has_chain.Given as goal

-- no pointer so far leads to one that leads on, and each offset so far was one step
abbrev pub invariant-offsets : goal.invariant-offsets
invariant-offsets g l = record {
  none : (at : ℕ) → at < l.at → (target : ℕ) → LeadsTo l.message at target → ¬ LeadsOn l.message target;
  steps : l.steps ≡ l.fn.steps + l.at;
}
