use Rattle.std.proofs.Common.{◌≡◌, ℕ, ◌*◌, ◌<◌, ◌≤◌, ◌-◌, true, false}
use Rattle.std.specs.Prelude.{◌^◌}
use Rattle.std.specs.Ordering.{is_lt}
use Rattle.dz_index.specs.Index.{IsSearch}
use Rattle.dz_index.specs.Rows.{count, key_at, compared, AreRising}
use Rattle.dz_index.proofs.index.Index.search.Given as goal

-- what is left to search halves with each step, and the keys on either side of it are told
abbrev pub invariant-search : goal.invariant-search
invariant-search g l = record {
  order : l.low ≤ l.high;
  within : l.high ≤ count l.self;
  counted : l.fn.steps ≤ l.steps;
  half : 2 ^ (l.steps - l.fn.steps) * (l.high - l.low) ≤ count l.self;
  cost : IsSearch (count l.self) (l.steps - l.fn.steps);
  before : AreRising l.self → (i : ℕ) → i < l.low → is_lt (compared (key_at l.self i) l.key) ≡ true;
  behind : AreRising l.self → (i : ℕ) → l.high ≤ i → i < count l.self
      → is_lt (compared (key_at l.self i) l.key) ≡ false;
}

abbrev pub decreases-search : goal.decreases-search
decreases-search g l = l.high - l.low
