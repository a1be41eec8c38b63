use Rattle.std.proofs.Common.{◌≡◌, ℕ, ◌*◌, ◌<◌, ◌≤◌, ◌-◌, true, false, length, get_or}
use Rattle.std.specs.Prelude.{◌^◌}
use Rattle.std.specs.List.Sorted.{IsPartitionedBy}
use Rattle.dz_chunks.specs.Search.{IsSearch}
use Rattle.dz_chunks.proofs.search.count_of.Given as goal

-- what is left to search halves with each step, and the items on either side of it are told
abbrev pub invariant-search : goal.invariant-search
invariant-search g l = record {
  order : l.low ≤ l.high;
  within : l.high ≤ length l.items;
  counted : l.fn.steps ≤ l.steps;
  half : 2 ^ (l.steps - l.fn.steps) * (l.high - l.low) ≤ length l.items;
  cost : IsSearch (length l.items) (l.steps - l.fn.steps);
  before : IsPartitionedBy (g.Q.Question.holds l.question) l.items → (i : ℕ) (d : _) → 0 ≤ i → i < l.low
      → g.Q.Question.holds l.question (get_or l.items i d) ≡ true;
  behind : IsPartitionedBy (g.Q.Question.holds l.question) l.items → (i : ℕ) (d : _) → l.high ≤ i → i < length l.items
      → g.Q.Question.holds l.question (get_or l.items i d) ≡ false;
}

abbrev pub decreases-search : goal.decreases-search
decreases-search g l = l.high - l.low
