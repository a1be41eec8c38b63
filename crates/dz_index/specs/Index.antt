-- Meaning: the place of a name among the owners of a zone in canonical order (RFC 4034 section 6.1), and how many
-- comparisons a search takes.
use Rattle.std.specs.Prelude.{◌≡◌, ℕ, ◌+◌, ◌-◌, ◌*◌, ◌≤◌, ◌^◌, nat_lt, true, false, List, [], length, if◌then◌else◌}
use Rattle.std.specs.Ordering.{is_lt, is_le}
use Rattle.std.specs.declared.cmp.Ordering.{Ordering}
use Rattle.std.specs.declared.cmp.Ordering.TheVariants.{Less}
use Rattle.std.specs.Prelude.{◌<◌, slice_index_or}
use Rattle.std.specs.List.Sorted.{IsPartitionPoint}
use Rattle.dz_name.specs.Name.{canonical_order}
use Rattle.dz_name.specs.Words.{Name}

-- so many owners come before the name, and no other does
abbrev pub IsFirstOf : Name → List Name → ℕ → Type 0
IsFirstOf name owners place =
    IsPartitionPoint (λ owner. is_lt (canonical_order owner name) ≡ true)
    (λ owner. is_lt (canonical_order owner name) ≡ false) owners place

-- so many owners come before the name or are it, and no other is
abbrev pub IsEndOf : Name → List Name → ℕ → Type 0
IsEndOf name owners place =
    IsPartitionPoint (λ owner. is_le (canonical_order owner name) ≡ true)
    (λ owner. is_le (canonical_order owner name) ≡ false) owners place

-- from one place up to another there is one owner, which is nowhere else
pub record IsRun (owners : List Name) (begin end : ℕ) : Type 0 where
  pub some : begin < end
  pub within : end ≤ length owners
  pub first : (d : Name) → IsFirstOf (slice_index_or owners begin d) owners begin
  pub last : (d : Name) → IsEndOf (slice_index_or owners begin d) owners end

-- how the last owner compares with a name: before it where there is none
abbrev pub order_behind : List Name → Name → Ordering
order_behind owners name =
    if nat_lt 0 (length owners) then canonical_order (slice_index_or owners (length owners - 1) []) name else Less

-- owners in canonical order, each of which may come more than once
abbrev pub InOrder : List Name → Type 0
InOrder owners = (at : ℕ) (d : Name) → at + 1 < length owners
    → is_le (canonical_order (slice_index_or owners at d) (slice_index_or owners (at + 1) d)) ≡ true

-- so many comparisons a search among so many names takes at most: one more than the binary logarithm of twice as many
abbrev pub IsSearch : ℕ → ℕ → Type 0
IsSearch names taken = 2 ^ taken ≤ 2 * names + 1

-- the same for a search and one comparison more, so that several searches add up
abbrev pub TakesAtMost : ℕ → ℕ → Type 0
TakesAtMost names taken = (bits : ℕ) → 2 * names + 2 ≤ 2 ^ (bits + 1) → taken ≤ bits + 1
