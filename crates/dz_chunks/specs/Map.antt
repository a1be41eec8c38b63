-- Meaning: a finite map as its entries in ascending order of their keys. `find`, `put` and `is_sorted` are those of
-- the standard library.
use Rattle.std.specs.Prelude.{ℕ, not, Bool, List, filter, Option, None}
use Rattle.std.specs.List.{last_or, position}
use Rattle.std.specs.Ordering.{eq_by_cmp, is_gt}
use Rattle.std.specs.FinMap.Entries.{where_key}
use Rattle.std.specs.declared.cmp.Ordering.{Ordering}

module _ {K X : Type 0} (R : K → K → Ordering) where
  -- the map without its entry at a key, if it has one
  abbrev pub without_key : K → List (K × X) → List (K × X)
  without_key key = where_key R (λ other. not (eq_by_cmp R key other))

  -- an entry whose key doesn't come after this one
  abbrev pub is_upto : K → K × X → Bool
  is_upto key entry = not (is_gt (R entry.0 key))

  -- the last of these entries, if there is one
  abbrev pub last_upto : K → List (K × X) → Option (K × X)
  last_upto key entries = last_or None (filter (is_upto key) entries)

  -- how many entries come before the one at a key, if it has one
  abbrev pub place_in : K → List (K × X) → Option ℕ
  place_in key = position (λ entry. eq_by_cmp R key entry.0)
