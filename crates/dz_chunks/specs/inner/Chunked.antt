-- Inner: entries in the order of their keys, cut into chunks.
use Rattle.std.specs.Prelude.{◌≡◌, ℕ, zero, suc, ◌+◌, ◌<◌, ◌≤◌, Bool, true, false, not, T, List, [], ◌∷◌, ◌++◌, length}
use Rattle.std.specs.Prelude.{slice_index_or}
use Rattle.std.specs.Ordering.{is_lt, is_gt, is_eq}
use Rattle.std.specs.FinMap.{is_sorted}
use Rattle.std.specs.declared.cmp.Ordering.{Ordering}
use Rattle.std.specs.declared.cmp.Ordering.TheVariants.{Less, Greater}
use Rattle.dz_chunks.specs.Map.{is_upto}
use Rattle.dz_chunks.specs.Chunked.{flat, AreChunks}

-- each chunk has 128 entries
abbrev pub AreFull : {A : Type 0} → List (List A) → Type 0
AreFull [] = Unit {0}
AreFull (c ∷ cs) = (length c ≡ 128) × AreFull cs

-- there is a first entry, and these are the first octets of its key
abbrev pub IsLedBy : {K X : Type 0} → (K → List ℕ) → List ℕ → List (K × X) → Type 0
IsLedBy lead octets [] = ⊥
IsLedBy lead octets (e ∷ es) = octets ≡ lead e.0

-- the first octets of the key at a place, and of each sixteenth after it, as far as there are entries
module _ {K X : Type 0} (lead : K → List ℕ) where
  abbrev pub AreMarks : List (List ℕ) → ℕ → List (K × X) → Type 0
  AreMarks [] place es = Unit {0}
  AreMarks (m ∷ ms) place es =
      ((d : K × X) → place < length es → m ≡ lead (slice_index_or es place d).0) × AreMarks ms (place + 16) es

-- how many entries the chunk at a place has, and the one before it. Where there is none, 128: nothing is joined with
-- it
abbrev pub length_at : {A : Type 0} → List (List A) → ℕ → ℕ
length_at [] at = 128
length_at (c ∷ cs) zero = length c
length_at (c ∷ cs) (suc at) = length_at cs at

abbrev pub length_before : {A : Type 0} → List (List A) → ℕ → ℕ
length_before cs zero = 128
length_before cs (suc at) = length_at cs at

module _ {K X : Type 0} (R : K → K → Ordering) where
  -- each key comes before this one, or each comes after it
  abbrev pub AllBefore : K → List (K × X) → Type 0
  AllBefore k [] = Unit {0}
  AllBefore k (e ∷ es) = (R k e.0 ≡ Greater) × AllBefore k es

  abbrev pub AllBehind : K → List (K × X) → Type 0
  AllBehind k [] = Unit {0}
  AllBehind k (e ∷ es) = (R k e.0 ≡ Less) × AllBehind k es

  -- the last key comes before this one
  abbrev pub ends_before : K → List (K × X) → Bool
  ends_before k [] = false
  ends_before k (e ∷ []) = is_lt (R e.0 k)
  ends_before k (e ∷ f ∷ es) = ends_before k (f ∷ es)

  -- the first key doesn't come after this one
  abbrev pub begins_upto : K → List (K × X) → Bool
  begins_upto k [] = false
  begins_upto k (e ∷ es) = not (is_gt (R e.0 k))

module _ {K X : Type 0} (R : K → K → Ordering) where
  -- the first key doesn't come before this one
  abbrev pub NotBefore : K → List (K × X) → Type 0
  NotBefore k [] = Unit {0}
  NotBefore k (e ∷ es) = is_gt (R k e.0) ≡ false

  -- the key at a place doesn't come after this one, or it does
  abbrev pub IsUptoAt : K → List (K × X) → ℕ → Type 0
  IsUptoAt k es place = (d : K × X) → is_upto R k (slice_index_or es place d) ≡ true

  abbrev pub IsBehindAt : K → List (K × X) → ℕ → Type 0
  IsBehindAt k es place = (d : K × X) → is_upto R k (slice_index_or es place d) ≡ false

  -- the first key is this one
  abbrev pub begins_at : K → List (K × X) → Bool
  begins_at k [] = false
  begins_at k (e ∷ es) = is_eq (R k e.0)

-- the chunks of a map
pub record IsChunked {K X : Type 0} (R : K → K → Ordering) (cs : List (List (K × X))) : Type 0 where
  pub sorted : T (is_sorted R (flat cs))
  pub sized : AreChunks cs
