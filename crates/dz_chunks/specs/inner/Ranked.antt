-- Inner: where the chunks of a map end among its entries.
use Rattle.std.specs.Prelude.{◌≡◌, ℕ, ◌+◌, List, [], ◌∷◌, length}
use Rattle.std.specs.declared.cmp.Ordering.{Ordering}
use Rattle.dz_chunks.specs.inner.Chunked.{IsChunked}

-- how many entries there are up to the end of each chunk, where so many come before the first
abbrev pub ends_after : {A : Type 0} → ℕ → List (List A) → List ℕ
ends_after before [] = []
ends_after before (c ∷ cs) = (before + length c) ∷ ends_after (before + length c) cs

-- the chunks of a map, and where each ends
pub record IsRanked {K X : Type 0} (R : K → K → Ordering) (cs : List (List (K × X))) (ends : List ℕ) : Type 0 where
  pub chunked : IsChunked R cs
  pub counted : ends ≡ ends_after 0 cs
