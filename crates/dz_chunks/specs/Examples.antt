-- Judge: maps and their chunks, computed by the checker.
use Rattle.std.specs.Prelude.{◌≡◌, ℕ, Some, None, [], ◌∷◌, refl}
use Rattle.std.specs.Ordering.{nat_cmp}
use Rattle.std.specs.FinMap.{find, put}
use Rattle.dz_chunks.specs.Map.{last_upto, place_in, without_key}
use Rattle.dz_chunks.specs.Chunked.{flat}
use Rattle.dz_chunks.specs.inner.Chunked.{length_at, length_before}
use Rattle.dz_chunks.specs.inner.Ranked.{ends_after}

-- a key is put in its place, and takes the value of an equal one
pub put_between : put {X = ℕ} nat_cmp 3 30 ((1, 10) ∷ (5, 50) ∷ []) ≡ (1, 10) ∷ (3, 30) ∷ (5, 50) ∷ []
put_between = refl

pub put_again : put {X = ℕ} nat_cmp 5 55 ((1, 10) ∷ (5, 50) ∷ []) ≡ (1, 10) ∷ (5, 55) ∷ []
put_again = refl

-- a key that isn't there is not found
pub found : find {X = ℕ} nat_cmp 5 ((1, 10) ∷ (5, 50) ∷ []) ≡ Some 50
found = refl

pub not_found : find {X = ℕ} nat_cmp 3 ((1, 10) ∷ (5, 50) ∷ []) ≡ None
not_found = refl

-- a key is taken out, and one that isn't there changes nothing
pub taken_out : without_key {X = ℕ} nat_cmp 5 ((1, 10) ∷ (5, 50) ∷ []) ≡ (1, 10) ∷ []
taken_out = refl

pub not_there : without_key {X = ℕ} nat_cmp 3 ((1, 10) ∷ (5, 50) ∷ []) ≡ (1, 10) ∷ (5, 50) ∷ []
not_there = refl

-- the last entry up to a key: that of the key itself, or else of the one before, or none
pub upto_itself : last_upto {X = ℕ} nat_cmp 5 ((1, 10) ∷ (5, 50) ∷ (7, 70) ∷ []) ≡ Some (5, 50)
upto_itself = refl

pub upto_between : last_upto {X = ℕ} nat_cmp 6 ((1, 10) ∷ (5, 50) ∷ (7, 70) ∷ []) ≡ Some (5, 50)
upto_between = refl

pub upto_last : last_upto {X = ℕ} nat_cmp 9 ((1, 10) ∷ (5, 50) ∷ (7, 70) ∷ []) ≡ Some (7, 70)
upto_last = refl

pub all_after : last_upto {X = ℕ} nat_cmp 0 ((1, 10) ∷ (5, 50) ∷ []) ≡ None
all_after = refl

-- how many entries come before a key, where it is there
pub second_place : place_in {X = ℕ} nat_cmp 5 ((1, 10) ∷ (5, 50) ∷ (7, 70) ∷ []) ≡ Some 1
second_place = refl

pub no_place : place_in {X = ℕ} nat_cmp 6 ((1, 10) ∷ (5, 50) ∷ (7, 70) ∷ []) ≡ None
no_place = refl

-- the entries of two chunks, where each ends, and the lengths of a chunk and of its neighbours
pub entries_of_two : flat {A = ℕ} ((1 ∷ 2 ∷ []) ∷ (3 ∷ []) ∷ []) ≡ 1 ∷ 2 ∷ 3 ∷ []
entries_of_two = refl

pub ends_of_two : ends_after {A = ℕ} 0 ((1 ∷ 2 ∷ []) ∷ (3 ∷ []) ∷ []) ≡ 2 ∷ 3 ∷ []
ends_of_two = refl

pub second_length : length_at {A = ℕ} ((1 ∷ 2 ∷ []) ∷ (3 ∷ []) ∷ []) 1 ≡ 1
second_length = refl

pub no_third : length_at {A = ℕ} ((1 ∷ 2 ∷ []) ∷ (3 ∷ []) ∷ []) 2 ≡ 128
no_third = refl

pub none_before : length_before {A = ℕ} ((1 ∷ 2 ∷ []) ∷ (3 ∷ []) ∷ []) 0 ≡ 128
none_before = refl
