-- Judge: sort keys and places of names, computed by the checker.
use Rattle.std.specs.Prelude.{◌≡◌, [], ◌∷◌, codes, refl, ℕ, List, length, flat_map, replicate}
use Rattle.std.specs.Ordering.{nat_cmp, is_lt}
use Rattle.std.specs.Cmp.Lexicographic.{slice_cmp}
use Rattle.std.specs.declared.cmp.Ordering.TheVariants.{Less}
use Rattle.dz_index.specs.SortKey.{key_of, octet_before, label_before, keys_of}
use Rattle.std.specs.List.{filter}
use Rattle.dz_name.specs.Words.{Name}
use Rattle.dz_name.specs.Name.{canonical_order}
use Rattle.dz_index.specs.declared.index.TheConstants.{OWNERS}

-- the root has no label
pub key_of_the_root : key_of [] ≡ []
unfolding keys_of
key_of_the_root = refl

-- the last label comes first, and each is ended by 0
pub labels_from_the_last : key_of (codes "ab" ∷ codes "c" ∷ []) ≡ 99 ∷ 0 ∷ 97 ∷ 98 ∷ 0 ∷ []
unfolding keys_of label_before octet_before
labels_from_the_last = refl

-- the octets 0 and 1 are written as two
pub low_octets_as_two : key_of ((0 ∷ 1 ∷ 2 ∷ []) ∷ []) ≡ 1 ∷ 1 ∷ 1 ∷ 2 ∷ 2 ∷ 0 ∷ []
unfolding keys_of label_before octet_before
low_octets_as_two = refl

-- a name comes before those below it, and a label before one that begins with it, whatever octet follows
pub shorter_label_first : slice_cmp nat_cmp (key_of (codes "a" ∷ [])) (key_of ((97 ∷ 0 ∷ []) ∷ [])) ≡ Less
unfolding keys_of label_before octet_before
shorter_label_first = refl

pub below_before_longer_label : slice_cmp nat_cmp (key_of (codes "z" ∷ codes "a" ∷ [])) (key_of ((97 ∷ 0 ∷ []) ∷ []))
    ≡ Less
unfolding keys_of label_before octet_before
below_before_longer_label = refl

-- ---- the place of a name: so many owners come before it (`IsFirstOf`); the first four names of RFC 4034 section
-- 6.1, each three times
abbrev example : Name
example = codes "example" ∷ []

abbrev owners : List Name
owners = flat_map (replicate 3) (example ∷ (codes "a" ∷ example) ∷ (codes "yljkjljk" ∷ codes "a" ∷ example) ∷
    (codes "z" ∷ codes "a" ∷ example) ∷ [])

abbrev place_of : Name → ℕ
place_of name = length (filter (λ owner. is_lt (canonical_order owner name)) owners)

pub place_of_the_root : place_of [] ≡ 0
place_of_the_root = refl

pub place_of_the_first : place_of example ≡ 0
place_of_the_first = refl

pub place_of_the_second : place_of (codes "a" ∷ example) ≡ 3
place_of_the_second = refl

pub place_of_one_between : place_of (codes "y" ∷ codes "a" ∷ example) ≡ 6
place_of_one_between = refl

pub place_of_the_third : place_of (codes "yljkjljk" ∷ codes "a" ∷ example) ≡ 6
place_of_the_third = refl

pub place_of_the_fourth : place_of (codes "z" ∷ codes "a" ∷ example) ≡ 9
place_of_the_fourth = refl

pub place_behind_all : place_of (codes "zz" ∷ codes "a" ∷ example) ≡ 12
place_behind_all = refl

pub owners_is_750000 : OWNERS ≡ 750000
owners_is_750000 = refl
