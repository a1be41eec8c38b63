-- In canonical order a name comes before those directly below it.
use Rattle.std.proofs.Common.{◌≡◌, ℕ, List, [], ◌∷◌, ◌++◌, reverse, refl, sym}
use Rattle.std.specs.Prelude.{Some}
use Rattle.std.specs.Cmp.{tied_itself}
use Rattle.std.specs.Cmp.Lexicographic.{slice_cmp}
use Rattle.std.specs.Ordering.{nat_cmp}
use Rattle.std.specs.declared.cmp.Ordering.{Ordering}
use Rattle.std.specs.declared.cmp.Ordering.TheVariants.{Less}
use Rattle.std.proofs.lemmas.Cmp.{nat_list_cmp_total}
use Rattle.std.proofs.lemmas.List.{reverse-append}
use Rattle.dz_name.specs.Name.{canonical_order, parent_of}

-- a list comes before itself with one more label
longer_later : (p : List (List ℕ)) (label : List ℕ) → slice_cmp (slice_cmp nat_cmp) p (p ++ label ∷ []) ≡ Less
longer_later [] label = refl
longer_later (y ∷ p) label = rw (tied_itself nat_list_cmp_total y) (longer_later p label)

-- a name comes before each name that is one label below it
pub parent_first : (name other : List (List ℕ)) → parent_of other ≡ Some name → canonical_order name other ≡ Less
parent_first name [] h = absurd (cc)
parent_first name (label ∷ labels) h =
    let e : labels ≡ name = cc in
    rw (← e, reverse-append (label ∷ []) labels) (longer_later (reverse labels) label)
