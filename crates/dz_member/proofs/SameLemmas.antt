-- Lists that rise by their keys, and have at each key the same, are one.
use Rattle.std.proofs.Common.{◌≡◌, false, Bool, List, [], ◌∷◌, map, refl, sym, ◌∙◌, ap, subst, inl, inr}
use Rattle.std.proofs.Common.{Ordering, Less, Equal}
use Rattle.std.specs.Prelude.{Option, Some, None}
use Rattle.std.specs.Bool.{Decides}
use Rattle.std.specs.Cmp.{IsTotalOrder}
use Rattle.std.specs.Ordering.{ordering_reverse}
use Rattle.std.specs.List.{find, AllByRecursion}
use Rattle.std.specs.List.Sorted.{IsStrictlySortedBy}
use Rattle.std.proofs.lemmas.Bool.{cases_Bool}
use Rattle.std.proofs.lemmas.Map.Keys.{sorted_head, sorted_tail}
use Rattle.dz_name.specs.Words.{Name}
use Rattle.dz_name.specs.Name.{canonical_order, same_name}
use Rattle.dz_name.specs.Order.{canonical_total, canonical_same, same_decides}
use Rattle.dz_member.specs.declared.change.Change.{Change}
use Rattle.dz_member.specs.Membership.{MemberOf}
use Rattle.dz_member.specs.Fold.{member_of}
use Rattle.dz_member.proofs.WalkLemmas.{here, nothing, below_all}
use Rattle.dz_member.proofs.EachLemmas.{by_order}

module _ {K X : Type 0} (R : K → K → Ordering) (o : IsTotalOrder R) (same : K → K → Bool)
    (decides : (a b : K) → Decides (same a b) (a ≡ b)) (exact : (a b : K) → R a b ≡ Equal → a ≡ b)
    (key : X → K) where
  abbrev Rise : List X → Type 0
  Rise xs = IsStrictlySortedBy R (map key xs)

  abbrev at : K → List X → Option X
  at z xs = find (λ x. same (key x) z) xs

  some_none : (x : X) → Some x ≡ None → ⊥
  some_none x e = cc

  absent : (z : K) (xs : List X) → AllByRecursion (λ k. R z k ≡ Less) (map key xs) → at z xs ≡ None
  absent z xs a = nothing R o same decides key z xs a

  present : (x : X) (xs : List X) → at (key x) (x ∷ xs) ≡ Some x
  present x xs = here R o same decides key x xs

  above : (z : K) (x : X) (xs : List X) → Rise (x ∷ xs) → R z (key x) ≡ Less
      → AllByRecursion (λ k. R z k ≡ Less) (map key (x ∷ xs))
  above z x xs up l = below_all R o same decides key key (λ z m n. z) key z x xs up l

  rest_same : (a b : X) (front back : List X) → Rise (a ∷ front) → Rise (b ∷ back) → key a ≡ key b
      → ((z : K) → at z (a ∷ front) ≡ at z (b ∷ back)) → (z : K) → at z front ≡ at z back
  rest_same a b front back up rise one h z =
      elim (cases_Bool (same (key a) z)) [
        | inl t ↦
            let is : key a ≡ z = (decides (key a) z).0 t in
            let p : at (key a) front ≡ None = absent (key a) front (sorted_head R (key a) (map key front) up) in
            let q : at (key b) back ≡ None = absent (key b) back (sorted_head R (key b) (map key back) rise) in
            subst (λ (y : K). at y front ≡ at y back) is
            (p ∙ sym (subst (λ (y : K). at y back ≡ None) (sym one) q))
        | inr f ↦
            let g : same (key b) z ≡ false = subst (λ (y : K). same y z ≡ false) one f in
            (rw (f, g) at (h z))
      ]

  pub same_by_key : (front back : List X) → Rise front → Rise back → ((z : K) → at z front ≡ at z back)
      → front ≡ back
  same_by_key [] [] up rise h = refl
  same_by_key [] (b ∷ back) up rise h = absurd (some_none b (sym (present b back) ∙ sym (h (key b))))
  same_by_key (a ∷ front) [] up rise h = absurd (some_none a (sym (present a front) ∙ h (key a)))
  same_by_key (a ∷ front) (b ∷ back) up rise h =
      by_order (R (key a) (key b))
      (λ l. absurd
      (some_none a (sym (present a front) ∙ h (key a) ∙ absent (key a) (b ∷ back) (above (key a) b back rise l))))
      (λ e.
      let one = exact (key a) (key b) e in
      let first : Some a ≡ Some b = sym (present a front) ∙ h (key a)
      ∙ subst (λ (y : K). at y (b ∷ back) ≡ Some b) (sym one) (present b back) in
      let heads : a ≡ b = cc in
      let tails = same_by_key front back (sorted_tail R (key a) (map key front) up)
      (sorted_tail R (key b) (map key back) rise) (rest_same a b front back up rise one h) in
      λ i. heads i ∷ tails i)
      (λ g.
      let l : R (key b) (key a) ≡ Less = o.antisymm (key b) (key a) ∙ ap ordering_reverse g in
      absurd
      (some_none b (sym (present b back) ∙ sym (h (key b)) ∙ absent (key b) (a ∷ front) (above (key b) a front up l))))

pub members_by_zone : (front back : List MemberOf) → IsStrictlySortedBy canonical_order (map (λ m. m.zone) front)
    → IsStrictlySortedBy canonical_order (map (λ m. m.zone) back)
    → ((zone : Name) → member_of zone front ≡ member_of zone back) → front ≡ back
members_by_zone front back up rise h =
    same_by_key canonical_order canonical_total same_name same_decides canonical_same (λ (m : MemberOf). m.zone) front
    back up rise h

pub changes_by_zone : (front back : List Change) → IsStrictlySortedBy canonical_order (map (λ c. c.zone) front)
    → IsStrictlySortedBy canonical_order (map (λ c. c.zone) back)
    → ((zone : Name) → find (λ c. same_name c.zone zone) front ≡ find (λ c. same_name c.zone zone) back)
    → front ≡ back
changes_by_zone front back up rise h =
    same_by_key canonical_order canonical_total same_name same_decides canonical_same (λ (c : Change). c.zone) front
    back up rise h
