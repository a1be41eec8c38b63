-- A slot put among others, and the slot of a zone taken out.
use Rattle.std.proofs.Common.{◌≡◌, ◌≢◌, ℕ, ◌+◌, ◌≤◌, Bool, true, false, List, [], ◌∷◌, ◌++◌, length, length-append}
use Rattle.std.proofs.Common.{refl, sym, ◌∙◌, ap, arith, inl, inr}
use Rattle.std.specs.Prelude.{not, filter, Option, Some, None, if◌then◌else◌}
use Rattle.std.specs.Option.{option_or}
use Rattle.std.specs.List.{find}
use Rattle.std.specs.Ordering.{is_lt, ordering_reverse}
use Rattle.std.specs.declared.cmp.Ordering.{Ordering}
use Rattle.std.specs.declared.cmp.Ordering.TheVariants.{Less, Equal, Greater}
use Rattle.std.proofs.lemmas.Bool.{cases_Bool, false_from_ne_true}
use Rattle.std.proofs.lemmas.Cmp.{tied_itself}
use Rattle.std.proofs.lemmas.List.Kept.{IsStrictlySortedBy-filter}
use Rattle.dz_name.specs.Name.{canonical_order, same_name}
use Rattle.dz_name.specs.Order.{canonical_total, canonical_same, same_decides}
use Rattle.dz_table.specs.Slot.{SlotOf}
use Rattle.dz_table.specs.Table.{IsTable, comes_before, slot_order, put, without, slot_of}
use Rattle.dz_table.proofs.Rising.{rises_put}

pub put_rises : (slots new : List SlotOf) (slot : SlotOf) → IsTable slots → new ≡ put slots slot → IsTable new
unfolding put
put_rises slots new slot up e = rw e (rises_put (λ (s : SlotOf). s.zone) canonical_total slot slots up)

find_append : {X : Type 0} (p : X → Bool) (xs ys : List X) → find p (xs ++ ys) ≡ option_or (find p xs) (find p ys)
find_append p [] ys = refl
find_append p (x ∷ xs) ys = elim (cases_Bool (p x)) [ inl t ↦ rw t refl | inr f ↦ rw f (find_append p xs ys) ]

-- a search among what passes a test that answers alike for all that is searched for
find_filter : {X : Type 0} (p q : X → Bool) (b : Bool) → ((x : X) → p x ≡ true → q x ≡ b) → (xs : List X)
    → find p (filter q xs) ≡ (if b then find p xs else None)
find_filter p q true h [] = refl
find_filter p q false h [] = refl
find_filter p q true h (x ∷ xs) =
    elim (cases_Bool (p x)) [
      | inl t ↦ rw (h x t, t) refl
      | inr f ↦ elim (cases_Bool (q x))
          [ inl t ↦ rw (t, f) (find_filter p q true h xs) | inr g ↦ rw (g, f) (find_filter p q true h xs) ]
    ]
find_filter p q false h (x ∷ xs) =
    elim (cases_Bool (p x)) [
      | inl t ↦ rw (h x t) (find_filter p q false h xs)
      | inr f ↦ elim (cases_Bool (q x))
          [ inl t ↦ rw (t, f) (find_filter p q false h xs) | inr g ↦ rw g (find_filter p q false h xs) ]
    ]

same_zone : (zone : List (List ℕ)) (s : SlotOf) → same_name s.zone zone ≡ true → s.zone ≡ zone
same_zone zone s t = (same_decides s.zone zone).0 t

not_before_itself : (zone : List (List ℕ)) → comes_before zone zone ≡ false
not_before_itself zone = ap is_lt (tied_itself canonical_total zone)

-- of two names that aren't one, one comes before the other
data Apart (a b : List (List ℕ)) : Type 0 where
  first : comes_before a b ≡ true → comes_before b a ≡ false → Apart a b
  second : comes_before a b ≡ false → comes_before b a ≡ true → Apart a b

apart : (a b : List (List ℕ)) → a ≢ b → Apart a b
apart a b ne =
    elim (canonical_order a b) as (λ o. canonical_order a b ≡ o → Apart a b) [
      | Less ↦ λ e. first (ap is_lt e)
          (let r : canonical_order b a ≡ Greater = canonical_total.antisymm b a ∙ (rw e refl) in ap is_lt r)
      | Equal ↦ λ e. absurd (ne (canonical_same a b e))
      | Greater ↦ λ e. second (ap is_lt e)
          (let r : canonical_order b a ≡ Less = canonical_total.antisymm b a ∙ (rw e refl) in ap is_lt r)
    ] refl

pub put_own : (slots new : List SlotOf) (slot : SlotOf) → new ≡ put slots slot → slot_of slot.zone new ≡ Some slot
unfolding put
put_own slots new slot e =
    let front : find (λ s. same_name s.zone slot.zone) (filter (λ s. comes_before s.zone slot.zone) slots) ≡ None =
    find_filter (λ s. same_name s.zone slot.zone) (λ s. comes_before s.zone slot.zone) false
    (λ s t. ap (λ z. comes_before z slot.zone) (same_zone slot.zone s t) ∙ not_before_itself slot.zone) slots in
    let t : same_name slot.zone slot.zone ≡ true = (same_decides slot.zone slot.zone).1 refl in
    rw (e, find_append (λ (s : SlotOf). same_name s.zone slot.zone), front, t) refl

or_none : (r : Option SlotOf) → option_or r None ≡ r
or_none None = refl
or_none (Some slot) = refl

pub put_others : (slots new : List SlotOf) (slot : SlotOf) (zone : List (List ℕ)) → new ≡ put slots slot
    → zone ≢ slot.zone → slot_of zone new ≡ slot_of zone slots
unfolding put
put_others slots new slot zone e ne =
    let front : (b : Bool) → comes_before zone slot.zone ≡ b → find (λ s. same_name s.zone zone)
    (filter (λ s. comes_before s.zone slot.zone) slots) ≡ (if b then slot_of zone slots else None) =
    λ b h. find_filter (λ s. same_name s.zone zone) (λ s. comes_before s.zone slot.zone) b
    (λ s t. ap (λ z. comes_before z slot.zone) (same_zone zone s t) ∙ h) slots in
    let back : (b : Bool) → comes_before slot.zone zone ≡ b → find (λ s. same_name s.zone zone)
    (filter (λ s. comes_before slot.zone s.zone) slots) ≡ (if b then slot_of zone slots else None) =
    λ b h. find_filter (λ s. same_name s.zone zone) (λ s. comes_before slot.zone s.zone) b
    (λ s t. ap (λ z. comes_before slot.zone z) (same_zone zone s t) ∙ h) slots in
    let f : same_name slot.zone zone ≡ false =
    false_from_ne_true (same_name slot.zone zone) (λ t. ne (sym (same_zone zone slot t))) in
    elim (apart zone slot.zone ne) [
      | first h k ↦ rw (e, find_append (λ (s : SlotOf). same_name s.zone zone), f, front true h, back false k)
          (or_none (slot_of zone slots))
      | second h k ↦ rw (e, find_append (λ (s : SlotOf). same_name s.zone zone), f, front false h, back true k) refl
    ]

pub without_rises : (slots new : List SlotOf) (zone : List (List ℕ)) → IsTable slots → new ≡ without slots zone
    → IsTable new
unfolding without
without_rises slots new zone up e =
    rw e (IsStrictlySortedBy-filter slot_order (λ s. not (same_name s.zone zone)) slots up)

pub without_own : (slots new : List SlotOf) (zone : List (List ℕ)) → new ≡ without slots zone → slot_of zone new ≡ None
unfolding without
without_own slots new zone e =
    rw e (find_filter (λ s. same_name s.zone zone) (λ s. not (same_name s.zone zone)) false (λ s t. ap not t) slots)

pub without_others : (slots new : List SlotOf) (zone other : List (List ℕ)) → new ≡ without slots zone → other ≢ zone
    → slot_of other new ≡ slot_of other slots
unfolding without
without_others slots new zone other e ne =
    let f : same_name other zone ≡ false =
    false_from_ne_true (same_name other zone) (λ t. ne ((same_decides other zone).0 t)) in
    rw e (find_filter (λ s. same_name s.zone other) (λ s. not (same_name s.zone zone)) true
    (λ s t. ap (λ z. not (same_name z zone)) (same_zone other s t) ∙ ap not f) slots)

-- one slot more at most
sides : (zone : List (List ℕ)) (slots : List SlotOf) → length (filter (λ s. comes_before s.zone zone) slots) + length
    (filter (λ s. comes_before zone s.zone) slots) ≤ length slots
sides zone [] = omega arith
sides zone (s ∷ slots) = go (canonical_order zone s.zone) refl (sides zone slots)
  where
    go : (o : Ordering) → canonical_order zone s.zone ≡ o → length (filter (λ s. comes_before s.zone zone) slots)
        + length (filter (λ s. comes_before zone s.zone) slots) ≤ length slots
        → length (filter (λ s. comes_before s.zone zone) (s ∷ slots)) + length
        (filter (λ s. comes_before zone s.zone) (s ∷ slots)) ≤ length (s ∷ slots)
    go Less e h = rw (e, canonical_total.antisymm s.zone zone ∙ ap ordering_reverse e) (omega arith)
    go Equal e h = rw (e, canonical_total.antisymm s.zone zone ∙ ap ordering_reverse e) (omega arith)
    go Greater e h = rw (e, canonical_total.antisymm s.zone zone ∙ ap ordering_reverse e) (omega arith)

pub put_longer : (slots new : List SlotOf) (slot : SlotOf) → new ≡ put slots slot → length new ≤ length slots + 1
unfolding put
put_longer slots new slot e =
    omega (
      arith,
      ap length e,
      sides slot.zone slots,
      length-append (filter (λ s. comes_before s.zone slot.zone) slots)
          (slot ∷ filter (λ s. comes_before slot.zone s.zone) slots),
    )
