-- Slots after a listing, and a slot put in the place of that of its zone.
use Rattle.std.proofs.Common.{◌≡◌, ℕ, true, false, List, [], ◌∷◌, map, refl, sym, ◌∙◌, ap, subst, arith, inl, inr}
use Rattle.std.proofs.Common.{Some, None}
use Rattle.std.specs.Prelude.{Option, filter, ◌==◌, IsSome}
use Rattle.std.specs.Option.{unwrap_or}
use Rattle.std.specs.List.{AllByRecursion}
use Rattle.std.specs.List.Sorted.{IsStrictlySortedBy}
use Rattle.std.specs.Ordering.{on, is_lt, is_eq, ordering_reverse}
use Rattle.std.proofs.lemmas.Cmp.{tied_itself}
use Rattle.std.specs.declared.cmp.Ordering.{Ordering}
use Rattle.std.specs.declared.cmp.Ordering.TheVariants.{Less, Equal, Greater}
use Rattle.std.proofs.lemmas.Bool.{cases_Bool}
use Rattle.std.proofs.lemmas.Bool.Decides.{nat_tests}
use Rattle.dz_name.specs.Name.{same_name, canonical_order}
use Rattle.dz_name.specs.Order.{canonical_total, canonical_same, same_decides, same_ties}
use Rattle.dz_settings.specs.declared.config.CatalogSettings.{CatalogSettings}
use Rattle.dz_member.specs.declared.membership.Membership.{Membership}
use Rattle.dz_member.specs.Membership.{MemberOf, shown}
use Rattle.dz_table.specs.Slot.{SlotOf}
use Rattle.dz_table.specs.Table.{comes_before, put, slot_of}
use Rattle.dz_history.specs.State.{State, member_at}
use Rattle.dz_history.specs.After.{fresh, kept_slot, slot_from, slot_after}
use Rattle.dz_history.proofs.FindLemmas.{found_passes}

-- the slot of a member is of its zone
found_zone : (zone : List (List ℕ)) (slots : List SlotOf) (o : Option SlotOf) → slot_of zone slots ≡ o
    → (unwrap_or o (fresh zone)).zone ≡ zone
found_zone zone slots None e = refl
found_zone zone slots (Some slot) e =
    (same_decides slot.zone zone).0 (found_passes (λ s. same_name s.zone zone) slots slot (sym e))

kept_zone : (s : State) (m before : MemberOf) → (kept_slot s m before).zone ≡ m.zone
kept_zone s m before = elim (cases_Bool (before.incarnation == m.incarnation)) [
  | inl t ↦ rw t (found_zone m.zone s.table (slot_of m.zone s.table) refl)
  | inr f ↦ rw f refl
]

from_zone : (s : State) (m : MemberOf) (o : Option MemberOf) → (slot_from s m o).zone ≡ m.zone
from_zone s m None = refl
from_zone s m (Some before) = kept_zone s m before

pub slot_zone : (s : State) (m : MemberOf) → (slot_after s m).zone ≡ m.zone
unfolding slot_after
slot_zone s m = from_zone s m (member_at s m.zone)

pub slots_zones : (s : State) (ms : List MemberOf)
    → map (λ slot. slot.zone) (map (slot_after s) ms) ≡ map (λ m. m.zone) ms
slots_zones s [] = refl
slots_zones s (m ∷ ms) = rw (slot_zone s m, slots_zones s ms) refl

-- the numbers of a membership mean nothing that its slot asks for
pub slots_shown : (s : State) (a b : List CatalogSettings) (ms : List Membership)
    → map (λ m. slot_after s (shown a m)) ms ≡ map (slot_after s) (map (shown b) ms)
unfolding slot_after
slots_shown s a b [] = refl
slots_shown s a b (m ∷ ms) = rw (slots_shown s a b ms) refl

-- slots rise where their zones do
all_map : {X Y : Type 0} (f : X → Y) (P : Y → Type 0) (xs : List X) → AllByRecursion P (map f xs)
    → AllByRecursion (λ x. P (f x)) xs
all_map f P [] h = tt
all_map f P (x ∷ xs) h = (h.0, all_map f P xs h.1)

pub rises_by : {X Y : Type 0} (f : X → Y) (R : Y → Y → Ordering) (xs : List X) → IsStrictlySortedBy R (map f xs)
    → IsStrictlySortedBy (on f R) xs
unfolding IsStrictlySortedBy
rises_by f R [] h = tt
rises_by f R (x ∷ xs) h = (all_map f (λ y. R (f x) y ≡ Less) xs h.0, rises_by f R xs h.1)

pub shown_zones : (s : State) (c : List CatalogSettings) (ms : List Membership)
    → map (λ slot. slot.zone) (map (λ m. slot_after s (shown c m)) ms) ≡ map (λ m. m.zone) ms
shown_zones s c [] = refl
shown_zones s c (m ∷ ms) = rw (slot_zone s (shown c m), shown_zones s c ms) refl

-- the slot of a member that is as before, that is new, and that began again
pub slot_same : (s : State) (m before : MemberOf) → Some before ≡ member_at s m.zone
    → before.incarnation ≡ m.incarnation → slot_after s m ≡ unwrap_or (slot_of m.zone s.table) (fresh m.zone)
unfolding slot_after
slot_same s m before e t = ap (slot_from s m) (sym e)
    ∙ (let u : (before.incarnation == m.incarnation) ≡ true = grind (arith, nat_tests) in rw u refl)

pub slot_again : (s : State) (m before : MemberOf) → Some before ≡ member_at s m.zone
    → (before.incarnation ≡ m.incarnation → ⊥) → slot_after s m ≡ fresh m.zone
unfolding slot_after
slot_again s m before e f = ap (slot_from s m) (sym e)
    ∙ (let u : (before.incarnation == m.incarnation) ≡ false = grind (arith, nat_tests) in rw u refl)

pub slot_new : (s : State) (m : MemberOf) → None ≡ member_at s m.zone → slot_after s m ≡ fresh m.zone
unfolding slot_after
slot_new s m e = ap (slot_from s m) (sym e)

-- ---- a slot in the place of that of its zone
greater_than : (z k : List (List ℕ)) → canonical_order z k ≡ Less → comes_before k z ≡ false
greater_than z k h = ap is_lt (canonical_total.antisymm k z ∙ ap ordering_reverse h)

other_than : (z k : List (List ℕ)) → canonical_order z k ≡ Less → same_name k z ≡ false
other_than z k h = same_ties k z ∙ ap is_eq (canonical_total.antisymm k z ∙ ap ordering_reverse h)

all_behind : (z : List (List ℕ)) (slots : List SlotOf)
    → AllByRecursion (λ k. canonical_order z k ≡ Less) (map (λ s. s.zone) slots)
    → filter (λ s. comes_before z s.zone) slots ≡ slots
all_behind z [] h = refl
all_behind z (s ∷ ss) h = rw (h.0, all_behind z ss h.1) refl

none_before : (z : List (List ℕ)) (slots : List SlotOf)
    → AllByRecursion (λ k. canonical_order z k ≡ Less) (map (λ s. s.zone) slots)
    → filter (λ s. comes_before s.zone z) slots ≡ []
none_before z [] h = refl
none_before z (s ∷ ss) h = rw (greater_than z s.zone h.0, none_before z ss h.1) refl

none_found : (z : List (List ℕ)) (slots : List SlotOf)
    → AllByRecursion (λ k. canonical_order z k ≡ Less) (map (λ s. s.zone) slots) → slot_of z slots ≡ None
none_found z [] h = refl
none_found z (s ∷ ss) h = rw (other_than z s.zone h.0, none_found z ss h.1) refl

further : (z x : List (List ℕ)) → canonical_order z x ≡ Less → (ks : List (List (List ℕ)))
    → AllByRecursion (λ k. canonical_order x k ≡ Less) ks → AllByRecursion (λ k. canonical_order z k ≡ Less) ks
further z x lt [] h = tt
further z x lt (k ∷ ks) h = (canonical_total.trans z x k lt h.0, further z x lt ks h.1)

put_here : (slot x : SlotOf) (xs : List SlotOf) → slot.zone ≡ x.zone
    → AllByRecursion (λ k. canonical_order x.zone k ≡ Less) (map (λ s. s.zone) xs)
    → map (λ s. s.zone) (put (x ∷ xs) slot) ≡ map (λ s. s.zone) (x ∷ xs)
unfolding put
put_here slot x xs e up =
    let after = subst (λ z. AllByRecursion (λ k. canonical_order z k ≡ Less) (map (λ s. s.zone) xs)) (sym e) up in
    let tie : comes_before x.zone slot.zone ≡ false =
    ap is_lt (subst (λ z. canonical_order x.zone z ≡ Equal) (sym e) (tied_itself canonical_total x.zone)) in
    let tied : comes_before slot.zone x.zone ≡ false =
    ap is_lt (subst (λ z. canonical_order z x.zone ≡ Equal) (sym e) (tied_itself canonical_total x.zone)) in
    rw (tie, tied, none_before slot.zone xs after, all_behind slot.zone xs after, e) refl

put_further : (slot x : SlotOf) (xs : List SlotOf) → canonical_order x.zone slot.zone ≡ Less
    → put (x ∷ xs) slot ≡ x ∷ put xs slot
unfolding put
put_further slot x xs lt = rw (lt, greater_than x.zone slot.zone lt) refl

missing : {A : Type 0} (o : Option SlotOf) → o ≡ None → IsSome o → A
missing None e h = absurd (cc)
missing (Some x) e h = absurd (cc)

at_first : (slot x : SlotOf) (xs : List SlotOf) (o : Ordering) → canonical_order slot.zone x.zone ≡ o
    → AllByRecursion (λ k. canonical_order x.zone k ≡ Less) (map (λ s. s.zone) xs)
    → (IsSome (slot_of slot.zone xs) → map (λ s. s.zone) (put xs slot) ≡ map (λ s. s.zone) xs)
    → IsSome (slot_of slot.zone (x ∷ xs))
    → map (λ s. s.zone) (put (x ∷ xs) slot) ≡ map (λ s. s.zone) (x ∷ xs)
at_first slot x xs Less e up rest h = missing (slot_of slot.zone (x ∷ xs))
    (none_found slot.zone (x ∷ xs) (e, further slot.zone x.zone e (map (λ s. s.zone) xs) up)) h
at_first slot x xs Equal e up rest h = put_here slot x xs (canonical_same slot.zone x.zone e) up
at_first slot x xs Greater e up rest h =
    let lt : canonical_order x.zone slot.zone ≡ Less =
    canonical_total.antisymm x.zone slot.zone ∙ ap ordering_reverse e in
    let other : same_name x.zone slot.zone ≡ false = same_ties x.zone slot.zone ∙ ap is_eq lt in
    ap (map (λ s. s.zone)) (put_further slot x xs lt) ∙ ap (λ zs. x.zone ∷ zs) (rest (rw other at h))

pub put_zones : (slot : SlotOf) (slots : List SlotOf) → IsStrictlySortedBy canonical_order (map (λ s. s.zone) slots)
    → IsSome (slot_of slot.zone slots)
    → map (λ s. s.zone) (put slots slot) ≡ map (λ s. s.zone) slots
unfolding IsStrictlySortedBy
put_zones slot [] up h = absurd (cc)
put_zones slot (x ∷ xs) up h =
    at_first slot x xs (canonical_order slot.zone x.zone) refl up.0 (λ k. put_zones slot xs up.1 k) h
