-- The last entry up to a name, among the entries of a table.
use Rattle.std.proofs.Common.{◌≡◌, ℕ, Bool, true, false, not, List, [], ◌∷◌, refl, sym, ◌∙◌, ap, inl, inr}
use Rattle.std.specs.Prelude.{filter, Option, Some, None}
use Rattle.std.specs.List.{AllByRecursion, last_or}
use Rattle.std.specs.List.Sorted.{IsStrictlySortedBy}
use Rattle.std.specs.Option.{is_some}
use Rattle.std.specs.Ordering.{is_gt}
use Rattle.std.specs.Cmp.{tied_itself, alike_right}
use Rattle.std.specs.declared.cmp.Ordering.{Ordering}
use Rattle.std.specs.declared.cmp.Ordering.TheVariants.{Less, Equal, Greater}
use Rattle.std.proofs.lemmas.Bool.{cases_Bool, false≢true, false_from_ne_true}
use Rattle.dz_chunks.specs.Map.{is_upto, last_upto}
use Rattle.dz_name.specs.Name.{canonical_order, same_name, IsWithin}
use Rattle.dz_name.specs.Order.{canonical_total, same_decides}
use Rattle.dz_table.specs.Slot.{SlotOf}
use Rattle.dz_table.specs.Table.{IsTable, closest}
use Rattle.dz_table.specs.inner.Kept.{entries_of, slots_of, IsKept}
use Rattle.dz_table.proofs.Rising.{all_weaker}
use Rattle.dz_table.proofs.Nearest.{IsLast, none_closest, above_first}

not_true : (b : Bool) → not b ≡ true → b ≡ false
not_true true h = absurd (false≢true h)
not_true false h = refl

not_false : (b : Bool) → not b ≡ false → b ≡ true
not_false true h = refl
not_false false h = absurd (false≢true (sym h))

-- what comes before a name that doesn't come after another one comes before that
less_upto : (a b name : List (List ℕ)) → canonical_order a b ≡ Less → is_gt (canonical_order b name) ≡ false
    → canonical_order a name ≡ Less
less_upto a b name lt h = go (canonical_order b name) refl h
  where
    go : (o : Ordering) → canonical_order b name ≡ o → is_gt o ≡ false → canonical_order a name ≡ Less
    go Less e g = canonical_total.trans a b name lt e
    go Equal e g = sym (alike_right canonical_total b name a e) ∙ lt
    go Greater e g = absurd (false≢true (sym g))

after_later : (a b name : List (List ℕ)) → canonical_order a b ≡ Less → is_gt (canonical_order a name) ≡ true
    → is_gt (canonical_order b name) ≡ true
after_later a b name lt h = elim (cases_Bool (is_gt (canonical_order b name))) [
  | inl t ↦ t
  | inr f ↦ absurd (false≢true (sym (ap is_gt (less_upto a b name lt f)) ∙ h))
]

all_after : (name : List (List ℕ)) (s : SlotOf) (slots : List SlotOf)
    → IsTable (s ∷ slots) → is_gt (canonical_order s.zone name) ≡ true
    → AllByRecursion (λ t. is_gt (canonical_order t.zone name) ≡ true) slots
unfolding IsStrictlySortedBy
all_after name s slots up h =
    all_weaker (λ t. canonical_order s.zone t.zone ≡ Less) (λ t. is_gt (canonical_order t.zone name) ≡ true)
    (λ t lt. after_later s.zone t.zone name lt h) slots up.0

none_passes : (name : List (List ℕ)) (slots : List SlotOf) (o : Option (List (List ℕ) × SlotOf))
    → AllByRecursion (λ t. is_gt (canonical_order t.zone name) ≡ true) slots
    → last_or o (filter (is_upto canonical_order name) (entries_of slots)) ≡ o
none_passes name [] o h = refl
none_passes name (s ∷ slots) o h = rw h.0 (none_passes name slots o h.1)

last_is_some : {A : Type 0} (x : A) (xs : List A) → is_some (last_or (Some x) xs) ≡ true
last_is_some x [] = refl
last_is_some x (y ∷ xs) = last_is_some y xs

abbrev entry_in : Option (List (List ℕ) × SlotOf) → SlotOf → List (List ℕ) × SlotOf
entry_in None a = (a.zone, a)
entry_in (Some entry) a = entry

same_entry : (a s : SlotOf) (zone : List (List ℕ))
    → ◌≡◌ {A = Option (List (List ℕ) × SlotOf)} (Some (zone, s)) (Some (a.zone, a)) → (zone ≡ a.zone) × (s ≡ a)
same_entry a s zone e = (ap (λ o. (entry_in o a).0) e, ap (λ o. (entry_in o a).1) e)

-- what a search among the slots after one up to the name finds
pub record Found (slots : List SlotOf) (name zone : List (List ℕ)) (s : SlotOf) : Type 0 where
  pub at : zone ≡ s.zone
  pub is : IsLast slots name s

not_behind : (a s : SlotOf) → canonical_order a.zone s.zone ≡ Less → same_name a.zone s.zone ≡ false
not_behind a s lt = false_from_ne_true (same_name a.zone s.zone) (λ t.
    let same = (same_decides a.zone s.zone).0 t in
    let tied = tied_itself canonical_total s.zone in
    let bad : canonical_order s.zone s.zone ≡ Less = rw same at lt in
    cc)

found_here : (a : SlotOf) (slots : List SlotOf) (name : List (List ℕ)) → is_gt (canonical_order a.zone name) ≡ false
    → AllByRecursion (λ t. is_gt (canonical_order t.zone name) ≡ true) slots → IsLast (a ∷ slots) name a
found_here a slots name low h =
    let itself : same_name a.zone a.zone ≡ true = (same_decides a.zone a.zone).1 refl in
    record {
      own = rw itself refl;
      upto = low;
      last = (
        λ x. ap is_gt (tied_itself canonical_total a.zone),
        all_weaker (λ t. is_gt (canonical_order t.zone name) ≡ true)
            (λ t. is_gt (canonical_order t.zone name) ≡ false → is_gt (canonical_order t.zone a.zone) ≡ false)
            (λ t y n. absurd (false≢true (sym n ∙ y))) slots h,
      );
    }

found_behind : (a b s : SlotOf) (slots : List SlotOf) (name : List (List ℕ)) → canonical_order a.zone b.zone ≡ Less
    → is_gt (canonical_order b.zone name) ≡ false → IsLast (b ∷ slots) name s → IsLast (a ∷ b ∷ slots) name s
found_behind a b s slots name lt low is =
    let less : canonical_order a.zone s.zone ≡ Less = less_upto a.zone b.zone s.zone lt (is.last.0 low) in
    record {
      own = rw (not_behind a s less) is.own;
      upto = is.upto;
      last = (λ x. ap is_gt less, is.last);
    }

last_behind : (a : SlotOf) (slots : List SlotOf) (name zone : List (List ℕ)) (s : SlotOf) → IsTable (a ∷ slots)
    → is_gt (canonical_order a.zone name) ≡ false
    → Some (zone, s) ≡ last_or (Some (a.zone, a)) (filter (is_upto canonical_order name) (entries_of slots))
    → Found (a ∷ slots) name zone s
unfolding IsStrictlySortedBy
last_behind a [] name zone s up low e =
    let same = same_entry a s zone e in
    rw same.1 (record { at = same.0; is = found_here a [] name low tt })
last_behind a (b ∷ slots) name zone s up low e = elim (cases_Bool (is_gt (canonical_order b.zone name))) [
  | inl t ↦
      let all : AllByRecursion (λ t. is_gt (canonical_order t.zone name) ≡ true) (b ∷ slots) =
      (t, all_after name b slots up.1 t) in
      let same = same_entry a s zone (e ∙ none_passes name (b ∷ slots) (Some (a.zone, a)) all) in
      rw same.1 (record { at = same.0; is = found_here a (b ∷ slots) name low all })
  | inr f ↦
      let next : ◌≡◌ {A = Option (List (List ℕ) × SlotOf)} (Some (zone, s))
      (last_or (Some (b.zone, b)) (filter (is_upto canonical_order name) (entries_of slots))) = rw f at e in
      let r = last_behind b slots name zone s up.1 f next in
      record { at = r.at; is = found_behind a b s slots name up.0.0 f r.is }
]

last_slot : (slots : List SlotOf) (name zone : List (List ℕ)) (s : SlotOf) → IsTable slots
    → Some (zone, s) ≡ last_upto canonical_order name (entries_of slots) → Found slots name zone s
last_slot [] name zone s up e = absurd (cc)
last_slot (a ∷ slots) name zone s up e = elim (cases_Bool (is_gt (canonical_order a.zone name))) [
  | inl t ↦
      let all : AllByRecursion (λ t. is_gt (canonical_order t.zone name) ≡ true) (a ∷ slots) =
      (t, all_after name a slots up t) in
      let bad = e ∙ none_passes name (a ∷ slots) None all in
      absurd (false≢true (sym (ap is_some bad)))
  | inr f ↦ last_behind a slots name zone s up f (rw f at e)
]

no_slot : (slots : List SlotOf) (name : List (List ℕ)) → IsTable slots
    → None ≡ last_upto canonical_order name (entries_of slots)
    → AllByRecursion (λ s. is_gt (canonical_order s.zone name) ≡ true) slots
no_slot [] name up e = tt
no_slot (a ∷ slots) name up e = elim (cases_Bool (is_gt (canonical_order a.zone name))) [
  | inl t ↦ (t, all_after name a slots up t)
  | inr f ↦
      let next : None ≡ last_or (Some (a.zone, a)) (filter (is_upto canonical_order name) (entries_of slots)) =
      rw f at e in
      absurd (false≢true
      (ap is_some next ∙ last_is_some (a.zone, a) (filter (is_upto canonical_order name) (entries_of slots))))
]

-- what a map of slots gives
pub kept_last : (entries : List (List (List ℕ) × SlotOf)) (name key zone at : List (List ℕ)) (s : SlotOf)
    → IsKept entries → key ≡ name
    → zone ≡ at → ◌≡◌ {A = Option (List (List ℕ) × SlotOf)} (Some (at, s)) (last_upto canonical_order key entries)
    → Found (slots_of entries) name zone s
kept_last entries name key zone at s is k z e =
    let r = last_slot (slots_of entries) name at s is.order
    (e ∙ (ap (λ n. last_upto canonical_order n entries) k ∙ ap (last_upto canonical_order name) is.keyed)) in
    record { at = z ∙ r.at; is = r.is }

pub kept_none : (entries : List (List (List ℕ) × SlotOf)) (name key : List (List ℕ)) → IsKept entries → key ≡ name
    → None ≡ last_upto canonical_order key entries → closest (slots_of entries) name ≡ None
kept_none entries name key is k e =
    none_closest (slots_of entries) name
    (all_weaker (λ s. is_gt (canonical_order s.zone name) ≡ true) (λ s. ¬ IsWithin name s.zone)
    (λ s h w. false≢true (sym (above_first name s.zone w) ∙ h)) (slots_of entries)
    (no_slot (slots_of entries) name is.order
    (e ∙ (ap (λ n. last_upto canonical_order n entries) k ∙ ap (last_upto canonical_order name) is.keyed))))
