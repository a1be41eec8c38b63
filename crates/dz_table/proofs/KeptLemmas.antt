-- A table in a map: the words of the map are those of the table.
use Rattle.std.proofs.Common.{◌≡◌, ℕ, true, false, List, [], ◌∷◌, refl, sym, ◌∙◌, ap, inl, inr}
use Rattle.std.specs.Prelude.{filter}
use Rattle.std.specs.List.{AllByRecursion}
use Rattle.std.specs.List.Sorted.{IsStrictlySortedBy}
use Rattle.std.specs.Ordering.{is_lt, eq_by_cmp, ordering_reverse}
use Rattle.std.specs.FinMap as fin
use Rattle.std.specs.FinMap.Entries.{below_all}
use Rattle.std.specs.declared.cmp.Ordering.{Ordering}
use Rattle.std.specs.declared.cmp.Ordering.TheVariants.{Less, Equal, Greater}
use Rattle.std.proofs.lemmas.Bool.{cases_Bool}
use Rattle.dz_chunks.specs.Map.{without_key}
use Rattle.dz_name.specs.Name.{canonical_order, same_name}
use Rattle.dz_name.specs.Order.{canonical_total, canonical_same, names_equal, same_ties}
use Rattle.dz_table.specs.Slot.{SlotOf}
use Rattle.dz_table.specs.Table.{IsTable, comes_before, put, without, slot_of}
use Rattle.dz_table.specs.inner.Kept.{entries_of, slots_of, IsKept}
use Rattle.dz_table.proofs.Rising.{all_weaker}
use Rattle.dz_table.proofs.Putting.{put_rises, without_rises}

pub slots_back : (slots : List SlotOf) → slots_of (entries_of slots) ≡ slots
slots_back [] = refl
slots_back (s ∷ slots) = ap (λ l. s ∷ l) (slots_back slots)

reversed : (a b : List (List ℕ)) (o : Ordering) → canonical_order a b ≡ o → canonical_order b a ≡ ordering_reverse o
reversed a b o e = canonical_total.antisymm b a ∙ ap ordering_reverse e

-- where all slots come after a key, none comes before it
front_none : (zone : List (List ℕ)) (slots : List SlotOf) → AllByRecursion
    (λ s. canonical_order zone s.zone ≡ Less) slots → filter (λ s. comes_before s.zone zone) slots ≡ []
front_none zone [] h = refl
front_none zone (s ∷ slots) h = rw (ap is_lt (reversed zone s.zone Less h.0)) (front_none zone slots h.1)

back_all : (zone : List (List ℕ)) (slots : List SlotOf) → AllByRecursion
    (λ s. canonical_order zone s.zone ≡ Less) slots → filter (λ s. comes_before zone s.zone) slots ≡ slots
back_all zone [] h = refl
back_all zone (s ∷ slots) h = rw h.0 (ap (λ l. s ∷ l) (back_all zone slots h.1))

put_here : (slot s : SlotOf) (slots : List SlotOf)
    → AllByRecursion (λ t. canonical_order slot.zone t.zone ≡ Less) slots → comes_before s.zone slot.zone ≡ false
    → put (s ∷ slots) slot ≡ slot ∷ filter (λ t. comes_before slot.zone t.zone) (s ∷ slots)
unfolding put
put_here slot s slots behind other = rw (other, front_none slot.zone slots behind) refl

put_entries : (slot : SlotOf) (slots : List SlotOf) → IsTable slots
    → fin.put canonical_order slot.zone slot (entries_of slots) ≡ entries_of (put slots slot)
unfolding put IsStrictlySortedBy
put_entries slot [] up = refl
put_entries slot (s ∷ slots) up = go (canonical_order slot.zone s.zone) refl (put_entries slot slots up.1)
  where
    go : (o : Ordering) → canonical_order slot.zone s.zone ≡ o
        → fin.put canonical_order slot.zone slot (entries_of slots) ≡ entries_of (put slots slot)
        → fin.put canonical_order slot.zone slot (entries_of (s ∷ slots)) ≡ entries_of (put (s ∷ slots) slot)
    go Less e ih =
        let behind =
        all_weaker (λ t. canonical_order s.zone t.zone ≡ Less) (λ t. canonical_order slot.zone t.zone ≡ Less)
        (λ t l. canonical_total.trans slot.zone s.zone t.zone e l) slots up.0 in
        let back = back_all slot.zone slots behind in
        rw (put_here slot s slots behind (ap is_lt (reversed slot.zone s.zone Less e)), e, back) refl
    go Equal e ih =
        let same = canonical_same slot.zone s.zone e in
        let behind =
        all_weaker (λ t. canonical_order s.zone t.zone ≡ Less) (λ t. canonical_order slot.zone t.zone ≡ Less)
        (λ t l. canonical_total.congr slot.zone s.zone t.zone e ∙ l) slots up.0 in
        let back = back_all slot.zone slots behind in
        rw (put_here slot s slots behind (ap is_lt (reversed slot.zone s.zone Equal e)), e, back)
        (ap (λ z. (z, slot) ∷ entries_of slots) (sym same))
    go Greater e ih =
        rw (e, reversed slot.zone s.zone Greater e) (ap (λ l. (s.zone, s) ∷ l) ih)

same_back : (a b : List (List ℕ)) → same_name a b ≡ eq_by_cmp canonical_order b a
same_back a b = names_equal.symm a b ∙ same_ties b a

find_entries : (zone : List (List ℕ)) (slots : List SlotOf)
    → fin.find canonical_order zone (entries_of slots) ≡ slot_of zone slots
find_entries zone [] = refl
find_entries zone (s ∷ slots) = elim (cases_Bool (same_name s.zone zone)) [
  | inl t ↦ rw (sym (same_back s.zone zone) ∙ t, t) refl
  | inr f ↦ rw (sym (same_back s.zone zone) ∙ f, f) (find_entries zone slots)
]

without_entries : (zone : List (List ℕ)) (slots : List SlotOf)
    → without_key canonical_order zone (entries_of slots) ≡ entries_of (without slots zone)
unfolding without
without_entries zone [] = refl
without_entries zone (s ∷ slots) = elim (cases_Bool (same_name s.zone zone)) [
  | inl t ↦ rw (sym (same_back s.zone zone) ∙ t, t) (without_entries zone slots)
  | inr f ↦ rw (sym (same_back s.zone zone) ∙ f, f) (ap (λ l. (s.zone, s) ∷ l) (without_entries zone slots))
]

-- a map that is changed as the table is keeps the changed table
kept_of : (entries : List (List (List ℕ) × SlotOf)) (slots : List SlotOf) → entries ≡ entries_of slots → IsTable slots
    → IsKept entries
kept_of entries slots e up =
    let back : slots_of entries ≡ slots = ap (λ l. slots_of l) e ∙ slots_back slots in
    record { keyed = e ∙ ap (λ l. entries_of l) (sym back); order = rw back up }

pub empty_kept : (entries : List (List (List ℕ) × SlotOf)) → entries ≡ [] → IsKept entries
unfolding IsStrictlySortedBy
empty_kept entries e = kept_of entries [] e tt

put_keyed : (entries new : List (List (List ℕ) × SlotOf)) (slot : SlotOf) (zone : List (List ℕ))
    → IsKept entries → zone ≡ slot.zone → new ≡ fin.put canonical_order zone slot entries
    → new ≡ entries_of (put (slots_of entries) slot)
put_keyed entries new slot zone is z e =
    e ∙ (ap (λ y. fin.put canonical_order y slot entries) z
    ∙ (ap (fin.put canonical_order slot.zone slot) is.keyed ∙ put_entries slot (slots_of entries) is.order))

pub put_kept : (entries new : List (List (List ℕ) × SlotOf)) (slot : SlotOf) (zone : List (List ℕ)) → IsKept entries
    → zone ≡ slot.zone → new ≡ fin.put canonical_order zone slot entries → IsKept new
put_kept entries new slot zone is z e =
    kept_of new (put (slots_of entries) slot) (put_keyed entries new slot zone is z e)
    (put_rises (slots_of entries) _ slot is.order refl)

pub put_slots : (entries new : List (List (List ℕ) × SlotOf)) (slots : List SlotOf) (slot : SlotOf)
    (zone : List (List ℕ)) → IsKept entries → slots_of entries ≡ slots → zone ≡ slot.zone
    → new ≡ fin.put canonical_order zone slot entries → slots_of new ≡ put slots slot
put_slots entries new slots slot zone is view z e =
    ap (λ l. slots_of l) (put_keyed entries new slot zone is z e)
    ∙ (slots_back (put (slots_of entries) slot) ∙ ap (λ l. put l slot) view)

without_keyed : (entries new : List (List (List ℕ) × SlotOf)) (zone : List (List ℕ)) → IsKept entries
    → new ≡ without_key canonical_order zone entries → new ≡ entries_of (without (slots_of entries) zone)
without_keyed entries new zone is e =
    e ∙ (ap (without_key canonical_order zone) is.keyed ∙ without_entries zone (slots_of entries))

pub without_kept : (entries new : List (List (List ℕ) × SlotOf)) (zone : List (List ℕ)) → IsKept entries
    → new ≡ without_key canonical_order zone entries → IsKept new
without_kept entries new zone is e =
    kept_of new (without (slots_of entries) zone) (without_keyed entries new zone is e)
    (without_rises (slots_of entries) _ zone is.order refl)

pub without_slots : (entries new : List (List (List ℕ) × SlotOf)) (slots : List SlotOf) (zone : List (List ℕ))
    → IsKept entries → slots_of entries ≡ slots → new ≡ without_key canonical_order zone entries
    → slots_of new ≡ without slots zone
without_slots entries new slots zone is view e =
    ap (λ l. slots_of l) (without_keyed entries new zone is e)
    ∙ (slots_back (without (slots_of entries) zone) ∙ ap (λ l. without l zone) view)

pub found_kept : (entries : List (List (List ℕ) × SlotOf)) (slots : List SlotOf) (zone : List (List ℕ))
    → IsKept entries → slots_of entries ≡ slots → fin.find canonical_order zone entries ≡ slot_of zone slots
found_kept entries slots zone is view =
    ap (fin.find canonical_order zone) is.keyed ∙ (find_entries zone (slots_of entries) ∙ ap (slot_of zone) view)

-- slots in order make a map
below : (zone : List (List ℕ)) (slots : List SlotOf) → AllByRecursion (λ s. canonical_order zone s.zone ≡ Less) slots
    → below_all canonical_order zone (entries_of slots) ≡ true
below zone [] h = refl
below zone (s ∷ slots) h = rw (h.0, below zone slots h.1) refl

pub sorted_entries : (slots : List SlotOf) → IsTable slots → fin.is_sorted canonical_order (entries_of slots) ≡ true
unfolding IsStrictlySortedBy
sorted_entries [] up = refl
sorted_entries (s ∷ slots) up = rw (below s.zone slots up.0, sorted_entries slots up.1) refl

pub kept_slots : (slots : List SlotOf) (entries : List (List (List ℕ) × SlotOf)) → IsTable slots
    → entries ≡ entries_of slots → IsKept entries
kept_slots slots entries up e = record {
  keyed = e ∙ ap entries_of (sym (slots_back slots) ∙ ap slots_of (sym e));
  order = rw (ap slots_of e ∙ slots_back slots) up;
}

pub slots_are : (slots : List SlotOf) (entries : List (List (List ℕ) × SlotOf)) → entries ≡ entries_of slots
    → slots_of entries ≡ slots
slots_are slots entries e = ap slots_of e ∙ slots_back slots
