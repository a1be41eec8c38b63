-- The pairs of a chain that keeps its first name and its records.
use Rattle.std.proofs.Common.{◌≡◌, ℕ, zero, suc, ◌+◌, ◌<◌, ◌≤◌, true, false, List, [], ◌∷◌, ◌++◌, length, take, drop}
use Rattle.std.proofs.Common.{get_or, length-take-le, Option, Some, rules, refl, sym, ◌∙◌, ap, arith}
use Rattle.std.specs.List.{list_any}
use Rattle.std.proofs.lemmas.List.{get_or-take}
use Rattle.std.proofs.lemmas.List.Folds.{list_any_at, list_any_more}
use Rattle.std.specs.Borrow.{Bor}
use Rattle.std.proofs.lemmas.List.{drop_more, drop_all}
use Rattle.dz_name.specs.Words.{Name}
use Rattle.dz_name.specs.Name.{same_name}
use Rattle.dz_record.specs.Record.{Record, same_record}
use Rattle.dz_lookup.specs.Chain.{Trail, was_looked_up, led_to}
use Rattle.std.specs.Option.{option_map_or}
use Rattle.dz_lookup.specs.inner.Links.{pairs_of, record_in, behind, AreThere, IsNext}

pub length_pairs : (first : Name) (places : List (Option (Bor Record)))
    → length (pairs_of first places) ≡ length places
length_pairs first [] = refl
length_pairs first (place ∷ places) = ap suc (length_pairs (behind first (record_in place)) places)

pub record_at : (first : Name) (places : List (Option (Bor Record))) (k : ℕ) (d : Name × Record)
    (p : Option (Bor Record)) → k < length places
    → record_in (get_or places k p) ≡ (get_or (pairs_of first places) k d).1
record_at first [] k d p lt = absurd (omega arith)
record_at first (place ∷ places) zero d p lt = refl
record_at first (place ∷ places) (suc k) d p lt = record_at (behind first (record_in place)) places k d p (omega arith)

pub first_name : (first : Name) (places : List (Option (Bor Record))) (d : Name × Record) → 0 < length places
    → first ≡ (get_or (pairs_of first places) 0 d).0
first_name first [] d lt = absurd (omega arith)
first_name first (place ∷ places) d lt = refl

pub later_name : (first : Name) (places : List (Option (Bor Record))) (k : ℕ) (d e : Name × Record)
    → k + 1 < length places
    → behind (get_or (pairs_of first places) k d).0 (get_or (pairs_of first places) k d).1
    ≡ (get_or (pairs_of first places) (suc k) e).0
later_name first [] k d e lt = absurd (omega arith)
later_name first (place ∷ []) k d e lt = absurd (omega arith)
later_name first (place ∷ next ∷ places) zero d e lt = refl
later_name first (place ∷ next ∷ places) (suc k) d e lt =
    later_name (behind first (record_in place)) (next ∷ places) k d e (omega arith)

-- a record after the others
pub pushed_first : (first name : Name) (places : List (Option (Bor Record))) (alias : Option (Bor Record))
    (aliases : Trail) → length places ≡ 0 → pairs_of first places ≡ aliases
    → pairs_of name (places ++ alias ∷ []) ≡ aliases ++ (name, record_in alias) ∷ []
pushed_first first name [] alias aliases e is = rw (← is) refl
pushed_first first name (place ∷ places) alias aliases e is = absurd (omega (arith, e))

later : (first name : Name) (places : List (Option (Bor Record))) (alias : Option (Bor Record)) → 0 < length places
    → IsNext name (pairs_of first places)
    → pairs_of first (places ++ alias ∷ []) ≡ pairs_of first places ++ (name, record_in alias) ∷ []
later first name [] alias lt next = absurd (omega arith)
later first name (place ∷ []) alias lt next = rw next refl
later first name (place ∷ other ∷ places) alias lt next =
    ap (λ pairs. (first, record_in place) ∷ pairs)
    (later (behind first (record_in place)) name (other ∷ places) alias (omega arith) next)

pub pushed_later : (first name : Name) (places : List (Option (Bor Record))) (alias : Option (Bor Record))
    (aliases : Trail) → 0 < length places → pairs_of first places ≡ aliases → IsNext name aliases
    → pairs_of first (places ++ alias ∷ []) ≡ aliases ++ (name, record_in alias) ∷ []
pushed_later first name places alias aliases lt is next =
    later first name places alias lt (rw is next) ∙ ap (λ pairs. pairs ++ (name, record_in alias) ∷ []) is

pub there_more : (places : List (Option (Bor Record))) (r : Bor Record) → AreThere places
    → AreThere (places ++ Some r ∷ [])
there_more [] r h zero d lt = search rules
there_more [] r h (suc k) d lt = absurd (omega arith)
there_more (place ∷ places) r h zero d lt = h zero d (omega arith)
there_more (place ∷ places) r h (suc k) d lt =
    there_more places r (λ j e l. h (suc j) e (omega arith)) k d (omega arith)

-- what the last record leads to
pub leads_next : (trail : Trail) (name target : Name) (r : Record) → behind name r ≡ target
    → IsNext target (trail ++ (name, r) ∷ [])
leads_next [] name target r e = e
leads_next (a ∷ []) name target r e = e
leads_next (a ∷ b ∷ rest) name target r e = leads_next (b ∷ rest) name target r e

pub led_behind : (name target : Name) (r : Record) → Some target ≡ led_to name r → behind name r ≡ target
led_behind name target r h = ap (λ o. option_map_or (λ n. n) o []) (sym h)

-- whether a name was looked up, from a place on
pub seen_here : (aliases : Trail) (k : ℕ) (name found : Name) (d : Name × Record) → k < length aliases
    → found ≡ (get_or aliases k d).0 → same_name found name ≡ true
    → was_looked_up (drop k aliases) name ≡ true
seen_here aliases k name found d lt is same = rw (drop_more aliases k d lt) (rw (← is) (rw same refl))

pub seen_later : (aliases : Trail) (k : ℕ) (name found : Name) (d : Name × Record) → k < length aliases
    → found ≡ (get_or aliases k d).0 → same_name found name ≡ false
    → was_looked_up (drop k aliases) name ≡ was_looked_up (drop (k + 1) aliases) name
seen_later aliases k name found d lt is same = rw (drop_more aliases k d lt) (rw (← is) (rw same refl))

pub seen_none : (aliases : Trail) (k : ℕ) (name : Name) → length aliases ≤ k
    → was_looked_up (drop k aliases) name ≡ false
seen_none aliases k name le = rw (drop_all k aliases le) refl

-- whether a record is among the first ones
pub among_here : (trail : Trail) (k upto : ℕ) (r found : Record) (d : Name × Record) → k < upto → upto ≤ length trail
    → found ≡ (get_or trail k d).1 → same_record found r ≡ true
    → list_any (λ a. same_record a.1 r) (take upto trail) ≡ true
among_here trail k upto r found d lt le is same =
    list_any_at (λ (a : Name × Record). same_record a.1 r) (take upto trail) k d
    (omega (arith, length-take-le upto trail le)) (rw (get_or-take upto trail k d lt) (rw (← is) same))

pub among_more : (trail : Trail) (k : ℕ) (r found : Record) (d : Name × Record) → k < length trail
    → found ≡ (get_or trail k d).1 → same_record found r ≡ false
    → list_any (λ a. same_record a.1 r) (take k trail) ≡ false
    → list_any (λ a. same_record a.1 r) (take (k + 1) trail) ≡ false
among_more trail k r found d lt is same none =
    list_any_more (λ (a : Name × Record). same_record a.1 r) trail k d lt ∙ rw none (rw is at same)
