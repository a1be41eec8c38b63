-- Which entry ended an incarnation, with an entry more.
use Rattle.std.proofs.Common.{◌≡◌, ℕ, ◌+◌, ◌<◌, true, false, not, List, [], ◌∷◌, ◌++◌, length, fold, refl, sym, subst}
use Rattle.std.proofs.Common.{arith, inl, inr, Some, None}
use Rattle.std.specs.Prelude.{Option, ◌==◌, if◌then◌else◌}
use Rattle.std.specs.Option.{option_or, option_map_or}
use Rattle.std.proofs.lemmas.Bool.{cases_Bool}
use Rattle.std.proofs.lemmas.Bool.Decides.{nat_tests}
use Rattle.dz_name.specs.Words.{Name}
use Rattle.dz_member.proofs.NumberLemmas.{first_of}
use Rattle.dz_settings.specs.declared.config.CatalogSettings.{CatalogSettings}
use Rattle.dz_history.specs.declared.entry.Entry.{Entry}
use Rattle.dz_history.specs.declared.entry.Entry.TheVariants.{Setup, Transfer}
use Rattle.dz_history.specs.State.{State, nothing, opened, catalog_at, incarnation_at, incarnation_from, stands}
use Rattle.dz_history.specs.After.{after, step}
use Rattle.dz_history.specs.Ended.{ends, ended, ended_from}
use Rattle.dz_history.specs.Legal.{CanFollow, IsLegalFrom, IsLegal}
use Rattle.dz_history.proofs.StepLemmas.{count_step}
use Rattle.dz_history.proofs.ListLemmas.{after_more, count_one, by_entries}
use Rattle.dz_history.proofs.StandsLemmas.{came_by}

ended_behind : (s : State) (es : List Entry) (e : Entry) (zone : Name) (i : ℕ)
    → ended_from s (es ++ e ∷ []) zone i ≡ option_or (ended_from s es zone i)
    (if ends (fold step s es) e zone i then Some (fold step s es).count else None)
unfolding ended_from
ended_behind s [] e zone i = refl
ended_behind s (x ∷ es) e zone i = elim (cases_Bool (ends s x zone i)) [
  | inl t ↦ rw t refl
  | inr f ↦ rw f (ended_behind (step s x) es e zone i)
]

pub ended_more : (es : List Entry) (e : Entry) (zone : Name) (i : ℕ)
    → ended (es ++ e ∷ []) zone i
    ≡ option_or (ended es zone i) (if ends (after es) e zone i then Some (after es).count else None)
ended_more es e zone i = ended_behind nothing es e zone i

-- ---- what ended, and the entry that ended it, are of the list
abbrev pub IsOld : State → Type 0
IsOld s = (zone : Name) (i : ℕ) → stands s zone i ≡ true → i < s.count

pub none_old : IsOld nothing
unfolding incarnation_at
none_old zone i h = absurd (let q : false ≡ true = h in cc)

first_old : (config : List CatalogSettings) (zone : Name) (i : ℕ) (o : Option ℕ)
    → option_map_or (λ j. j == i) (incarnation_from (opened config) zone o) false ≡ true → i < 1
first_old config zone i None h = absurd (let q : false ≡ true = h in cc)
first_old config zone i (Some number) h = grind (arith, nat_tests)

step_old : (s : State) (e : Entry) → CanFollow s e → IsOld s → IsOld (step s e)
unfolding step incarnation_at
step_old s (Setup config) c old zone i h = first_old config zone i (catalog_at (opened config) zone) h
step_old s (Transfer t) c old zone i h =
    let count : (step s (Transfer t)).count ≡ s.count + 1 = count_step s t in
    elim (came_by s t zone i h) [
      | inl before ↦ omega (arith, old zone i before)
      | inr is ↦ omega arith
    ]

ended_within : (s : State) (es : List Entry) (zone : Name) (i n : ℕ) → IsLegalFrom s es → IsOld s
    → ended_from s es zone i ≡ Some n → (i < s.count + length es) × (n < s.count + length es)
unfolding ended_from IsLegalFrom
ended_within s [] zone i n legal old h = absurd (cc)
ended_within s (e ∷ es) zone i n legal old h = elim (cases_Bool (ends s e zone i)) [
  | inl t ↦
      let at : Some s.count ≡ Some n = rw t at h in
      let is : s.count ≡ n = cc in
      let lt : i < s.count = old zone i (first_of (stands s zone i) (not (stands (step s e) zone i)) t) in
      (omega arith, omega arith)
  | inr f ↦
      let count : (step s e).count ≡ s.count + 1 = count_one s e legal.0 in
      let r = ended_within (step s e) es zone i n legal.1 (step_old s e legal.0 old) (rw f at h) in
      (omega (arith, r.0), omega (arith, r.1))
]

pub ended_old : (es : List Entry) (zone : Name) (i n : ℕ) → IsLegal es → ended es zone i ≡ Some n
    → (i < length es) × (n < length es)
ended_old es zone i n legal h =
    let r = ended_within nothing es zone i n legal none_old h in
    (omega (arith, r.0), omega (arith, r.1))

-- what is current began by an entry of the list
pub old_is : (es : List Entry) → IsLegal es → IsOld (after es)
old_is es legal = by_entries (λ fs. IsOld (after fs)) none_old
    (λ fs e l c old. subst IsOld (sym (after_more fs e)) (step_old (after fs) e c old)) es legal
