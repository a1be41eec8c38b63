-- What has not ended by a list is ended by an entry after it.
use Rattle.std.proofs.Common.{◌≡◌, ℕ, ◌≤◌, List, [], ◌∷◌, ◌++◌, length, fold, None, Some, refl, sym, ◌∙◌, arith, inl}
use Rattle.std.proofs.Common.{inr}
use Rattle.std.proofs.lemmas.Bool.{cases_Bool}
use mathlib.Core.List.{IsPrefix}
use Rattle.dz_name.specs.Words.{Name}
use Rattle.dz_history.specs.declared.entry.Entry.{Entry}
use Rattle.dz_history.specs.State.{State, nothing}
use Rattle.dz_history.specs.After.{step}
use Rattle.dz_history.specs.Ended.{ends, ended, ended_from}
use Rattle.dz_history.specs.Legal.{IsLegal, IsLegalFrom}
use Rattle.dz_history.proofs.ListLemmas.{count_one, count_from}

-- both parts of a list that can come about
front_legal : (s : State) (es fs : List Entry) → IsLegalFrom s (es ++ fs) → IsLegalFrom s es
unfolding IsLegalFrom
front_legal s [] fs legal = tt
front_legal s (e ∷ es) fs legal = (legal.0, front_legal (step s e) es fs legal.1)

rest_legal : (s : State) (es fs : List Entry) → IsLegalFrom s (es ++ fs) → IsLegalFrom (fold step s es) fs
unfolding IsLegalFrom
rest_legal s [] fs legal = legal
rest_legal s (e ∷ es) fs legal = rest_legal (step s e) es fs legal.1

module _ (zone : Name) (i : ℕ) where
  ended_rest : (s : State) (es fs : List Entry) → ended_from s es zone i ≡ None
      → ended_from s (es ++ fs) zone i ≡ ended_from (fold step s es) fs zone i
  unfolding ended_from
  ended_rest s [] fs none = refl
  ended_rest s (e ∷ es) fs none = elim (cases_Bool (ends s e zone i)) [
    | inl t ↦ absurd (let some : Some s.count ≡ None = rw t at none in cc)
    | inr f ↦ rw f (ended_rest (step s e) es fs (rw f at none))
  ]

  ended_behind : (s : State) (fs : List Entry) (n : ℕ) → IsLegalFrom s fs → ended_from s fs zone i ≡ Some n
      → s.count ≤ n
  unfolding ended_from IsLegalFrom
  ended_behind s [] n legal some = absurd (cc)
  ended_behind s (e ∷ fs) n legal some = elim (cases_Bool (ends s e zone i)) [
    | inl t ↦ (let at : Some s.count ≡ Some n = rw t at some in let is : s.count ≡ n = cc in omega (arith, is))
    | inr f ↦ omega (arith, count_one s e legal.0, ended_behind (step s e) fs n legal.1 (rw f at some))
  ]

  parts : (list more : List Entry) (n : ℕ) → IsLegal (list ++ more) → ended list zone i ≡ None
      → ended (list ++ more) zone i ≡ Some n → length list ≤ n
  parts list more n legal none some =
      let rest = ended_behind (fold step nothing list) more n (rest_legal nothing list more legal)
      (sym (ended_rest nothing list more none) ∙ some) in
      omega (arith, rest, count_from nothing list (front_legal nothing list more legal))

  pub ended_late : (list later : List Entry) (n : ℕ) → IsPrefix list later → IsLegal later → ended list zone i ≡ None
      → ended later zone i ≡ Some n → length list ≤ n
  ended_late list later n p legal none some = parts list p.0 n (rw (sym p.1) at legal) none (rw (sym p.1) at some)
