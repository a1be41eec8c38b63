-- Lists with an entry more.
use Rattle.std.proofs.Common.{◌≡◌, ◌+◌, List, [], ◌∷◌, ◌++◌, length, fold, sym, subst, append_assoc, arith}
use Rattle.std.proofs.lemmas.List.{append-nil}
use Rattle.std.proofs.lemmas.List.Sums.{fold-append}
use Rattle.dz_history.specs.declared.entry.Entry.{Entry}
use Rattle.dz_history.specs.declared.entry.Entry.TheVariants.{Setup, Transfer}
use Rattle.dz_history.specs.State.{State, nothing}
use Rattle.dz_history.specs.After.{after, step}
use Rattle.dz_history.specs.Legal.{CanFollow, IsLegalFrom, IsLegal}
use Rattle.dz_history.proofs.StepLemmas.{count_step}

pub after_more : (es : List Entry) (e : Entry) → after (es ++ e ∷ []) ≡ step (after es) e
after_more es e = fold-append step nothing es (e ∷ [])

pub legal_from : (s : State) (es : List Entry) (e : Entry) → IsLegalFrom s es → CanFollow (fold step s es) e
    → IsLegalFrom s (es ++ e ∷ [])
unfolding IsLegalFrom
legal_from s [] e h c = (c, tt)
legal_from s (x ∷ es) e h c = (h.0, legal_from (step s x) es e h.1 c)

pub legal_more : (es : List Entry) (e : Entry) → IsLegal es → CanFollow (after es) e → IsLegal (es ++ e ∷ [])
legal_more es e h c = legal_from nothing es e h c

-- each entry counts once
pub count_one : (s : State) (e : Entry) → CanFollow s e → (step s e).count ≡ s.count + 1
unfolding step
count_one s (Setup config) c = omega (arith, c.0)
count_one s (Transfer t) c = count_step s t

pub count_from : (s : State) (es : List Entry) → IsLegalFrom s es → (fold step s es).count ≡ s.count + length es
unfolding IsLegalFrom
count_from s [] h = omega arith
count_from s (e ∷ es) h = omega (arith, count_from (step s e) es h.1, count_one s e h.0)

pub count_is : (es : List Entry) → IsLegal es → (after es).count ≡ length es
count_is es h = omega (arith, count_from nothing es h)

-- what holds of no entry, and with each entry more, holds of every list that can come about
module _ (P : List Entry → Type 0) (none : P [])
    (more : (es : List Entry) (e : Entry) → IsLegal es → CanFollow (after es) e → P es → P (es ++ e ∷ [])) where
  behind : (front back : List Entry) → IsLegal front → P front → IsLegalFrom (after front) back → P (front ++ back)
  unfolding IsLegalFrom
  behind front [] legal p l = subst P (sym (append-nil front)) p
  behind front (e ∷ back) legal p l =
      subst P (append_assoc front (e ∷ []) back)
      (behind (front ++ e ∷ []) back (legal_more front e legal l.0) (more front e legal l.0 p)
      (subst (λ (s : State). IsLegalFrom s back) (sym (after_more front e)) l.1))

  pub by_entries : (es : List Entry) → IsLegal es → P es
  unfolding IsLegalFrom
  by_entries es legal = behind [] es tt none legal
