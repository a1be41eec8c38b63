-- An incarnation that ended is never current again.
use Rattle.std.proofs.Common.{◌≡◌, ℕ, Bool, true, false, ◌&&◌, not, List, [], ◌∷◌, ◌++◌, length, refl, sym, ◌∙◌, ap}
use Rattle.std.proofs.Common.{arith, inl, inr, Some, None}
use Rattle.std.specs.Prelude.{Option}
use Rattle.dz_name.specs.Words.{Name}
use Rattle.dz_history.specs.declared.entry.Entry.{Entry}
use Rattle.dz_history.specs.declared.entry.Entry.TheVariants.{Setup, Transfer}
use Rattle.dz_history.specs.State.{State, stands}
use Rattle.dz_history.specs.After.{after, step}
use Rattle.dz_history.specs.Ended.{ends, ended, ended_from}
use Rattle.dz_history.specs.Legal.{CanFollow, IsLegal}
use Rattle.dz_history.specs.Life.{IsWhole}
use Rattle.dz_history.proofs.ListLemmas.{after_more, count_is, by_entries}
use Rattle.dz_history.proofs.StandsLemmas.{came_by}
use Rattle.dz_history.proofs.EndedLemmas.{ended_more, ended_old}

no_end : (es : List Entry) → length es ≡ 0 → (zone : Name) (i : ℕ) → ended es zone i ≡ None
unfolding ended_from
no_end [] e zone i = refl
no_end (x ∷ es) e zone i = absurd (omega arith)

-- what came by the next entry has not ended before
never : (es : List Entry) → IsLegal es → (zone : Name) (i : ℕ) (o : Option ℕ) → ended es zone i ≡ o
    → i ≡ (after es).count → o ≡ None
never es legal zone i None e is = refl
never es legal zone i (Some n) e is = absurd (omega (arith, (ended_old es zone i n legal e).0, count_is es legal))

before_none : (es : List Entry) (e : Entry) → IsLegal es → CanFollow (after es) e → IsWhole es → (zone : Name) (i : ℕ)
    → stands (step (after es) e) zone i ≡ true → ended es zone i ≡ None
before_none es (Setup config) legal c w zone i h = no_end es (omega (arith, c.0, count_is es legal)) zone i
before_none es (Transfer t) legal c w zone i h = elim (came_by (after es) t zone i h) [
  | inl before ↦ w zone i before
  | inr is ↦ never es legal zone i (ended es zone i) refl is
]

and_false : (b : Bool) → (b && false) ≡ false
and_false true = refl
and_false false = refl

pub whole_more : (es : List Entry) (e : Entry) → IsLegal es → CanFollow (after es) e → IsWhole es
    → IsWhole (es ++ e ∷ [])
whole_more es e legal c w zone i h =
    let up : stands (step (after es) e) zone i ≡ true =
    ap (λ (s : State). stands s zone i) (sym (after_more es e)) ∙ h in
    let still : ends (after es) e zone i ≡ false =
    ap (λ (b : Bool). stands (after es) zone i && not b) up ∙ and_false (stands (after es) zone i) in
    rw (ended_more es e zone i, before_none es e legal c w zone i up, still) refl

-- ---- in every list that can come about
pub whole_nothing : IsWhole []
whole_nothing zone i h = no_end [] refl zone i

pub whole : (es : List Entry) → IsLegal es → IsWhole es
whole es legal = by_entries IsWhole whole_nothing (λ es e l c w. whole_more es e l c w) es legal
