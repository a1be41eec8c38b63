-- The step that enters an entry keeps the rule of the book.
use Rattle.std.proofs.Common.{◌≡◌, ℕ, ◌+◌, ◌<◌, ◌==◌, Bool, true, false, List, [], ◌∷◌, ◌++◌, length, None, refl, sym}
use Rattle.std.proofs.Common.{ap, subst, inl, length-append, arith}
use Rattle.std.proofs.lemmas.List.{append-nil}
use Rattle.std.proofs.lemmas.Bool.Decides.{nat_tests}
use mathlib.Core.List.{IsPrefix}
use prog.Atomic.{either}
use Rattle.logbook.specs.Pages.{Cell, View, cell, keeps, no_nib, step, Moves, Goes}
use Rattle.dz_history.specs.declared.entry.Entry.{Entry}
use Rattle.dz_desk.specs.inner.Ledger.{IsCounted, Enters}
use Rattle.dz_desk.proofs.PrefixLemmas.{prefix_whole}

-- what clients see of the log, and how it moves
abbrev pub nothing_shown : List Entry → List Entry
nothing_shown log = []

abbrev pub any_move : List Entry → List Entry → ℕ → Type 0
any_move before after answer = Unit {0}

-- what was reached, without a pen
abbrev pub at : List Entry → View Entry ℕ
at reached = (reached, (no_nib, None))

-- the length becomes one more where it was this one
abbrev pub next : ℕ → ℕ → ℕ
next old n = either (n == old) (old + 1) n

abbrev pub GoesOn : List Entry → Entry → ℕ → List Cell → List Entry → Type 0
GoesOn reached e old cells log = Goes IsCounted nothing_shown any_move 0 (at reached) (next old)
    (Enters (step 0 old (old + 1) e) (at reached)) cells log

enters_at : (log reached : List Entry) (e : Entry) (old : ℕ) → length reached ≡ old → IsPrefix reached log
    → (found : Bool) → (length log == old) ≡ found
    → GoesOn reached e old ((length log, true) ∷ (0, true) ∷ []) log
enters_at log reached e old is front true same =
    let long : length log ≡ old = grind (arith, nat_tests) in
    let all : reached ≡ log = prefix_whole reached log front (omega arith) in
    let counted : either (length log == old) (old + 1) (length log) ≡ length (log ++ e ∷ []) =
    rw same (omega (arith, length-append log (e ∷ []))) in (
      keeps,
      e ∷ [],
      None,
      tt,
      ap (λ (n : ℕ). (n, true) ∷ (0, true) ∷ []) counted,
      inl (refl, refl),
      λ found. ap (λ (front : List Entry). front ++ e ∷ []) (sym all),
    )
enters_at log reached e old is front false other =
    let counted : either (length log == old) (old + 1) (length log) ≡ length (log ++ []) =
    rw other (ap length (sym (append-nil log))) in (
      keeps,
      [],
      None,
      tt,
      ap (λ (n : ℕ). (n, true) ∷ (0, true) ∷ []) counted,
      inl (refl, refl),
      λ found. absurd (cc (other, found)),
    )

pub enters_moves : (reached : List Entry) (e : Entry) (old : ℕ) → length reached ≡ old
    → Moves IsCounted nothing_shown any_move 0 (at reached) (next old) (Enters (step 0 old (old + 1) e) (at reached))
enters_moves reached e old is cells log counted front away =
    subst (λ (c : List Cell). (0 < length c) × ((cell c 0).1 ≡ true) × GoesOn reached e old c log) (sym counted)
    (omega arith, refl, enters_at log reached e old is front (length log == old) refl)
