use Rattle.std.proofs.Common.{◌≡◌, ℕ, ◌+◌, Bool, true, false, not, List, [], ◌∷◌, take, zero, suc, refl, sym, ◌∙◌, ap}
use Rattle.std.proofs.Common.{arith, inl, inr}
use Rattle.std.specs.Prelude.{slice_get}
use Rattle.std.specs.Option.{option_map_or}
use Rattle.std.specs.List.{list_any}
use Rattle.std.proofs.lemmas.Bool.{cases_Bool}
use Rattle.dz_fleet.specs.inner.Relisting.{is_entry}
use Rattle.dz_fleet.proofs.waiting.keeps_places.Goals as goal

one_there : {X : Type 0} (p : X → Bool) (xs : List X) (i : ℕ) → option_map_or p (slice_get xs i) false ≡ true
    → list_any p xs ≡ true
one_there p [] i t = absurd (cc t)
one_there p (x ∷ xs) zero t = rw t refl
one_there p (x ∷ xs) (suc i) t = elim (cases_Bool (p x)) [
  | inl u ↦ rw u refl
  | inr f ↦ rw f (one_there p xs i t)
]

none_more : {X : Type 0} (p : X → Bool) (xs : List X) (i : ℕ) → list_any p (take i xs) ≡ false
    → option_map_or p (slice_get xs i) false ≡ false → list_any p (take (suc i) xs) ≡ false
none_more p [] i none f = refl
none_more p (x ∷ xs) zero none f = rw f refl
none_more p (x ∷ xs) (suc i) none f = elim (cases_Bool (p x)) [
  | inl u ↦ absurd (let bad : true ≡ false = rw u at none in cc bad)
  | inr g ↦ let rest : list_any p (take i xs) ≡ false = rw g at none in rw g (none_more p xs i rest f)
]

pub returns-then-is_entry_at : goal.returns-then-is_entry_at
returns-then-is_entry_at c =
    ap not (sym (one_there (λ x. is_entry x.what) c.args.changes.now c.changes.place
    (sym c.is_entry_at.ensures ∙ c.if-is_entry_at.true)))

pub changes-preserved : goal.changes-preserved
changes-preserved c =
    let more : c.changes.place + 1 ≡ suc c.changes.place = omega arith in
    rw more (none_more (λ x. is_entry x.what) c.args.changes.now c.changes.place c.changes.invariant
    (sym c.is_entry_at.ensures ∙ c.if-is_entry_at.false))
