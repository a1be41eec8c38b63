-- What devices and clocks tell, step by step, and how counts rise.
use Rattle.std.proofs.Common.{inl, inr, ℕ, ◌+◌, ◌≤◌, List, [], ◌++◌, length, take, Option, None, Some, refl, sym, ap}
use Rattle.std.proofs.Common.{◌∙◌, append_assoc, length-append, arith}
use Rattle.std.specs.Prelude.{IsSome, Result, Ok, Err, OnErr}
use Rattle.std.proofs.Math.Seq.{take-length, take-append-add}
use Rattle.std.proofs.lemmas.List.{append-nil, take-append-le}
use Rattle.dz_io.specs.Counts.{HasRisen, HasRisenBy}
use Rattle.dz_io.specs.Device.{Gains, GainsPrefix, Tells}

pub gains_none : {A : Type 0} (held : Option (List A)) → Gains [] held held
gains_none None = refl
gains_none (Some items) = ap Some (sym (append-nil items))

pub gains_more : {A : Type 0} (xs ys : List A) (before middle now : Option (List A)) → Gains xs before middle
    → Gains ys middle now → Gains (xs ++ ys) before now
gains_more xs ys None middle now one two = cc (one, two)
gains_more xs ys (Some held) middle now one two = two ∙ (rw one (ap Some (append_assoc held xs ys)))

pub tells_gained : {A : Type 0} (xs : List A) (before now : Option (List A)) → Tells [] before → Gains xs before now
    → Tells xs now
tells_gained xs None now none gained = rw gained tt
tells_gained xs (Some held) now none gained = rw gained (ap (λ items. items ++ xs) none)

-- ---- where a clock still tells
pub still_none : {A : Type 0} (told : Option (List A)) → IsSome told → Gains [] told told
still_none told some = gains_none told

told_before : {A : Type 0} (xs : List A) (before now : Option (List A)) → Gains xs before now → IsSome now
    → IsSome before
told_before xs None now gained some = rw gained at some
told_before xs (Some held) now gained some = refl

pub still_more : {A : Type 0} (xs ys : List A) (before middle now : Option (List A))
    → (IsSome middle → Gains xs before middle) → (IsSome now → Gains ys middle now) → IsSome now
    → Gains (xs ++ ys) before now
still_more xs ys before middle now one two some =
    let gained = two some in
    gains_more xs ys before middle now (one (told_before ys middle now gained some)) gained

-- ---- prefixes
pub prefix_of_all : (xs : List ℕ) (before now : Option (List ℕ)) → Gains xs before now → GainsPrefix xs before now
prefix_of_all xs before now gained = (length xs, omega arith, rw (take-length xs) gained)

pub prefix_of_none : (xs : List ℕ) (held : Option (List ℕ)) → GainsPrefix xs held held
prefix_of_none xs held = (0, omega arith, gains_none held)

pub prefix_of_more : (xs ys : List ℕ) (before middle now : Option (List ℕ)) → Gains xs before middle
    → GainsPrefix ys middle now → GainsPrefix (xs ++ ys) before now
prefix_of_more xs ys before middle now one two = (
  length xs + two.0,
  omega (arith, length-append xs ys, two.1),
  rw (take-append-add xs ys two.0) (gains_more xs (take two.0 ys) before middle now one two.2),
)

pub prefix_of_first : (xs ys : List ℕ) (before now : Option (List ℕ)) → GainsPrefix xs before now
    → GainsPrefix (xs ++ ys) before now
prefix_of_first xs ys before now part =
    (part.0, omega (arith, length-append xs ys, part.1), rw (take-append-le part.0 xs ys part.1) part.2)

-- ---- counts
pub rises_more : (n more before middle now : ℕ) → HasRisenBy n before middle → HasRisenBy more middle now
    → HasRisenBy (n + more) before now
rises_more n more before middle now (inl h) (inl i) = inl (omega (arith, h, i))
rises_more n more before middle now (inl h) (inr i) = inr i
rises_more n more before middle now (inr h) (inl i) = inr (omega (arith, h, i))
rises_more n more before middle now (inr h) (inr i) = inr i

pub rises_later : (n before middle now : ℕ) → HasRisenBy n before middle → middle ≤ now → HasRisenBy n before now
rises_later n before middle now (inl h) later = inl (omega (arith, h, later))
rises_later n before middle now (inr h) later = inr (omega (arith, h, later))

pub rises_one : (before now : ℕ) → HasRisen before now → HasRisenBy 1 before now
rises_one before now (inl h) = inl (omega (arith, h))
rises_one before now (inr h) = inr h

pub risen_later : (before middle now : ℕ) → HasRisen before middle → middle ≤ now → HasRisen before now
risen_later before middle now (inl h) later = inl (omega (arith, h, later))
risen_later before middle now (inr h) later = inr (omega (arith, h, later))

pub risen_sooner : (before middle now : ℕ) → before ≤ middle → HasRisen middle now → HasRisen before now
risen_sooner before middle now sooner (inl h) = inl (omega (arith, h, sooner))
risen_sooner before middle now sooner (inr h) = inr h

-- what follows of a failed call
pub on_err_then : {T E : Type 0} (result : Result T E) (P Q : Type 0) → (P → Q) → OnErr result P → OnErr result Q
on_err_then (Ok x) P Q then on = tt
on_err_then (Err e) P Q then on = then on
