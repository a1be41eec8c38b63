-- The first zone that is due has no job in flight, and of those it waits for the least moment.
use Rattle.std.proofs.Common.{◌≡◌, ℕ, zero, suc, ◌<◌, ◌≤◌, Bool, true, false, List, length, take, get_or, refl, sym}
use Rattle.std.proofs.Common.{◌∙◌, arith, inl, inr}
use Rattle.std.specs.Prelude.{Some, None, nat_le, nat_lt}
use Rattle.std.specs.List.{All, list_any, position, position_or_len}
use Rattle.std.proofs.lemmas.Bool.{cases_Bool, true≢false}
use Rattle.std.proofs.lemmas.Bool.Decides.{nat_tests}
use Rattle.std.proofs.lemmas.List.{get_or-take, length-take}
use Rattle.std.proofs.lemmas.List.Elements.{All-from_get_or, All-get_or}
use Rattle.std.proofs.lemmas.List.Folds.{list_any_at, list_any_none}
use Rattle.std.proofs.lemmas.List.Quantifiers.{position-Some}
use Rattle.std.proofs.lemmas.List.Sums.{fails_before_first}
use Rattle.std.proofs.lemmas.Option.{get_or_from_slice_get, none-some, slice_get-get_or}
use Rattle.dz_timer.specs.Timing.{is_due}
use Rattle.dz_timer.specs.Values.{ValuesOf, fresh}
use Rattle.dz_timer.specs.Schedule.{is_earlier, is_first}
use Rattle.dz_timer.specs.ScheduleLaws.{FirstIsLeast, NoneIsIdle, FirstIsDue}
use Rattle.dz_timer.proofs.ScheduleLemmas.{position_none}

-- a zone without a job in flight is first where none without one waits for less
first_by_least : (zones : List ValuesOf) (v : ValuesOf) → v.timing.busy ≡ false
    → All (λ u. u.timing.busy ≡ false → v.timing.next ≤ u.timing.next) zones → is_first zones v ≡ true
first_by_least zones v idle least =
    let none : list_any (λ u. is_earlier u v) zones ≡ false =
    list_any_none (λ u. is_earlier u v) zones (All-from_get_or (λ u. is_earlier u v ≡ false) zones fresh (λ i lt.
    let u = get_or zones i fresh in
    elim (cases_Bool u.timing.busy) [
      | inl t ↦ rw t refl
      | inr f ↦
          let le = All-get_or (λ u. u.timing.busy ≡ false → v.timing.next ≤ u.timing.next) zones i fresh lt least f in
          let q : nat_lt u.timing.next v.timing.next ≡ false = grind (arith, nat_tests) in
          rw (f, q) refl
    ])) in
    rw (idle, none) refl

first_is_idle : (zones : List ValuesOf) (v : ValuesOf) → is_first zones v ≡ true → v.timing.busy ≡ false
first_is_idle zones v t =
    elim (cases_Bool v.timing.busy) [ inl busy ↦ absurd (true≢false (sym t ∙ rw busy refl)) | inr f ↦ f ]

least_of_first : (zones : List ValuesOf) (v : ValuesOf) → is_first zones v ≡ true
    → All (λ u. u.timing.busy ≡ false → v.timing.next ≤ u.timing.next) zones
least_of_first zones v t =
    All-from_get_or (λ u. u.timing.busy ≡ false → v.timing.next ≤ u.timing.next) zones fresh (λ i lt f.
    let u = get_or zones i fresh in
    elim (cases_Bool (nat_lt u.timing.next v.timing.next)) [
      | inl less ↦
          let any : list_any (λ u. is_earlier u v) zones ≡ true =
          list_any_at (λ u. is_earlier u v) zones i fresh lt (rw (f, less) refl) in
          absurd (true≢false (sym t ∙ rw (first_is_idle zones v t, any) refl))
      | inr otherwise ↦ grind (arith, nat_tests)
    ])

pub first_is_least_lem : FirstIsLeast
first_is_least_lem zones place e =
    let p = position-Some (is_first zones) zones place fresh e in
    let v = get_or zones place fresh in
    let least = least_of_first zones v p.1 in (
      v,
      record {
        there = slice_get-get_or zones place fresh p.0;
        idle = first_is_idle zones v p.1;
        least = least;
        before = All-from_get_or (λ u. u.timing.busy ≡ false → v.timing.next < u.timing.next)
            (take place zones) fresh (λ k lt.
            let less : k < place = omega (arith, length-take place zones) in
            rw (get_or-take place zones k fresh less) (λ f.
            let u = get_or zones k fresh in
            elim (cases_Bool (nat_lt v.timing.next u.timing.next)) [
              | inl sooner ↦ grind (arith, nat_tests)
              | inr otherwise ↦
                  let le : u.timing.next ≤ v.timing.next = grind (arith, nat_tests) in
                  let first = first_by_least zones u f (All-from_get_or
                  (λ w. w.timing.busy ≡ false → u.timing.next ≤ w.timing.next) zones fresh (λ i lt' g.
                  omega (
                    arith,
                    le,
                    All-get_or
                        (λ w. w.timing.busy ≡ false → v.timing.next ≤ w.timing.next) zones i fresh lt' least g,
                  ))) in
                  absurd (true≢false (sym first ∙ p.2 k less))
            ]));
      },
    )

none_passes : {X : Type 0} (p : X → Bool) (xs : List X) (k : ℕ) (d : X) → k < length xs → position p xs ≡ None
    → p (get_or xs k d) ≡ false
none_passes p xs k d lt e =
    elim (cases_Bool (nat_lt (position_or_len p xs) (length xs))) [
      | inl t ↦ absurd (let some : Some (position_or_len p xs) ≡ None = rw t at e in none-some _ (sym some))
      | inr f ↦ fails_before_first p xs k d (grind (arith, nat_tests))
    ]

-- where no zone is first, each has a job in flight, by what they wait for
busy_by_waits : (zones : List ValuesOf) → ((k : ℕ) → k < length zones → is_first zones (get_or zones k fresh) ≡ false)
    → (fuel k : ℕ) → k < length zones → (get_or zones k fresh).timing.next < fuel
    → (get_or zones k fresh).timing.busy ≡ true
busy_by_waits zones none zero k lt less = absurd (omega arith)
busy_by_waits zones none (suc fuel) k lt less =
    let v = get_or zones k fresh in
    elim (cases_Bool v.timing.busy) [
      | inl t ↦ t
      | inr idle ↦
          let first = first_by_least zones v idle
          (All-from_get_or (λ u. u.timing.busy ≡ false → v.timing.next ≤ u.timing.next) zones fresh (λ i lt' f.
          let u = get_or zones i fresh in
          elim (cases_Bool (nat_lt u.timing.next v.timing.next)) [
            | inl earlier ↦
                let fewer : u.timing.next < fuel = grind (arith, nat_tests) in
                absurd (true≢false (sym (busy_by_waits zones none fuel i lt' fewer) ∙ f))
            | inr otherwise ↦ grind (arith, nat_tests)
          ])) in
          absurd (true≢false (sym first ∙ none k lt))
    ]

pub none_is_idle_lem : NoneIsIdle
none_is_idle_lem zones = (
  λ e. All-from_get_or (λ v. v.timing.busy ≡ true) zones fresh (λ k lt.
      busy_by_waits zones (λ i lt'. none_passes (is_first zones) zones i fresh lt' e)
      (suc (get_or zones k fresh).timing.next) k lt (omega arith)),
  λ busy. sym (position_none (is_first zones) zones fresh
      (λ k lt. let t = All-get_or (λ v. v.timing.busy ≡ true) zones k fresh lt busy in rw t refl)),
)

due_of_least : (zones : List ValuesOf) (place now : ℕ) → place < length zones
    → is_first zones (get_or zones place fresh) ≡ true
    → list_any (λ other. is_due other.timing now) zones ≡ is_due (get_or zones place fresh).timing now
due_of_least zones place now within t =
    let v = get_or zones place fresh in
    let idle = first_is_idle zones v t in
    let least = least_of_first zones v t in
    elim (cases_Bool (nat_le v.timing.next now)) [
      | inl due ↦ list_any_at (λ other. is_due other.timing now) zones place fresh within (rw (idle, due) refl)
          ∙ sym (rw (idle, due) refl)
      | inr later ↦
          let none = list_any_none (λ other. is_due other.timing now) zones
          (All-from_get_or (λ other. is_due other.timing now ≡ false) zones fresh (λ i lt.
          let u = get_or zones i fresh in
          elim (cases_Bool u.timing.busy) [
            | inl busy ↦ rw busy refl
            | inr f ↦
                let le =
                All-get_or (λ u. u.timing.busy ≡ false → v.timing.next ≤ u.timing.next) zones i fresh lt least f in
                let q : nat_le u.timing.next now ≡ false = grind (arith, nat_tests) in
                rw (f, q) refl
          ])) in
          none ∙ sym (rw (idle, later) refl)
    ]

pub first_is_due_lem : FirstIsDue
first_is_due_lem zones place values now e there =
    let p = position-Some (is_first zones) zones place fresh e in
    let is : get_or zones place fresh ≡ values = get_or_from_slice_get zones place values fresh there in
    rw (← is) (due_of_least zones place now p.0 p.1)
