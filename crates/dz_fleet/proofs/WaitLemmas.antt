-- What zones wait for, after each kind of event.
use Rattle.std.proofs.Common.{◌≡◌, ℕ, ◌<◌, true, false, List, [], ◌∷◌, ◌++◌, length, refl, sym, ◌∙◌, ap, arith, inl}
use Rattle.std.proofs.Common.{inr, Some}
use Rattle.std.specs.Prelude.{◌||◌, slice_get, slice_set}
use Rattle.std.specs.List.{list_any}
use Rattle.std.proofs.lemmas.Bool.{cases_Bool, cases_eq}
use Rattle.std.proofs.lemmas.Bool.Decides.{nat_tests}
use Rattle.std.proofs.lemmas.List.{get_or-set_same, get_or-set_other}
use Rattle.dz_timer.specs.Values.{ValuesOf, fresh}
use Rattle.dz_history.specs.State.{State, IsState, stands, incarnation_at}
use Rattle.dz_history.specs.Places.{Seat, seats, place_at, IsApart}
use Rattle.dz_history.proofs.PlaceLemmas.{place_seat}
use Rattle.dz_job.specs.Job.{JobOf}
use Rattle.dz_fleet.specs.Values.{value_at}
use Rattle.dz_fleet.specs.Core.{others, primaries_of}
use Rattle.dz_fleet.specs.Sound.{is_of, seat_of, AreApart, IsAmong, IsWaiting}
use Rattle.dz_fleet.proofs.FlightLemmas.{of_parts, none_others, any_others, any_push, of_it}

abbrev pub AreWaiting : State → List JobOf → List ValuesOf → Type 0
AreWaiting s jobs values = (place : ℕ) (seat : Seat) → slice_get (seats s) place ≡ Some seat
    → IsWaiting s jobs seat (value_at values place)

-- what has a place is current
pub seat_stands : (s : State) (seat : Seat) → incarnation_at s seat.zone ≡ Some seat.incarnation
    → stands s seat.zone seat.incarnation ≡ true
seat_stands s seat e = rw e (let same : seat.incarnation ≡ seat.incarnation = refl in grind (arith, nat_tests))

-- an incarnation at a place is of no job of another place
elsewhere : (s : State) (job : JobOf) (place p : ℕ) (seat : Seat) → IsState s → IsApart s
    → place_at s job.flight.zone ≡ Some p → slice_get (seats s) place ≡ Some seat → (place ≡ p → ⊥)
    → is_of seat job ≡ false
elsewhere s job place p seat ok apart at there ne = elim (cases_Bool (is_of seat job)) [
  | inl t ↦ absurd (
      let zones = (of_parts seat job t).0 in
      let here : place_at s seat.zone ≡ Some place = (place_seat s ok apart place seat there).0 in
      let both : Some place ≡ Some p = sym here ∙ (ap (place_at s) (sym zones) ∙ at) in
      let same : place ≡ p = cc in ne same)
  | inr f ↦ f
]

-- a job at its place ends, and its zone has other values, without a job
pub waiting_end : (s : State) (job : JobOf) (jobs : List JobOf) (values : List ValuesOf) (v : ValuesOf) (p : ℕ)
    → IsState s → IsApart s → AreApart jobs → IsAmong job.flight jobs
    → place_at s job.flight.zone ≡ Some p → slice_get (seats s) p ≡ Some (seat_of job) → p < length values
    → v.timing.busy ≡ false → v.turn < primaries_of s job.flight.zone
    → AreWaiting s jobs values → AreWaiting s (others jobs job) (slice_set values p v)
waiting_end s job jobs values v p ok apart distinct among at own lt idle turn waits place seat there =
    elim (cases_eq place p) [
      | inl same ↦
          let is : slice_get (seats s) place ≡ Some (seat_of job) = rw same own in
          let both : Some seat ≡ Some (seat_of job) = sym there ∙ is in
          let mine : seat ≡ seat_of job = cc in
          let now : value_at (slice_set values p v) place ≡ v = rw same (get_or-set_same values p v fresh lt) in
          rw (mine, now) record { busy = idle ∙ sym (none_others job jobs distinct among); turn = turn }
      | inr other ↦
          let now : value_at (slice_set values p v) place ≡ value_at values place =
          get_or-set_other values p place v fresh other in
          let before = waits place seat there in
          rw now record {
            busy = before.busy ∙ sym (any_others seat job jobs distinct among
                (elsewhere s job place p seat ok apart at there other));
            turn = before.turn;
          }
    ]

-- a job ends whose incarnation isn't current
pub waiting_landed : (s : State) (job : JobOf) (jobs : List JobOf) (values : List ValuesOf) → IsState s → IsApart s
    → AreApart jobs → IsAmong job.flight jobs
    → (stands s job.flight.zone job.flight.incarnation ≡ true → ⊥) → AreWaiting s jobs values
    → AreWaiting s (others jobs job) values
waiting_landed s job jobs values ok apart distinct among gone waits place seat there =
    let before = waits place seat there in
    let ne : is_of seat job ≡ false = elim (cases_Bool (is_of seat job)) [
      | inl t ↦ absurd (let p = of_parts seat job t in
          gone (rw (p.0, p.1) (seat_stands s seat (place_seat s ok apart place seat there).1)))
      | inr f ↦ f
    ] in
    record { busy = before.busy ∙ sym (any_others seat job jobs distinct among ne); turn = before.turn }

-- a job departs from its place
pub waiting_due : (s : State) (job : JobOf) (jobs : List JobOf) (values : List ValuesOf) (v : ValuesOf) (p : ℕ)
    → IsState s → IsApart s
    → place_at s job.flight.zone ≡ Some p → slice_get (seats s) p ≡ Some (seat_of job) → p < length values
    → v.timing.busy ≡ true → v.turn ≡ (value_at values p).turn
    → AreWaiting s jobs values → AreWaiting s (jobs ++ job ∷ []) (slice_set values p v)
waiting_due s job jobs values v p ok apart at own lt busy turn waits place seat there = elim (cases_eq place p) [
  | inl same ↦
      let is : slice_get (seats s) place ≡ Some (seat_of job) = rw same own in
      let both : Some seat ≡ Some (seat_of job) = sym there ∙ is in
      let mine : seat ≡ seat_of job = cc in
      let now : value_at (slice_set values p v) place ≡ v = rw same (get_or-set_same values p v fresh lt) in
      let before = waits p (seat_of job) own in
      let more : (list_any (is_of (seat_of job)) jobs || is_of (seat_of job) job) ≡ true = rw (of_it job)
      (elim (cases_Bool (list_any (is_of (seat_of job)) jobs)) [ inl t ↦ rw t refl | inr f ↦ rw f refl ]) in
      rw (mine, now)
      record { busy = busy ∙ (sym more ∙ sym (any_push (seat_of job) job jobs)); turn = rw turn before.turn }
  | inr other ↦
      let now : value_at (slice_set values p v) place ≡ value_at values place =
      get_or-set_other values p place v fresh other in
      let before = waits place seat there in
      let none = elsewhere s job place p seat ok apart at there other in
      let more : (list_any (is_of seat) jobs || is_of seat job) ≡ list_any (is_of seat) jobs =
      rw none (elim (cases_Bool (list_any (is_of seat) jobs)) [ inl t ↦ rw t refl | inr f ↦ rw f refl ]) in
      rw now record { busy = before.busy ∙ (sym more ∙ sym (any_push seat job jobs)); turn = before.turn }
]

-- a zone has other values, with a job and with the primary as before
pub waiting_changed : (s : State) (jobs : List JobOf) (values : List ValuesOf) (v : ValuesOf) (p : ℕ)
    → p < length values → v.timing.busy ≡ (value_at values p).timing.busy → v.turn ≡ (value_at values p).turn
    → AreWaiting s jobs values → AreWaiting s jobs (slice_set values p v)
waiting_changed s jobs values v p lt busy turn waits place seat there = elim (cases_eq place p) [
  | inl same ↦
      let now : value_at (slice_set values p v) place ≡ v = rw same (get_or-set_same values p v fresh lt) in
      let before = waits p seat (rw (← same) there) in
      rw now record { busy = busy ∙ before.busy; turn = rw turn before.turn }
  | inr other ↦
      let now : value_at (slice_set values p v) place ≡ value_at values place =
      get_or-set_other values p place v fresh other in
      rw now (waits place seat there)
]
