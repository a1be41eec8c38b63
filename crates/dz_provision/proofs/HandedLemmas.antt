-- What a list tells of a job that is handed out.
use Rattle.std.proofs.Common.{◌≡◌, ◌⊎◌, ℕ, ◌-◌, ◌^◌, ◌<◌, ◌≤◌, Bool, true, false, List, [], length, get_or, Option}
use Rattle.std.proofs.Common.{Some, None, Result, Ok, Err, refl, sym, subst, arith, inl, inr}
use Rattle.std.specs.Prelude.{nat_le, nat_lt, slice_get, IsSome, IfSome, if◌then◌else◌}
use Rattle.std.specs.Option.{option_map_or}
use Rattle.std.proofs.lemmas.Bool.{cases_Bool}
use Rattle.std.proofs.lemmas.Bool.Decides.{nat_tests}
use Rattle.std.proofs.lemmas.Option.{slice_get-get_or}
use Rattle.dz_name.specs.Words.{Name}
use Rattle.dz_io.specs.declared.peer.Peer.{Peer}
use Rattle.dz_history.specs.declared.entry.Entry.{Entry}
use Rattle.dz_history.specs.declared.entry.Entry.TheVariants.{Setup, Transfer}
use Rattle.dz_history.specs.State.{State, IsState, primaries_at}
use Rattle.dz_history.specs.After.{after, step}
use Rattle.dz_history.specs.Legal.{CanFollow, IsLegal}
use Rattle.dz_history.specs.Places.{Seat, seats, IsPlacedIn}
use Rattle.dz_history.proofs.ListLemmas.{after_more, count_is, by_entries}
use Rattle.dz_history.proofs.LifeLemmas.{whole}
use Rattle.dz_history.proofs.OwnLemmas.{apart_is}
use Rattle.dz_history.proofs.PlaceLemmas.{place_seat}
use Rattle.dz_history.proofs.PrimaryLemmas.{placed_opened, placed_step, primaries_there}
use Rattle.dz_job.specs.Job.{JobOf}
use Rattle.dz_fleet.specs.declared.due.Due.{Due}
use Rattle.dz_fleet.specs.declared.due.Due.TheVariants as due
use Rattle.dz_fleet.specs.Values.{value_at}
use Rattle.dz_fleet.specs.Core.{Core, state_of, is_full, first_place, quiet_of, primary_at, job_at, due_from, due_of}
use Rattle.dz_fleet.specs.Answers.{IsDue}
use Rattle.dz_fleet.specs.Sound.{IsSound}
use Rattle.dz_fleet.proofs.HandLemmas.{room, first_idle, job_is}
use Rattle.dz_fleet.proofs.StateLemmas.{state_step, state_opened}
use Rattle.dz_fleet.proofs.TakeLemmas.{stands_some}
use Rattle.dz_fleet.proofs.WaitLemmas.{seat_stands}
use Rattle.dz_provision.specs.declared.provisioner.LogFault.{LogFault}
use Rattle.dz_provision.specs.Held.{Held, IsHandedOut}
use Rattle.dz_provision.specs.Receipts.{HasPrimary, IsHandedAt}

-- ---- what a list that can come about assigns
record IsPlain (s : State) : Type 0 where
  state : IsState s
  placed : IsPlacedIn s

plain_step : (es : List Entry) (e : Entry) → IsLegal es → CanFollow (after es) e → (0 < length es → IsPlain (after es))
    → IsPlain (step (after es) e)
unfolding step
plain_step es (Setup config) legal c before = record { state = state_opened config c.1; placed = placed_opened config }
plain_step es (Transfer t) legal c before =
    let ok = before (omega (arith, c.0, count_is es legal)) in
    record {
      state = state_step (after es) t ok.state (stands_some (after es) t.zone t.incarnation c.1.stands);
      placed = placed_step (after es) t ok.placed;
    }

plain : (es : List Entry) → IsLegal es → 0 < length es → IsPlain (after es)
plain es legal = by_entries (λ fs. 0 < length fs → IsPlain (after fs)) (λ some. absurd (omega (arith, some)))
    (λ fs e l c before some. subst IsPlain (sym (after_more fs e)) (plain_step fs e l c before)) es legal

-- ---- one of the primaries
primary_in : (s : State) (zone : Name) (n : ℕ) (o : Option (List Peer)) → primaries_at s zone ≡ o → IsSome o
    → n < option_map_or (λ ps. length ps) o 1 → HasPrimary s zone (primary_at o n)
unfolding HasPrimary
primary_in s zone n None e some less = absurd (cc)
primary_in s zone n (Some ps) e some less = (ps, n, e, slice_get-get_or ps n record { address = []; port = 0 } less)

-- ---- a job
module _ (c : Core) (now : ℕ) (ok : IsSound c) where
  handed_at_place : (place : ℕ) → first_place c ≡ Some place
      → IsHandedAt (Ok (due.Job (job_at c now place))) c.list now
  handed_at_place place first =
      let s = state_of c in
      let p = plain c.list ok.legal ok.begun in
      let d : Seat = record { zone = []; incarnation = 0 } in
      let seat = get_or (seats s) place d in
      let there : slice_get (seats s) place ≡ Some seat =
      slice_get-get_or (seats s) place d (rw (← ok.sized) (first_idle c.values place first).0) in
      let at = place_seat s p.state (apart_is c.list ok.legal) place seat there in
      let stood = seat_stands s seat at.1 in
      let some = primaries_there s p.placed seat.zone (stands_some s seat.zone seat.incarnation stood) in
      let turn = (ok.waiting place seat there).turn in
      subst (λ (j : JobOf). IsHandedAt (Ok (due.Job j)) c.list now) (sym (job_is c now place seat there)) (
        record {
          begun = stood;
          unended = whole c.list ok.legal seat.zone seat.incarnation stood;
          held = refl;
          key = refl;
          primary = primary_in s seat.zone (value_at c.values place).turn (primaries_at s seat.zone) refl some turn;
          ask = ((value_at c.values place).whole, refl);
          id = refl;
          entries = refl;
        },
        refl,
      )

  idle_at : is_full c ≡ false → IfSome (quiet_of c now).earliest (λ earliest. now < earliest)
      → IsHandedAt (Ok (due.Idle (quiet_of c now))) c.list now
  idle_at free late = ((refl, refl), ((room c free).0, late))

  handed_by : (b : Bool) (place : ℕ) → first_place c ≡ Some place → is_full c ≡ false
      → nat_lt now (value_at c.values place).timing.next ≡ b
      → IsHandedAt (Ok (if b then due.Idle (quiet_of c now) else due.Job (job_at c now place))) c.list now
  handed_by true place first free late =
      idle_at free (rw first (let l : now < (value_at c.values place).timing.next = grind (arith, nat_tests) in l))
  handed_by false place first free late = handed_at_place place first

  handed_from : (o : Option ℕ) → first_place c ≡ o → is_full c ≡ false → IsHandedAt (Ok (due_from c now o)) c.list now
  handed_from None first free = idle_at free (rw first tt)
  handed_from (Some place) first free =
      handed_by (nat_lt now (value_at c.values place).timing.next) place first free refl

  full_by : is_full c ≡ true → (length c.flight ≡ 16) ⊎ (c.tickets ≡ 2 ^ 64 - 2)
  full_by full = elim (cases_Bool (nat_le 16 (length c.flight))) [
    | inl t ↦ inl (let l : 16 ≤ length c.flight = grind (arith, nat_tests) in omega (arith, l, ok.few))
    | inr f ↦ inr (let g : nat_le (2 ^ 64 - 2) c.tickets ≡ true = rw f at full in
        let l : 2 ^ 64 - 2 ≤ c.tickets = grind (arith, nat_tests) in omega (arith, l, ok.most))
  ]

  handed_if : (b : Bool) → is_full c ≡ b
      → IsHandedAt (Ok (if b then due.Full (quiet_of c now) else due_from c now (first_place c))) c.list now
  handed_if true full = ((refl, refl), full_by full)
  handed_if false free = handed_from (first_place c) refl free

  handed_due : IsHandedAt (Ok (due_of c now)) c.list now
  handed_due = handed_if (is_full c) refl

  -- what is answered tells so of the list
  pub handed_at : (answer : Due) (d : Core) → IsDue c now answer d → IsHandedAt (Ok answer) c.list now
  handed_at (due.Job job) d is = subst (λ (a : Due). IsHandedAt (Ok a) c.list now) (sym is.0) handed_due
  handed_at (due.Idle quiet) d is = subst (λ (a : Due). IsHandedAt (Ok a) c.list now) (sym is.0) handed_due
  handed_at (due.Full quiet) d is = subst (λ (a : Due). IsHandedAt (Ok a) c.list now) (sym is.0) handed_due
  handed_at due.OutOfMemory d is = tt

pub handed_now : (h k : Held) (now : ℕ) (r : Result Due LogFault) → IsSound h.core → IsHandedOut h now r k
    → IsHandedAt r h.core.list now
unfolding IsHandedOut
handed_now h k now (Ok answer) ok is = handed_at h.core now ok answer k.core is.0
handed_now h k now (Err fault) ok is = tt
