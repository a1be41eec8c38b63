-- A job that is handed out.
use Rattle.std.proofs.Common.{◌≡◌, ℕ, ◌+◌, ◌-◌, ◌^◌, ◌<◌, ◌≤◌, Bool, true, false, List, [], ◌∷◌, ◌++◌, map, length}
use Rattle.std.proofs.Common.{get_or, refl, sym, ◌∙◌, ap, subst, arith, inl, inr, Some, None}
use Rattle.std.specs.Prelude.{Option, ◌&&◌, not, nat_le, nat_lt, slice_get, slice_set, position, option_map, IsSome}
use Rattle.std.specs.Arc.{arc_value}
use Rattle.std.specs.Option.{ForSome}
use Rattle.std.proofs.lemmas.Bool.{cases_Bool}
use Rattle.std.proofs.lemmas.Bool.Decides.{nat_tests}
use Rattle.std.proofs.lemmas.Option.{get_or_from_slice_get, slice_get-get_or}
use Rattle.std.proofs.lemmas.List.Quantifiers.{position-Some}
use Rattle.dz_io.specs.declared.peer.Peer.{Peer}
use Rattle.dz_timer.specs.Values.{ValuesOf, fresh, departed}
use Rattle.dz_timer.specs.Schedule.{is_first}
use Rattle.dz_history.specs.declared.entry.Entry.{Entry}
use Rattle.dz_history.specs.State.{State, IsState, primaries_at}
use Rattle.dz_history.specs.After.{after}
use Rattle.dz_history.specs.Ended.{ended}
use Rattle.dz_history.specs.Places.{Seat, seats, IsApart}
use Rattle.dz_history.proofs.ListLemmas.{count_is}
use Rattle.dz_history.proofs.StandsLemmas.{stands_old}
use Rattle.dz_history.proofs.LifeLemmas.{whole}
use Rattle.dz_history.proofs.PlaceLemmas.{place_seat}
use Rattle.dz_job.specs.Job.{JobOf, IsJob}
use Rattle.dz_fleet.specs.declared.due.Due.TheVariants as due
use Rattle.dz_fleet.specs.declared.flight.Flying.{Flying}
use Rattle.dz_fleet.specs.Quiet.{IsQuiet}
use Rattle.dz_fleet.specs.Values.{value_at}
use Rattle.dz_fleet.specs.Core.{Core, state_of, is_full, first_place, quiet_of, due_of, after_due, job_for, job_at}
use Rattle.dz_fleet.specs.Sound.{IsSent, IsSound, IsFlying}
use Rattle.dz_fleet.specs.inner.Flying.{job_in, IsMarked}
use Rattle.dz_fleet.specs.inner.Kept.{core_in, IsKept}
use Rattle.dz_fleet.proofs.FlightLemmas.{all_push}
use Rattle.dz_fleet.proofs.FlyingLemmas.{flies}
use Rattle.dz_fleet.proofs.GivenLemmas.{given_now}
use Rattle.dz_fleet.proofs.SoundLemmas.{sound_due}
use Rattle.dz_fleet.proofs.WaitLemmas.{seat_stands}

pub map_push : {X Y : Type 0} (f : X → Y) (xs : List X) (x : X) → map f (xs ++ x ∷ []) ≡ map f xs ++ f x ∷ []
map_push f [] x = refl
map_push f (y ∷ ys) x = ap (λ zs. f y ∷ zs) (map_push f ys x)

-- ---- there is room
pub room : (c : Core) → is_full c ≡ false → (length c.flight < 16) × (c.tickets < 2 ^ 64 - 2)
room c h = elim (cases_Bool (nat_le 16 (length c.flight))) [
  | inl t ↦ absurd (let e : true ≡ false = rw t at h in cc)
  | inr f ↦ (
    grind (arith, nat_tests),
    (let g : nat_le (2 ^ 64 - 2) c.tickets ≡ false = rw f at h in grind (arith, nat_tests)),
  )
]

-- the first place has no job in flight
idle_of : (b r : Bool) → (not b && r) ≡ true → b ≡ false
idle_of true r h = absurd (cc)
idle_of false r h = refl

pub first_idle : (values : List ValuesOf) (place : ℕ) → position (is_first values) values ≡ Some place
    → (place < length values) × ((value_at values place).timing.busy ≡ false)
first_idle values place e =
    let p = position-Some (is_first values) values place fresh e in
    (p.0, idle_of (value_at values place).timing.busy _ p.1)

-- ---- the job
pub job_is : (c : Core) (now place : ℕ) (seat : Seat) → slice_get (seats (state_of c)) place ≡ Some seat
    → job_at c now place ≡ job_for c now seat (value_at c.values place)
unfolding job_at
job_is c now place seat there =
    ap (λ x. job_for c now x (value_at c.values place)) (get_or_from_slice_get (seats (state_of c)) place seat _ there)

pub sent_by : (c : Core) (now place : ℕ) (seat : Seat) → IsSound c → IsState (state_of c) → IsApart (state_of c)
    → slice_get (seats (state_of c)) place ≡ Some seat → IsJob (job_for c now seat (value_at c.values place))
    → IsSent c.list (c.tickets + 1) (job_for c now seat (value_at c.values place))
sent_by c now place seat ok state apart there valid =
    let stood = seat_stands (state_of c) seat (place_seat (state_of c) state apart place seat there).1 in
    record {
      valid = valid;
      ticket = omega arith;
      given = given_now c.list (job_for c now seat (value_at c.values place)) refl refl;
      old = omega (arith, stands_old (state_of c) state seat.zone seat.incarnation stood, count_is c.list ok.legal);
      standing = λ none. stood;
      held = λ h. refl;
    }

pub due_core : (c : Core) (job : JobOf) (place : ℕ) → first_place c ≡ Some place
    → record c {
      tickets = c.tickets + 1;
      flight = c.flight ++ job ∷ [];
      values = slice_set c.values place (departed (value_at c.values place));
    } ≡ after_due c (due.Job job)
due_core c job place e = rw e refl

pub due_is : (c : Core) (now place : ℕ) → is_full c ≡ false → first_place c ≡ Some place
    → nat_lt now (value_at c.values place).timing.next ≡ false → due.Job (job_at c now place) ≡ due_of c now
due_is c now place free first late = rw (free, first, late) refl

-- ---- why none is handed out
none_later : (c : Core) (now : ℕ) (o : Option ℕ) → o ≡ None
    → ForSome (option_map (λ place. (value_at c.values place).timing.next) o) (λ earliest. now < earliest)
none_later c now None e = λ x h. absurd (cc)
none_later c now (Some place) e = absurd (cc)

pub quiet_none : (c : Core) (now : ℕ) → None ≡ first_place c → IsQuiet (quiet_of c now)
quiet_none c now e = inr (inr (none_later c now (first_place c) (sym e)))

-- ---- what is kept
pub kept_due : (h : State) (list : List Entry) (tickets : ℕ) (fs : List Flying) (values : List ValuesOf)
    (place now : ℕ) (f : Flying) → IsKept h list tickets fs values
    → is_full (core_in list tickets fs values) ≡ false → first_place (core_in list tickets fs values) ≡ Some place
    → job_in f ≡ job_at (core_in list tickets fs values) now place → IsJob (job_in f) → f.ended ≡ None
    → IsKept h list (tickets + 1) (fs ++ f ∷ []) (slice_set values place (departed (value_at values place)))
kept_due h list tickets fs values place now f k free first is valid none =
    let c : Core = core_in list tickets fs values in
    let space = room c free in
    let idle = first_idle values place first in
    let state = subst IsState k.after k.state in
    let apart = subst IsApart k.after k.apart in
    let d : Seat = record { zone = []; incarnation = 0 } in
    let seat = get_or (seats (after list)) place d in
    let there : slice_get (seats (after list)) place ≡ Some seat =
    slice_get-get_or (seats (after list)) place d (rw (← k.sound.sized) idle.0) in
    let own : job_in f ≡ job_for c now seat (value_at values place) = is ∙ job_is c now place seat there in
    let at = place_seat (after list) state apart place seat there in
    let stood = seat_stands (after list) seat at.1 in
    let sent = sent_by c now place seat k.sound state apart there (subst IsJob own valid) in
    let sound = sound_due c (job_for c now seat (value_at values place)) place
    (departed (value_at values place)) state apart k.sound at.0 there idle.1 refl refl refl sent space.0 space.1 in
    record {
      after = k.after;
      state = k.state;
      sound = subst (λ jobs. IsSound record {
        list = list;
        tickets = tickets + 1;
        flight = jobs;
        values = slice_set values place (departed (value_at values place));
      })
          (ap (λ j. map job_in fs ++ j ∷ []) (sym own) ∙ sym (map_push job_in fs f)) sound;
      apart = k.apart;
      placed = k.placed;
      marked = all_push (IsMarked list) fs f k.marked
          (none ∙ sym (subst (λ (j : JobOf). ended list j.flight.zone j.flight.incarnation ≡ None) (sym own)
          (whole list k.sound.legal seat.zone seat.incarnation stood)));
    }

pub job_moment : (c : Core) (now place : ℕ) → (job_at c now place).flight.moment ≡ now
unfolding job_at
job_moment c now place = refl

pub late_test : (now next : ℕ) → next ≤ now → nat_lt now next ≡ false
late_test now next h = grind (arith, nat_tests)

none_some : {A : Type 0} (o : Option (List Peer)) → o ≡ None → IsSome o → A
none_some None e some = absurd (cc)
none_some (Some ps) e some = absurd (cc)

pub no_primaries : {A : Type 0} (h s : State) (zone : List (List ℕ)) → h ≡ s → primaries_at h zone ≡ None
    → IsSome (primaries_at s zone) → A
no_primaries h s zone same e some =
    none_some (primaries_at s zone) (subst (λ x. primaries_at x zone ≡ None) same e) some

pub flying_is : (job : JobOf) (f : Flying) → f.flight ≡ job.flight → option_map arc_value f.held.value ≡ job.held
    → f.key.value ≡ job.key → job_in f ≡ job
flying_is job f e g k = rw (e, g, k) refl

last_at : (jobs : List JobOf) (job : JobOf) → slice_get (jobs ++ job ∷ []) (length jobs) ≡ Some job
last_at [] job = refl
last_at (j ∷ js) job = last_at js job

pub handed_flies : (d : Core) (jobs : List JobOf) (job : JobOf) → IsSound d → d.flight ≡ jobs ++ job ∷ []
    → IsFlying d job
handed_flies d jobs job ok e = flies d (length jobs) job ok (rw e (last_at jobs job))

pub due_made : (list : List Entry) (tickets : ℕ) (fs : List Flying) (values : List ValuesOf) (f : Flying) (job : JobOf)
    (place : ℕ) → job_in f ≡ job → first_place (core_in list tickets fs values) ≡ Some place
    → core_in list (tickets + 1) (fs ++ f ∷ []) (slice_set values place (departed (value_at values place)))
    ≡ after_due (core_in list tickets fs values) (due.Job job)
due_made list tickets fs values f job place own first =
    let jobs : map job_in (fs ++ f ∷ []) ≡ map job_in fs ++ job ∷ [] =
    map_push job_in fs f ∙ ap (λ j. map job_in fs ++ j ∷ []) own in
    rw jobs (due_core (core_in list tickets fs values) job place first)
