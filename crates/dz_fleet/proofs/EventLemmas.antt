-- A core stays sound, whatever can happen to it.
use Rattle.std.proofs.Common.{◌≡◌, ℕ, ◌^◌, ◌<◌, Bool, true, false, List, [], ◌∷◌, ◌++◌, length, get_or, refl, sym, ◌∙◌}
use Rattle.std.proofs.Common.{ap, subst, arith, inl, inr, Some, None}
use Rattle.std.specs.Prelude.{Option, nat_lt, slice_get, slice_set, if◌then◌else◌}
use Rattle.std.proofs.lemmas.Bool.{cases_Bool}
use Rattle.std.proofs.lemmas.Option.{slice_get-get_or}
use Rattle.dz_name.specs.Words.{Name, Octets}
use Rattle.dz_zone.specs.Version.{Zone}
use Rattle.dz_settings.specs.declared.config.CatalogSettings.{CatalogSettings}
use Rattle.dz_settings.specs.Config.{IsAllowed}
use Rattle.dz_notify.specs.declared.notify.Heard.{Heard}
use Rattle.dz_notify.specs.declared.notify.Heard.TheVariants as heard
use Rattle.dz_timer.specs.Values.{ValuesOf, departed, succeeded}
use Rattle.dz_timer.specs.Values as schedule
use Rattle.dz_take.specs.Taken.{CanAsk}
use Rattle.dz_take.specs.Outcome.{outcome, octets_used}
use Rattle.dz_history.specs.declared.aftermath.Aftermath.{Aftermath}
use Rattle.dz_history.specs.declared.aftermath.Aftermath.TheVariants.{Member}
use Rattle.dz_history.specs.declared.entry.Entry.{Entry}
use Rattle.dz_history.specs.State.{State, IsState, opened, catalog_at, stands, held_at}
use Rattle.dz_history.specs.After.{after, step, aftermath_of}
use Rattle.dz_history.specs.Places.{Seat, IsSeated, seats, place_at, IsApart, IsPlacedIn}
use Rattle.dz_history.proofs.ListLemmas.{after_more, count_is}
use Rattle.dz_history.proofs.ApartLemmas.{apart_step}
use Rattle.dz_history.proofs.PrimaryLemmas.{placed_step}
use Rattle.dz_history.proofs.PlaceLemmas.{place_there, place_seat, place_within}
use Rattle.dz_job.specs.declared.flight.Flight.{Flight}
use Rattle.dz_job.specs.declared.verdict.Verdict.{Verdict}
use Rattle.dz_job.specs.declared.verdict.Verdict.TheVariants.{Published, Confirmed, Refused, PolicyRefused, Stale}
use Rattle.dz_job.specs.declared.verdict.Verdict.TheVariants.{OutOfMemory}
use Rattle.dz_job.specs.Job.{JobOf, IsJob, transfer_for, taken_for, retry_in, refresh_in}
use Rattle.dz_fleet.specs.declared.due.Due.TheVariants as due
use Rattle.dz_fleet.specs.Values.{value_at, changed, values_after}
use Rattle.dz_fleet.specs.Weighing.{aftermath_in, is_taken}
use Rattle.dz_fleet.specs.Core.{Core, state_of, opened_core, is_full, first_place, ask_of, job_for, job_at, due_from}
use Rattle.dz_fleet.specs.Core.{due_of, after_due, ended_of, landed, primaries_of, is_old_serial, entry_for}
use Rattle.dz_fleet.specs.Core.{after_failure, after_refusal, after_success, after_end, verdict_of, after_verdict}
use Rattle.dz_fleet.specs.Core.{settled, heard_of, after_notify}
use Rattle.dz_fleet.specs.Sound.{seat_of, IsAmong, IsSent, IsSound, IsFlying}
use Rattle.dz_fleet.specs.Events.{Event, asked, ended, starved, failed, notified, next, CanHappen, after_events}
use Rattle.dz_fleet.specs.Events.{CanHappenInTurn, ListStaysLegal, CoreStaysSound}
use Rattle.dz_fleet.proofs.FlightLemmas.{all_weaker, among_all}
use Rattle.dz_fleet.proofs.RelistLemmas.{some_primary}
use Rattle.dz_fleet.proofs.RenewLemmas.{AreRenewed, renewed_waits}
use Rattle.dz_fleet.proofs.SoundLemmas.{among_stands, sound_landed, sound_end, sound_changed, sound_due, sound_taken}
use Rattle.dz_fleet.proofs.EndLemmas.{waiting, ends_idle, ends_turn, placed_at}
use Rattle.dz_fleet.proofs.StartLemmas.{opened_kept}
use Rattle.dz_fleet.proofs.HandLemmas.{room, first_idle, job_is, sent_by, due_core}
use Rattle.dz_fleet.proofs.TakeLemmas.{MayJoin, stands_some, follows, Tells, tells, aftermath_is}
use Rattle.dz_fleet.proofs.TakenLemmas.{own_from}
use Rattle.dz_fleet.proofs.SettleLemmas.{settled_by}
use Rattle.dz_fleet.proofs.WakeLemmas.{same_busy}
use Rattle.dz_fleet.proofs.StateLemmas.{AreOwn, state_step, state_opened, own_step, held_own}

-- what holds of every core that can come about
pub record IsWell (c : Core) : Type 0 where
  pub sound : IsSound c
  pub state : IsState (state_of c)
  pub apart : IsApart (state_of c)
  pub placed : IsPlacedIn (state_of c)
  pub own : AreOwn (state_of c)

well_same : (c d : Core) → d.list ≡ c.list → IsWell c → IsSound d → IsWell d
well_same c d e ok sound = record {
  sound = sound;
  state = subst (λ (l : List Entry). IsState (after l)) (sym e) ok.state;
  apart = subst (λ (l : List Entry). IsApart (after l)) (sym e) ok.apart;
  placed = subst (λ (l : List Entry). IsPlacedIn (after l)) (sym e) ok.placed;
  own = subst (λ (l : List Entry). AreOwn (after l)) (sym e) ok.own;
}

pub well_opened : (config : List CatalogSettings) → IsAllowed config → IsWell (opened_core config)
well_opened config allowed =
    let k = opened_kept config (opened config) allowed refl (state_opened config allowed) in
    record {
      sound = k.sound;
      state = subst IsState k.after k.state;
      apart = subst IsApart k.after k.apart;
      placed = subst IsPlacedIn k.after k.placed;
      own = subst AreOwn k.after tt;
    }

-- ---- a job is asked for
asks_so : (held : Option Zone) (whole : Bool) → CanAsk (ask_of held whole) held
asks_so None whole = tt
asks_so (Some zone) true = tt
asks_so (Some zone) false = refl

well_handed : (c : Core) (now place : ℕ) → IsWell c → now < 2 ^ 40 → is_full c ≡ false → first_place c ≡ Some place
    → IsWell (after_due c (due.Job (job_at c now place)))
well_handed c now place ok moment free first =
    let space = room c free in
    let idle = first_idle c.values place first in
    let s = state_of c in
    let d : Seat = record { zone = []; incarnation = 0 } in
    let seat = get_or (seats s) place d in
    let there : slice_get (seats s) place ≡ Some seat =
    slice_get-get_or (seats s) place d (rw (← ok.sound.sized) idle.0) in
    let at = place_seat s ok.state ok.apart place seat there in
    let v = value_at c.values place in
    let valid : IsJob (job_for c now seat v) = record {
      own = held_own s seat.zone ok.state ok.own;
      asks = asks_so (held_at s seat.zone) v.whole;
      moment = moment;
    } in
    let sent = sent_by c now place seat ok.sound ok.state ok.apart there valid in
    let sound = sound_due c (job_for c now seat v) place
    (departed v) ok.state ok.apart ok.sound at.0 there idle.1 refl refl refl sent space.0 space.1 in
    well_same c (after_due c (due.Job (job_at c now place))) refl ok
    (subst (λ (j : JobOf). IsSound (after_due c (due.Job j))) (sym (job_is c now place seat there))
    (subst IsSound (due_core c (job_for c now seat v) place first) sound))

well_first : (c : Core) (now : ℕ) (o : Option ℕ) → IsWell c → now < 2 ^ 40 → is_full c ≡ false → first_place c ≡ o
    → IsWell (after_due c (due_from c now o))
well_first c now None ok moment free first = ok
well_first c now (Some place) ok moment free first =
    elim (cases_Bool (nat_lt now (value_at c.values place).timing.next)) [
      | inl early ↦ rw early ok
      | inr late ↦ rw late (well_handed c now place ok moment free first)
    ]

pub well_due : (c : Core) (now : ℕ) → IsWell c → now < 2 ^ 40 → IsWell (after_due c (due_of c now))
well_due c now ok moment = elim (cases_Bool (is_full c)) [
  | inl full ↦ rw full ok
  | inr free ↦ rw free (well_first c now (first_place c) ok moment free refl)
]

-- ---- a job ends by which nothing is taken
module _ (c : Core) (job : JobOf) (now : ℕ) (ok : IsWell c) (among : IsAmong job.flight c.flight) where
  job_seated : ended_of c job ≡ None → IsSeated (state_of c) job.flight.zone job.flight.incarnation
  job_seated none =
      place_there (state_of c) job.flight.zone job.flight.incarnation (among_stands c job ok.sound among none)

  waits_on : (none : ended_of c job ≡ None) (whole : Bool)
      → IsSound (record (landed c job) {
        values = slice_set c.values (job_seated none).place
            (waiting (value_at c.values (job_seated none).place) now (retry_in (held_at (state_of c) job.flight.zone))
            (primaries_of (state_of c) job.flight.zone) whole);
      })
  waits_on none whole =
      let s = state_of c in
      let seated = job_seated none in
      let b = value_at c.values seated.place in
      let retry = retry_in (held_at s job.flight.zone) in
      let n = primaries_of s job.flight.zone in
      sound_end c job seated.place (waiting b now retry n whole) ok.state ok.apart ok.sound among seated.at
      (placed_at s job.flight.zone job.flight.incarnation seated.place seated seated.at)
      (ends_idle b now retry n whole) (ends_turn b now retry n whole (some_primary s job.flight.zone ok.state))

  well_failure : ended_of c job ≡ None → IsWell (after_failure c job now)
  well_failure none = well_same c (after_failure c job now) refl ok (rw (job_seated none).at (waits_on none false))

  pub well_refusal : ended_of c job ≡ None → IsWell (after_refusal c job now)
  well_refusal none = well_same c (after_refusal c job now) refl ok (rw (job_seated none).at (waits_on none true))

  well_landed : (n : ℕ) → ended_of c job ≡ Some n → IsWell (landed c job)
  well_landed n e = well_same c (landed c job) refl ok (sound_landed c job n ok.state ok.apart ok.sound among e)

  pub well_end : (o : Option ℕ) → ended_of c job ≡ o → IsWell (after_end c job now o)
  well_end None e = well_failure e
  well_end (Some n) e = well_landed n e

  well_refused : (b : Bool) → ended_of c job ≡ None
      → IsWell (if b then after_failure c job now else after_refusal c job now)
  well_refused true none = well_failure none
  well_refused false none = well_refusal none

-- ---- a transfer is taken
-- a job that is the core's is one, whatever its key is
abbrev keyless : (f : Flight) (h : Option Zone) → JobOf
keyless f h = record { flight = f; held = h; key = None }

keyless_valid : (job : JobOf) → IsJob job → IsJob (keyless job.flight job.held)
keyless_valid job v = record { own = v.own; asks = v.asks; moment = v.moment }

keyed_valid : (job : JobOf) → IsJob (keyless job.flight job.held) → IsJob job
keyed_valid job v = record { own = v.own; asks = v.asks; moment = v.moment }

job_valid : (c : Core) (job : JobOf) → IsSound c → IsFlying c job
    → stands (state_of c) job.flight.zone job.flight.incarnation ≡ true → IsJob job
job_valid c job ok fly stood =
    let s = state_of c in
    let P : Flight → Type 0 = λ f. stands s f.zone f.incarnation ≡ true → IsJob (keyless f (held_at s f.zone)) in
    let all = all_weaker (IsSent c.list c.tickets) (λ (j : JobOf). P j.flight) c.flight
    (λ j sent up. subst (λ h. IsJob (keyless j.flight h)) (sent.held up) (keyless_valid j sent.valid)) ok.sent in
    keyed_valid job (subst (λ h. IsJob (keyless job.flight h)) (sym (fly.held stood))
    (among_all P job.flight c.flight fly.there all stood))

module _ (c : Core) (job : JobOf) (octets : Octets) (ok : IsWell c) (fly : IsFlying c job)
    (none : ended_of c job ≡ None) (used : octets_used (transfer_for job) octets ≡ length octets)
    (approved : MayJoin c job octets) (aftermath : Aftermath) (is : aftermath ≡ aftermath_in c job octets) where
  abbrev later : State
  later = step (state_of c) (entry_for job octets)

  abbrev values : List ValuesOf
  values = values_after (state_of c) c.values aftermath later.fold.members

  stood : stands (state_of c) job.flight.zone job.flight.incarnation ≡ true
  stood = among_stands c job ok.sound fly.there none

  later_state : IsState later
  later_state = state_step (state_of c) (taken_for job octets) ok.state
      (stands_some (state_of c) job.flight.zone job.flight.incarnation stood)

  renewed : AreRenewed later c.flight values
  unfolding aftermath_in
  renewed =
      let s = state_of c in
      let count = count_is c.list ok.sound.legal in
      let old = all_weaker (IsSent c.list c.tickets) (λ (j : JobOf). j.flight.incarnation < s.count) c.flight
      (λ j sent. omega (arith, sent.old, count)) ok.sound.sent in
      let r = renewed_waits s (taken_for job octets) c.flight c.values ok.state later_state ok.apart
      (omega (arith, count, ok.sound.begun)) old ok.sound.sized ok.sound.waiting in
      subst (λ vs. AreRenewed later c.flight vs)
      (ap (λ a. values_after s c.values a later.fold.members) (sym is)) r

  seated : IsSeated later job.flight.zone job.flight.incarnation
  seated = place_there later job.flight.zone job.flight.incarnation
      (own_from (state_of c) job octets (catalog_at (state_of c) job.flight.zone) refl stood)

  taken_sound : IsSound (record (landed c job) {
    list = c.list ++ entry_for job octets ∷ [];
    values = slice_set values seated.place
        (succeeded (value_at values seated.place) job.flight.moment (refresh_in (held_at later job.flight.zone)));
  })
  taken_sound =
      let there = placed_at later job.flight.zone job.flight.incarnation seated.place seated seated.at in
      let next_one = follows c job octets ok.sound fly (job_valid c job ok.sound fly stood) none used approved in
      sound_taken c job octets values seated.place (succeeded (value_at values seated.place) job.flight.moment
      (refresh_in (held_at later job.flight.zone))) ok.state ok.apart ok.sound fly.there none next_one later_state
      (apart_step (state_of c) (taken_for job octets) ok.apart) renewed.sized renewed.waits seated.at there refl
      (renewed.waits seated.place (seat_of job) there).turn

  success_sound : IsSound (after_success c job octets aftermath)
  unfolding after_success
  success_sound = rw seated.at taken_sound

  well_success : IsWell (after_success c job octets aftermath)
  unfolding after_success
  well_success =
      let t = taken_for job octets in
      let back = sym (after_more c.list (entry_for job octets)) in
      record {
        sound = success_sound;
        state = subst IsState back later_state;
        apart = subst IsApart back (apart_step (state_of c) t ok.apart);
        placed = subst IsPlacedIn back (placed_step (state_of c) t ok.placed);
        own = subst AreOwn back (own_step (state_of c) t ok.own);
      }

-- ---- a job ends with octets
module _ (c : Core) (job : JobOf) (octets : Octets) (now : ℕ) (ok : IsWell c) (fly : IsFlying c job)
    (used : octets_used (transfer_for job) octets ≡ length octets) where
  told : (v : Verdict) → verdict_of c job octets ≡ v → Tells c job octets v
  told v e = subst (Tells c job octets) e (tells c job octets)

  taken_by : (v : Verdict) (aftermath : Aftermath) → Tells c job octets v → ended_of c job ≡ None → is_taken v ≡ true
      → aftermath ≡ aftermath_of (state_of c) job.flight.zone (outcome (transfer_for job) octets)
      → IsWell (after_success c job octets aftermath)
  taken_by v aftermath tell none takes is =
      let held = fly.held (among_stands c job ok.sound fly.there none) in
      well_success c job octets ok fly none used (tell.approved takes) aftermath
      (is ∙ sym (aftermath_is c job octets held))

  well_verdict : (v : Verdict) → Tells c job octets v → IsWell (after_verdict c job octets now v)
  well_verdict (Published position serial aftermath) tell = taken_by (Published position serial aftermath) aftermath
      tell (tell.standing (λ n h. cc)) refl (tell.published position serial aftermath refl)
  well_verdict (Confirmed position serial) tell = taken_by (Confirmed position serial) Member tell
      (tell.standing (λ n h. cc)) refl (tell.confirmed position serial refl)
  well_verdict (Refused fault) tell =
      well_refused c job now ok fly.there (is_old_serial fault) (tell.standing (λ n h. cc))
  well_verdict (PolicyRefused standing) tell = well_refusal c job now ok fly.there (tell.standing (λ n h. cc))
  well_verdict (Stale n) tell = well_landed c job now ok fly.there n (tell.ended n refl)
  well_verdict OutOfMemory tell = absurd (tell.memory refl)

  pub well_settled : IsWell (settled c job octets now)
  well_settled = subst IsWell (sym (settled_by c job octets used now (verdict_of c job octets) refl))
      (well_verdict (verdict_of c job octets) (tells c job octets))

-- ---- a NOTIFY comes
well_woken : (c : Core) (zone : Name) (o : Option ℕ) → IsWell c → place_at (state_of c) zone ≡ o
    → IsSound (record c { values = changed c.values o schedule.notified })
well_woken c zone None ok e = ok.sound
well_woken c zone (Some place) ok e =
    let v = value_at c.values place in
    sound_changed c place (schedule.notified v) ok.sound (rw ok.sound.sized (place_within (state_of c) zone place e))
    (same_busy v.timing v.timing.busy refl) refl

well_notify : (c : Core) (zone : Name) (h : Heard) → IsWell c → IsWell (after_notify c zone h)
well_notify c zone heard.Taken ok =
    well_same c (after_notify c zone heard.Taken) refl ok (well_woken c zone (place_at (state_of c) zone) ok refl)
well_notify c zone heard.Stranger ok = ok
well_notify c zone heard.NotOurs ok = ok

-- ---- all events
well_next : (c : Core) (event : Event) → IsWell c → CanHappen c event → IsWell (next c event)
well_next c (asked now true) ok can = well_due c now ok can
well_next c (asked now false) ok can = ok
well_next c (ended job octets now) ok can = well_settled c job octets now ok can.0 can.1.0
well_next c (starved job now) ok can = well_end c job now ok can.0.there (ended_of c job) refl
well_next c (failed job now) ok can = well_end c job now ok can.0.there (ended_of c job) refl
well_next c (notified peer zone) ok can = well_notify c zone (heard_of c peer zone) ok

well_events : (c : Core) (events : List Event) → IsWell c → CanHappenInTurn c events → IsWell (after_events c events)
unfolding CanHappenInTurn
well_events c [] ok can = ok
well_events c (event ∷ events) ok can = well_events (next c event) events (well_next c event ok can.0) can.1

pub stays_sound : CoreStaysSound
stays_sound config events allowed can =
    (well_events (opened_core config) events (well_opened config allowed) can).sound

pub stays_legal : ListStaysLegal
stays_legal config events allowed can = (stays_sound config events allowed can).legal
