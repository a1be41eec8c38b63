-- A job that ends by which nothing is taken, and its zone.
use Rattle.std.proofs.Common.{◌≡◌, ℕ, ◌<◌, ◌≤◌, Bool, true, false, List, map, length, refl, sym, ◌∙◌, subst, arith}
use Rattle.std.proofs.Common.{Some, None}
use Rattle.std.specs.Prelude.{Option, slice_get, slice_set, filter, IsSome, if◌then◌else◌}
use Rattle.std.specs.Option.{option_map_or}
use Rattle.std.proofs.lemmas.Option.{get_or_from_slice_get}
use Rattle.dz_io.specs.declared.peer.Peer.{Peer}
use Rattle.dz_timer.specs.Values.{ValuesOf, fresh, failed, refused}
use Rattle.dz_history.specs.declared.entry.Entry.{Entry}
use Rattle.dz_history.specs.State.{State, IsState, held_at, primaries_at}
use Rattle.dz_history.specs.After.{after}
use Rattle.dz_history.specs.Ended.{ended}
use Rattle.dz_history.specs.Places.{IsSeated, seats, place_at}
use Rattle.dz_history.proofs.PlaceLemmas.{place_there}
use Rattle.dz_history.proofs.PrimaryLemmas.{primaries_some}
use Rattle.dz_job.specs.Job.{JobOf, retry_in}
use Rattle.dz_fleet.specs.declared.flight.Flying.{Flying}
use Rattle.dz_fleet.specs.Values.{value_at}
use Rattle.dz_fleet.specs.Core.{others, primaries_of, after_failure, after_refusal}
use Rattle.dz_fleet.specs.Sound.{seat_of, IsAmong}
use Rattle.dz_fleet.specs.inner.Flying.{job_in}
use Rattle.dz_fleet.specs.inner.Kept.{core_in, IsKept}
use Rattle.dz_fleet.proofs.FlightLemmas.{landed_jobs}
use Rattle.dz_fleet.proofs.SoundLemmas.{among_stands, among_busy, value_within}
use Rattle.dz_fleet.proofs.KeptLemmas.{stay, kept_end, kept_landed}

-- what a zone waits for then
abbrev pub waiting : ValuesOf → ℕ → Option ℕ → ℕ → Bool → ValuesOf
waiting b now retry primaries whole = if whole then refused b now retry primaries else failed b now retry primaries

pub ends_idle : (b : ValuesOf) (now : ℕ) (retry : Option ℕ) (primaries : ℕ) (whole : Bool)
    → (waiting b now retry primaries whole).timing.busy ≡ false
ends_idle b now None primaries true = refl
ends_idle b now None primaries false = refl
ends_idle b now (Some r) primaries true = refl
ends_idle b now (Some r) primaries false = refl

pub ends_turn : (b : ValuesOf) (now : ℕ) (retry : Option ℕ) (primaries : ℕ) (whole : Bool) → 1 ≤ primaries
    → (waiting b now retry primaries whole).turn < primaries
ends_turn b now retry primaries true h = omega arith
ends_turn b now retry primaries false h = omega arith

few_from : (o : Option (List Peer)) → ((ps : List Peer) → o ≡ Some ps → length ps ≤ 8)
    → option_map_or (λ ps. length ps) o 1 ≤ 8
few_from None h = omega arith
few_from (Some ps) h = h ps refl

pub few_primaries : (s : State) (zone : List (List ℕ)) → IsState s → primaries_of s zone ≤ 8
few_primaries s zone ok = few_from (primaries_at s zone) (λ ps e. (primaries_some s ok zone ps e).1)

-- the place of a zone is that of its incarnation
pub placed_at : (s : State) (zone : List (List ℕ)) (i place : ℕ) → IsSeated s zone i → place_at s zone ≡ Some place
    → slice_get (seats s) place ≡ Some record { zone = zone; incarnation = i }
placed_at s zone i place seated at =
    let both : Some seated.place ≡ Some place = sym seated.at ∙ at in
    let same : seated.place ≡ place = cc in
    rw (← same) seated.there

pub none_placed : {A : Type 0} (s : State) (zone : List (List ℕ)) (i : ℕ) → IsSeated s zone i
    → place_at s zone ≡ None → A
none_placed s zone i seated at = let both : Some seated.place ≡ None = sym seated.at ∙ at in absurd (cc)

module _ (h : State) (list : List Entry) (tickets : ℕ) (fs : List Flying) (values : List ValuesOf)
    (k : IsKept h list tickets fs values) (job : JobOf) (among : IsAmong job.flight (map job_in fs))
    (none : ended list job.flight.zone job.flight.incarnation ≡ None) where
  pub job_seated : IsSeated h job.flight.zone job.flight.incarnation
  job_seated = place_there h job.flight.zone job.flight.incarnation
      (rw k.after (among_stands (core_in list tickets fs values) job k.sound among none))

  pub place_fits : (place : ℕ) → place_at h job.flight.zone ≡ Some place → place < length values
  place_fits place at = value_within (core_in list tickets fs values) place
      (seat_of job) k.sound (subst (λ s. slice_get (seats s) place ≡ Some (seat_of job)) k.after
      (placed_at h job.flight.zone job.flight.incarnation place job_seated at))

  pub place_busy : (place : ℕ) (b : ValuesOf) → place_at h job.flight.zone ≡ Some place
      → slice_get values place ≡ Some b → b.timing.busy ≡ true
  place_busy place b at is =
      let there = subst (λ s. slice_get (seats s) place ≡ Some (seat_of job)) k.after
      (placed_at h job.flight.zone job.flight.incarnation place job_seated at) in
      let v : value_at values place ≡ b = get_or_from_slice_get values place b fresh is in
      rw v at (among_busy (core_in list tickets fs values) job place k.sound among there)

  pub kept_waiting : (place : ℕ) (b : ValuesOf) (now : ℕ) (retry : Option ℕ) (whole : Bool)
      → place_at h job.flight.zone ≡ Some place
      → 1 ≤ primaries_of h job.flight.zone
      → IsKept h list tickets (filter (stay job.flight.ticket) fs)
      (slice_set values place (waiting b now retry (primaries_of h job.flight.zone) whole))
  kept_waiting place b now retry whole at some =
      kept_end h list tickets fs values k job among place (waiting b now retry (primaries_of h job.flight.zone) whole)
      at (placed_at h job.flight.zone job.flight.incarnation place job_seated at)
      (ends_idle b now retry (primaries_of h job.flight.zone) whole)
      (ends_turn b now retry (primaries_of h job.flight.zone) whole some)

  waiting_by : (place : ℕ) (b : ValuesOf) (now : ℕ) (whole : Bool) → place_at (after list) job.flight.zone ≡ Some place
      → value_at values place ≡ b
      → record (core_in list tickets fs values) {
        flight = others (map job_in fs) job;
        values = slice_set values place
            (waiting b now (retry_in (held_at h job.flight.zone)) (primaries_of h job.flight.zone) whole);
      }
      ≡ (if whole then after_refusal (core_in list tickets fs values) job now
      else after_failure (core_in list tickets fs values) job now)
  waiting_by place b now true at v = rw (at, v, k.after) refl
  waiting_by place b now false at v = rw (at, v, k.after) refl

  pub waiting_core : (place : ℕ) (b : ValuesOf) (now : ℕ) (whole : Bool) → place_at h job.flight.zone ≡ Some place
      → slice_get values place ≡ Some b
      → core_in list tickets (filter (stay job.flight.ticket) fs) (slice_set values place
      (waiting b now (retry_in (held_at h job.flight.zone)) (primaries_of h job.flight.zone) whole))
      ≡ (if whole then after_refusal (core_in list tickets fs values) job now
      else after_failure (core_in list tickets fs values) job now)
  waiting_core place b now whole at is =
      let v : value_at values place ≡ b = get_or_from_slice_get values place b fresh is in
      rw (landed_jobs job.flight.ticket fs)
      (waiting_by place b now whole (subst (λ s. place_at s job.flight.zone ≡ Some place) k.after at) v)

stale_from : (h : State) (list : List Entry) (tickets : ℕ) (fs : List Flying) (values : List ValuesOf)
    → IsKept h list tickets fs values → (job : JobOf) → IsAmong job.flight (map job_in fs)
    → (o : Option ℕ) → ended list job.flight.zone job.flight.incarnation ≡ o → IsSome o
    → IsKept h list tickets (filter (stay job.flight.ticket) fs) values
stale_from h list tickets fs values k job among None e some = absurd (cc)
stale_from h list tickets fs values k job among (Some n) e some = kept_landed h list tickets fs values k job among n e

pub kept_stale : (h : State) (list : List Entry) (tickets : ℕ) (fs : List Flying) (values : List ValuesOf)
    → IsKept h list tickets fs values → (job : JobOf) → IsAmong job.flight (map job_in fs)
    → IsSome (ended list job.flight.zone job.flight.incarnation)
    → IsKept h list tickets (filter (stay job.flight.ticket) fs) values
kept_stale h list tickets fs values k job among some =
    stale_from h list tickets fs values k job among (ended list job.flight.zone job.flight.incarnation) refl some
