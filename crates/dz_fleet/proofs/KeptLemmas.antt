-- What a fleet keeps, whatever happens.
use Rattle.std.proofs.Common.{◌≡◌, ℕ, ◌<◌, Bool, true, false, List, [], ◌∷◌, ◌++◌, map, length, refl, sym, ◌∙◌, ap}
use Rattle.std.proofs.Common.{subst, inl, inr, Some, None}
use Rattle.std.specs.Prelude.{Option, ◌==◌, ◌&&◌, not, is_some, filter, slice_get, slice_set, if◌then◌else◌}
use Rattle.std.specs.Option.{option_or}
use Rattle.std.proofs.lemmas.Bool.{cases_Bool}
use Rattle.dz_timer.specs.Values.{ValuesOf}
use Rattle.dz_history.specs.declared.entry.Entry.{Entry}
use Rattle.dz_history.specs.State.{State, IsState, stands}
use Rattle.dz_history.specs.After.{after, step}
use Rattle.dz_history.specs.Ended.{ended}
use Rattle.dz_history.specs.Legal.{CanFollow}
use Rattle.dz_history.specs.Places.{seats, place_at, IsApart, IsPlacedIn}
use Rattle.dz_history.proofs.ListLemmas.{after_more}
use Rattle.dz_history.proofs.EndedLemmas.{ended_more}
use Rattle.dz_job.specs.Job.{JobOf}
use Rattle.dz_fleet.specs.declared.flight.Flying.{Flying}
use Rattle.dz_fleet.specs.Values.{value_at}
use Rattle.dz_fleet.specs.Core.{Core, others, primaries_of, entry_for}
use Rattle.dz_fleet.specs.Sound.{seat_of, IsAmong, IsSent, IsSound}
use Rattle.dz_fleet.specs.inner.Flying.{job_in, IsMarked, marked}
use Rattle.dz_fleet.specs.inner.Kept.{core_in, IsKept}
use Rattle.dz_fleet.proofs.FlightLemmas.{all_filter, all_mapped, all_both, all_map, landed_jobs}
use Rattle.dz_fleet.proofs.WaitLemmas.{AreWaiting}
use Rattle.dz_fleet.proofs.SoundLemmas.{sound_landed, sound_end, sound_changed, sound_taken}

abbrev pub stay : ℕ → Flying → Bool
stay ticket f = not (f.flight.ticket == ticket)

-- the core with other jobs
sound_jobs : (list : List Entry) (tickets : ℕ) (jobs more : List JobOf) (values : List ValuesOf) → more ≡ jobs
    → IsSound (record { list = list; tickets = tickets; flight = jobs; values = values })
    → IsSound (record { list = list; tickets = tickets; flight = more; values = values })
sound_jobs list tickets jobs more values e ok = rw e ok

module _ (h : State) (list : List Entry) (tickets : ℕ) (fs : List Flying) (values : List ValuesOf)
    (k : IsKept h list tickets fs values) (job : JobOf) (among : IsAmong job.flight (map job_in fs)) where
  core : Core
  core = core_in list tickets fs values

  ok_state : IsState (after list)
  ok_state = subst IsState k.after k.state

  ok_apart : IsApart (after list)
  ok_apart = subst IsApart k.after k.apart

  pub kept_landed : (n : ℕ) → ended list job.flight.zone job.flight.incarnation ≡ Some n
      → IsKept h list tickets (filter (stay job.flight.ticket) fs) values
  kept_landed n e = record {
    after = k.after;
    state = k.state;
    sound = sound_jobs list tickets (others (map job_in fs) job) _ values (landed_jobs job.flight.ticket fs)
        (sound_landed (core_in list tickets fs values) job n ok_state ok_apart k.sound among e);
    apart = k.apart;
    placed = k.placed;
    marked = all_filter (IsMarked list) (stay job.flight.ticket) fs k.marked;
  }

  pub kept_end : (place : ℕ) (v : ValuesOf) → place_at h job.flight.zone ≡ Some place → slice_get (seats h) place
      ≡ Some (seat_of job) → v.timing.busy ≡ false → v.turn < primaries_of h job.flight.zone
      → IsKept h list tickets (filter (stay job.flight.ticket) fs) (slice_set values place v)
  kept_end place v at there idle turn = record {
    after = k.after;
    state = k.state;
    sound = sound_jobs list tickets (others (map job_in fs) job) _ (slice_set values place v)
        (landed_jobs job.flight.ticket fs)
        (sound_end (core_in list tickets fs values) job place v ok_state ok_apart k.sound among
        (subst (λ s. place_at s job.flight.zone ≡ Some place) k.after at)
        (subst (λ s. slice_get (seats s) place ≡ Some (seat_of job)) k.after there) idle
        (subst (λ s. v.turn < primaries_of s job.flight.zone) k.after turn));
    apart = k.apart;
    placed = k.placed;
    marked = all_filter (IsMarked list) (stay job.flight.ticket) fs k.marked;
  }

pub kept_changed : (h : State) (list : List Entry) (tickets : ℕ) (fs : List Flying) (values : List ValuesOf)
    (place : ℕ) (v : ValuesOf) → IsKept h list tickets fs values → place < length values
    → v.timing.busy ≡ (value_at values place).timing.busy → v.turn ≡ (value_at values place).turn
    → IsKept h list tickets fs (slice_set values place v)
kept_changed h list tickets fs values place v k lt busy turn = record {
  after = k.after;
  state = k.state;
  sound = sound_changed (core_in list tickets fs values) place v k.sound lt busy turn;
  apart = k.apart;
  placed = k.placed;
  marked = k.marked;
}

-- ---- marks
marked_job : (s : State) (position : ℕ) (f : Flying) → job_in (marked s position f) ≡ job_in f
marked_job s position f =
    elim (cases_Bool (not (is_some f.ended) && not (stands s f.flight.zone f.flight.incarnation))) [
      | inl t ↦ rw t refl
      | inr n ↦ rw n refl
    ]

pub marked_jobs : (s : State) (position : ℕ) (fs : List Flying)
    → map job_in (map (marked s position) fs) ≡ map job_in fs
marked_jobs s position [] = refl
marked_jobs s position (f ∷ fs) = rw (marked_job s position f, marked_jobs s position fs) refl

-- where nothing ended an incarnation before, it was current; the mark is made where it isn't current after the entry
fresh_mark : (s t : State) (f : Flying) (n : ℕ) (b : Bool) → stands s f.flight.zone f.flight.incarnation ≡ true
    → stands t f.flight.zone f.flight.incarnation ≡ b → f.ended ≡ None
    → (marked t n f).ended ≡ option_or None (if stands s f.flight.zone f.flight.incarnation
    && not (stands t f.flight.zone f.flight.incarnation) then Some n else None)
fresh_mark s t f n true st e none = rw (none, st, e) refl
fresh_mark s t f n false st e none = rw (none, st, e) refl

-- by what is known before
mark_by : (list : List Entry) (e : Entry) (t : State) (f : Flying) (o : Option ℕ) → f.ended ≡ o
    → t ≡ step (after list) e
    → (ended list f.flight.zone f.flight.incarnation ≡ None
    → stands (after list) f.flight.zone f.flight.incarnation ≡ true) → IsMarked list f
    → (marked t (after list).count f).ended ≡ ended (list ++ e ∷ []) f.flight.zone f.flight.incarnation
mark_by list e t f (Some n) known is stood mark =
    let before : ended list f.flight.zone f.flight.incarnation ≡ Some n = sym mark ∙ known in
    rw (ended_more list e f.flight.zone f.flight.incarnation, before, known) refl
mark_by list e t f None known is stood mark =
    let before : ended list f.flight.zone f.flight.incarnation ≡ None = sym mark ∙ known in
    let fresh = fresh_mark (after list) t f (after list).count (stands t f.flight.zone f.flight.incarnation)
    (stood before) refl known in
    rw (ended_more list e f.flight.zone f.flight.incarnation, before, ← is) fresh

marked_place : (t : State) (n : ℕ) (f : Flying) → (marked t n f).flight ≡ f.flight
marked_place t n f = elim (cases_Bool (not (is_some f.ended) && not (stands t f.flight.zone f.flight.incarnation))) [
  | inl y ↦ rw y refl
  | inr n' ↦ rw n' refl
]

pub mark_more : (list : List Entry) (e : Entry) (t : State) (f : Flying)
    → t ≡ step (after list) e → (ended list f.flight.zone f.flight.incarnation ≡ None
    → stands (after list) f.flight.zone f.flight.incarnation ≡ true)
    → IsMarked list f → IsMarked (list ++ e ∷ []) (marked t (after list).count f)
mark_more list e t f is stood mark =
    rw (marked_place t (after list).count f) (mark_by list e t f f.ended refl is stood mark)

-- ---- a transfer is taken
pub kept_taken : (h t : State) (list : List Entry) (tickets : ℕ) (fs : List Flying) (values others' : List ValuesOf)
    (job : JobOf) (octets : List ℕ) (place : ℕ) (v : ValuesOf)
    → IsKept h list tickets fs values → IsState t → IsApart t → IsPlacedIn t → t ≡ step h (entry_for job octets)
    → IsAmong job.flight (map job_in fs) → ended list job.flight.zone job.flight.incarnation ≡ None
    → CanFollow h (entry_for job octets) → length others' ≡ length (seats t) → AreWaiting t (map job_in fs) others'
    → place_at t job.flight.zone ≡ Some place → slice_get (seats t) place ≡ Some (seat_of job) → v.timing.busy ≡ false
    → v.turn < primaries_of t job.flight.zone
    → IsKept t (list ++ entry_for job octets ∷ []) tickets
    (map (marked t h.count) (filter (stay job.flight.ticket) fs)) (slice_set others' place v)
kept_taken h t list tickets fs values others' job octets place v k state' apart' placed' is among none follows sized
    waits at there idle turn =
    let e = entry_for job octets in
    let now : t ≡ step (after list) e = is ∙ ap (λ s. step s e) k.after in
    let count : h.count ≡ (after list).count = ap (λ (s : State). s.count) k.after in
    let jobs : map job_in (map (marked t h.count) (filter (stay job.flight.ticket) fs)) ≡ others (map job_in fs) job =
    marked_jobs t h.count (filter (stay job.flight.ticket) fs) ∙ landed_jobs job.flight.ticket fs in
    let sound = sound_taken (core_in list tickets fs values) job octets others' place v (subst IsState k.after k.state)
    (subst IsApart k.after k.apart) k.sound among none
    (subst (λ s. CanFollow s e) k.after follows) (subst IsState now state') (subst IsApart now apart')
    (subst (λ s. length others' ≡ length (seats s)) now sized)
    (subst (λ s. AreWaiting s (map job_in fs) others') now waits)
    (subst (λ s. place_at s job.flight.zone ≡ Some place) now at)
    (subst (λ s. slice_get (seats s) place ≡ Some (seat_of job)) now there) idle
    (subst (λ s. v.turn < primaries_of s job.flight.zone) now turn) in
    record {
      after = now ∙ sym (after_more list e);
      state = state';
      sound =
          sound_jobs (list ++ e ∷ []) tickets (others (map job_in fs) job) _ (slice_set others' place v) jobs sound;
      apart = apart';
      placed = placed';
      marked = rw count
          (all_map (marked t (after list).count) (IsMarked (list ++ e ∷ [])) (filter (stay job.flight.ticket) fs)
          (all_filter (λ f. IsMarked (list ++ e ∷ []) (marked t (after list).count f)) (stay job.flight.ticket) fs
          (all_both (λ f. IsSent list tickets (job_in f)) (IsMarked list)
          (λ f. IsMarked (list ++ e ∷ []) (marked t (after list).count f)) fs
          (λ f sent mark. mark_more list e t f now sent.standing mark)
          (all_mapped job_in (IsSent list tickets) fs k.sound.sent) k.marked)));
    }
