-- A job whose transfer is taken: what the fleet keeps then.
use Rattle.std.proofs.Common.{◌≡◌, ℕ, ◌<◌, true, List, [], ◌∷◌, ◌++◌, map, length, refl, sym, ◌∙◌, ap, subst, arith}
use Rattle.std.proofs.Common.{Some, None}
use Rattle.std.specs.Prelude.{Option, slice_get, slice_set, filter, IsSome, option_map}
use Rattle.std.proofs.lemmas.Option.{get_or_from_slice_get, slice_get_within}
use Rattle.dz_timer.specs.Values.{ValuesOf, fresh, succeeded}
use Rattle.dz_history.specs.declared.aftermath.Aftermath.{Aftermath}
use Rattle.dz_history.specs.declared.entry.Entry.{Entry}
use Rattle.dz_history.specs.State.{State, IsState, stands, held_at, catalog_at}
use Rattle.dz_history.specs.After.{after, step}
use Rattle.dz_history.specs.Ended.{ended}
use Rattle.dz_history.specs.Legal.{CanFollow}
use Rattle.dz_history.specs.Places.{IsSeated, seats, place_at, IsApart, IsPlacedIn}
use Rattle.dz_history.proofs.ListLemmas.{count_is}
use Rattle.dz_history.proofs.ApartLemmas.{apart_step}
use Rattle.dz_history.proofs.PrimaryLemmas.{placed_step}
use Rattle.dz_history.proofs.StandsLemmas.{stands_catalog}
use Rattle.dz_history.proofs.KeptLemmas.{fold_of_member, stands_by_fold}
use Rattle.dz_history.proofs.PlaceLemmas.{place_there, stands_zero}
use Rattle.dz_job.specs.Job.{JobOf, taken_for, refresh_in}
use Rattle.dz_fleet.specs.declared.flight.Flying.{Flying}
use Rattle.dz_fleet.specs.Values.{value_at, values_after}
use Rattle.dz_fleet.specs.Core.{entry_for, after_success}
use Rattle.dz_fleet.specs.declared.weighed.Renewal.{Renewal}
use Rattle.dz_fleet.specs.Weighing.{written, aftermath_in}
use Rattle.dz_fleet.specs.inner.Renewing.{renewed_by, written_by, IsMade}
use Rattle.dz_fleet.specs.Sound.{seat_of, IsAmong, IsSent}
use Rattle.dz_fleet.specs.inner.Flying.{job_in, marked}
use Rattle.dz_fleet.specs.inner.Kept.{core_in, IsKept}
use Rattle.dz_fleet.proofs.FlightLemmas.{all_weaker, any_itself, landed_jobs}
use Rattle.dz_fleet.proofs.RenewLemmas.{AreRenewed, renewed_waits}
use Rattle.dz_fleet.proofs.SoundLemmas.{among_stands}
use Rattle.dz_fleet.proofs.EndLemmas.{placed_at}
use Rattle.dz_fleet.proofs.KeptLemmas.{stay, kept_taken, marked_jobs}

-- the incarnation of a transfer is current after it
pub own_from : (s : State) (job : JobOf) (octets : List ℕ) (o : Option ℕ) → o ≡ catalog_at s job.flight.zone
    → stands s job.flight.zone job.flight.incarnation ≡ true
    → stands (step s (entry_for job octets)) job.flight.zone job.flight.incarnation ≡ true
own_from s job octets None e h = stands_by_fold (step s (entry_for job octets)) s job.flight.zone
    job.flight.incarnation (fold_of_member s (taken_for job octets) (sym e)) ∙ h
own_from s job octets (Some number) e h =
    let zero = stands_zero s job.flight.zone job.flight.incarnation number e h in
    subst (λ i. stands (step s (entry_for job octets)) job.flight.zone i ≡ true) zero
    (stands_catalog s (taken_for job octets) job.flight.zone number e).1

-- what was made whole, and what holds then
pub record AreTaken (t : State) (list : List Entry) (values values' : List ValuesOf) (job : JobOf) (octets : List ℕ)
    (aftermath : Aftermath) : Type 0 where
  pub now : t ≡ step (after list) (entry_for job octets)
  pub relisted : values'
      ≡ values_after (after list) values aftermath (step (after list) (entry_for job octets)).fold.members

pub are_taken : (t : State) (list : List Entry) (tickets : ℕ) (fs : List Flying) (values values' : List ValuesOf)
    (job : JobOf) (octets : List ℕ) (aftermath : Aftermath) (r : Renewal)
    → IsMade (core_in list tickets fs values) job octets aftermath r
    → Some t ≡ option_map (λ x. x.state) (renewed_by r) → values' ≡ written values (written_by r)
    → AreTaken t list values values' job octets aftermath
are_taken t list tickets fs values values' job octets aftermath r made f g =
    let s : Some t ≡ Some (step (after list) (entry_for job octets)) = rw made.renewed at f in
    record {
      now = (let x : t ≡ step (after list) (entry_for job octets) = cc in x);
      relisted = g ∙ made.values;
    }

module _ (h t : State) (list : List Entry) (tickets : ℕ) (fs : List Flying) (values values' : List ValuesOf)
    (k : IsKept h list tickets fs values) (job : JobOf) (octets : List ℕ)
    (among : IsAmong job.flight (map job_in fs)) (none : ended list job.flight.zone job.flight.incarnation ≡ None)
    (valid : IsState t)
    (are : AreTaken t list values values' job octets (aftermath_in (core_in list tickets fs values) job octets)) where
  stood : stands (after list) job.flight.zone job.flight.incarnation ≡ true
  stood = among_stands (core_in list tickets fs values) job k.sound among none

  pub taken_seated : IsSeated t job.flight.zone job.flight.incarnation
  taken_seated = place_there t job.flight.zone job.flight.incarnation
      (rw are.now (own_from (after list) job octets (catalog_at (after list) job.flight.zone) refl stood))

  renewed : AreRenewed t (map job_in fs) values'
  unfolding aftermath_in
  renewed =
      let old =
      all_weaker (IsSent list tickets) (λ (j : JobOf). j.flight.incarnation < (after list).count) (map job_in fs)
      (λ j sent. omega (arith, sent.old, count_is list k.sound.legal)) k.sound.sent in
      let r = renewed_waits (after list) (taken_for job octets) (map job_in fs) values (subst IsState k.after k.state)
      (subst IsState are.now valid) (subst IsApart k.after k.apart)
      (omega (arith, count_is list k.sound.legal, k.sound.begun)) old k.sound.sized k.sound.waiting in
      rw (are.now, are.relisted) r

  pub taken_there : (place : ℕ) → place_at t job.flight.zone ≡ Some place
      → slice_get (seats t) place ≡ Some (seat_of job)
  taken_there place at = placed_at t job.flight.zone job.flight.incarnation place taken_seated at

  pub taken_fits : (place : ℕ) → place_at t job.flight.zone ≡ Some place → place < length values'
  taken_fits place at = rw renewed.sized (slice_get_within (seats t) place (seat_of job) (taken_there place at))

  pub taken_busy : (place : ℕ) (b : ValuesOf) → place_at t job.flight.zone ≡ Some place
      → slice_get values' place ≡ Some b → b.timing.busy ≡ true
  taken_busy place b at is =
      let v : value_at values' place ≡ b = get_or_from_slice_get values' place b fresh is in
      rw v at ((renewed.waits place (seat_of job) (taken_there place at)).busy ∙ any_itself job (map job_in fs) among)

  pub taken_kept : (place : ℕ) (b : ValuesOf) (moment refresh : ℕ) → CanFollow (after list) (entry_for job octets)
      → place_at t job.flight.zone ≡ Some place → slice_get values' place ≡ Some b
      → IsKept t (list ++ entry_for job octets ∷ []) tickets (map (marked t h.count)
      (filter (stay job.flight.ticket) fs)) (slice_set values' place (succeeded b moment refresh))
  taken_kept place b moment refresh follows at is =
      let v : value_at values' place ≡ b = get_or_from_slice_get values' place b fresh is in
      let waits = renewed.waits place (seat_of job) (taken_there place at) in
      let apart : IsApart t =
      rw are.now (apart_step (after list) (taken_for job octets) (subst IsApart k.after k.apart)) in
      let placed : IsPlacedIn t =
      rw are.now (placed_step (after list) (taken_for job octets) (subst IsPlacedIn k.after k.placed)) in
      kept_taken h t list tickets fs values values' job octets place (succeeded b moment refresh) k valid apart placed
      (are.now ∙ ap (λ s. step s (entry_for job octets)) (sym k.after)) among none
      (subst (λ s. CanFollow s (entry_for job octets)) (sym k.after) follows) renewed.sized renewed.waits
      at (taken_there place at) refl (rw v at waits.turn)

  pub taken_core : (place : ℕ) (b : ValuesOf) → place_at t job.flight.zone ≡ Some place
      → slice_get values' place ≡ Some b
      → core_in (list ++ entry_for job octets ∷ []) tickets
      (map (marked t h.count) (filter (stay job.flight.ticket) fs))
      (slice_set values' place (succeeded b job.flight.moment (refresh_in (held_at t job.flight.zone))))
      ≡ after_success (core_in list tickets fs values) job octets
      (aftermath_in (core_in list tickets fs values) job octets)
  unfolding after_success
  taken_core place b at is =
      let v : value_at values' place ≡ b = get_or_from_slice_get values' place b fresh is in
      let jobs = marked_jobs t h.count (filter (stay job.flight.ticket) fs) ∙ landed_jobs job.flight.ticket fs in
      let all : values' ≡ values_after (after list) values
      (aftermath_in (core_in list tickets fs values) job octets) t.fold.members =
      are.relisted ∙ ap (λ (s : State). values_after (after list) values
      (aftermath_in (core_in list tickets fs values) job octets) s.fold.members) (sym are.now) in
      rw (jobs, ← are.now, ← all, at, v) refl

pub some_place : (t : State) (zone : List (List ℕ)) (i : ℕ) → IsSeated t zone i → IsSome (place_at t zone)
some_place t zone i seated = rw seated.at refl
