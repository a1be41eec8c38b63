-- A zone has its turn.
use Rattle.std.proofs.Common.{◌≡◌, ◌≢◌, ◌⊎◌, ℕ, ◌+◌, ◌-◌, ◌<◌, ◌≤◌, ◌^◌, Bool, true, false, List, [], ◌∷◌, ◌++◌}
use Rattle.std.proofs.Common.{length, get_or, refl, sym, ◌∙◌, ap, subst, arith, inl, inr, Option, Some, None}
use Rattle.std.specs.Prelude.{not, ◌&&◌, ◌%◌, is_some, slice_get, if◌then◌else◌}
use Rattle.std.specs.List.{AllByRecursion}
use Rattle.std.specs.Option.{option_map_or}
use Rattle.std.proofs.lemmas.Bool.{cases_Bool}
use Rattle.std.proofs.lemmas.Bool.Decides.{nat_tests}
use Rattle.std.proofs.lemmas.Option.{same_Some, slice_get-get_or}
use Rattle.dz_name.specs.Words.{Name, Octets}
use Rattle.dz_zone.specs.Version.{Zone}
use Rattle.dz_zonemd.specs.Standing.{standing}
use Rattle.dz_outward.specs.Laws.{transfer_of}
use Rattle.dz_outward.specs.Stream.{is_fit}
use Rattle.dz_take.specs.declared.ask.Ask.TheVariants.{Axfr}
use Rattle.dz_take.specs.Outcome.{outcome, octets_used}
use Rattle.dz_take.specs.Transfer.{Transfer, Decision, new}
use Rattle.dz_catalog.specs.Listing.{listing_of}
use Rattle.dz_member.specs.declared.listing.Node.{Node}
use Rattle.dz_member.specs.declared.listing.Broken.{Broken as Reason}
use Rattle.dz_settings.specs.declared.key.Key.{Key}
use Rattle.dz_member.specs.Fold.{number_of}
use Rattle.dz_timer.specs.Values.{ValuesOf, fresh}
use Rattle.dz_history.specs.declared.aftermath.Aftermath.{Aftermath}
use Rattle.dz_history.specs.declared.aftermath.Aftermath.TheVariants.{Member, Broken, Changes}
use Rattle.dz_history.specs.declared.entry.Entry.{Entry}
use Rattle.dz_history.specs.declared.entry.Entry.TheVariants.{Transfer as Transferred}
use Rattle.dz_history.specs.State.{State, IsState, catalog_at, held_at, key_at, policy_at, stands}
use Rattle.dz_history.specs.After.{after, step, decision_of, aftermath_of, listing_aftermath, catalog_aftermath}
use Rattle.dz_history.specs.Places.{Seat, seats, place_at, IsApart}
use Rattle.dz_history.specs.Signed.{tsig_in}
use Rattle.dz_history.proofs.ApartLemmas.{apart_step}
use Rattle.dz_history.proofs.KeptLemmas.{fold_of_member, own_stands, place_by_fold}
use Rattle.dz_history.proofs.LifeLemmas.{whole}
use Rattle.dz_history.proofs.ListLemmas.{after_more}
use Rattle.dz_history.proofs.PlaceLemmas.{place_seat, place_catalog, seats_size}
use Rattle.dz_history.proofs.StateLemmas.{aftermath_catalog, aftermath_member}
use Rattle.dz_history.proofs.StepLemmas.{config_step}
use Rattle.dz_job.specs.Job.{JobOf, transfer_for, taken_for}
use Rattle.dz_job.specs.declared.verdict.Verdict.TheVariants.{Published, PolicyRefused}
use Rattle.dz_fleet.specs.declared.due.Due.TheVariants as due
use Rattle.dz_fleet.specs.Values.{value_at}
use Rattle.dz_fleet.specs.Core.{Core, state_of, due_of, job_for, job_at, after_due, ended_of, failed_core, after_end}
use Rattle.dz_fleet.specs.Core.{after_failure, after_refusal, after_success, entry_for, used_of, tsig_of, verdict_of}
use Rattle.dz_fleet.specs.Core.{after_verdict, settled, is_accepted}
use Rattle.dz_fleet.specs.Sound.{IsAmong, IsFlying}
use Rattle.dz_fleet.proofs.EventLemmas.{IsWell, well_due, well_end, well_refusal, well_settled}
use Rattle.dz_fleet.proofs.GivenLemmas.{given_now}
use Rattle.dz_fleet.proofs.HandLemmas.{job_is}
use Rattle.dz_fleet.proofs.SettleLemmas.{settled_by}
use Rattle.dz_fleet.proofs.TakeLemmas.{verdict_new, verdict_policy, decision_is}
use Rattle.dz_fleet.proofs.WaitLemmas.{seat_stands}
use Rattle.dz_store.specs.Kept.{KeptZone, CanBeKept}
use Rattle.dz_restore.specs.Restoring.{home_at, is_home, may_return, moment_of, sent_with, ended_with, after_turn}
use Rattle.dz_restore.specs.Restoring.{restore_one}
use Rattle.dz_restore.specs.Laws.{AreKept}
use Rattle.dz_restore.specs.Turns.{IsTurn, IsRestoring, MayList}
use Rattle.dz_restore.proofs.CoreLemmas.{due_in_turn, fails_in_turn, refused_in_turn, succeeds_in_turn, fresh_there}
use Rattle.dz_restore.proofs.HoldLemmas.{to_hold, number_within, Holds, stays}
use Rattle.dz_restore.proofs.GrowLemmas.{grown}
use Rattle.dz_restore.proofs.UsedLemmas.{IsUsed, sent_used, sent_new}

-- ---- tests
and_fails : (a b f p : Bool) → (a && (b && f)) ≡ false → (a && (b && (f && p))) ≡ false
and_fails false b f p e = refl
and_fails true false f p e = refl
and_fails true true false p e = refl
and_fails true true true p e = absurd (cc)

and_holds : (a b f p : Bool) → (a && (b && f)) ≡ true → (a && (b && (f && p))) ≡ p
and_holds false b f p e = absurd (cc)
and_holds true false f p e = absurd (cc)
and_holds true true false p e = absurd (cc)
and_holds true true true p e = refl

keyless : (a : Bool) (key : Option Key) (f : Bool) → (a && (not (is_some key) && f)) ≡ true → key ≡ None
keyless false key f e = absurd (cc)
keyless true None f e = refl
keyless true (Some key) f e = absurd (cc)

fits : (a b f : Bool) → (a && (b && f)) ≡ true → f ≡ true
fits false b f e = absurd (cc)
fits true false f e = absurd (cc)
fits true true f e = e

moment_small : (tale : Option KeptZone) → ((k : KeptZone) → tale ≡ Some k → CanBeKept k) → moment_of tale < 2 ^ 40
moment_small None can = omega arith
moment_small (Some k) can = (can k refl).refreshed

-- how far a core is after the zone at a place had its turn
pub record Moved (c : Core) (keeps : Name → Option KeptZone) (count : ℕ) (d : Core) : Type 0 where
  pub well : IsWell d
  pub going : IsRestoring d (count + 1)
  pub tickets : d.tickets ≡ c.tickets + 1
  pub holds : Holds (state_of d) keeps (count + 1)
  pub config : (state_of d).fold.config ≡ (state_of c).fold.config
  pub fold : length (state_of c).fold.config ≤ count → (state_of d).fold ≡ (state_of c).fold

module _ (c : Core) (keeps : Name → Option KeptZone) (count : ℕ) (seat : Seat)
    (ok : IsWell c) (going : IsRestoring c count) (room : c.tickets + 1 < 2 ^ 64 - 2)
    (holds : Holds (state_of c) keeps count)
    (kept : AreKept keeps) (there : slice_get (seats (state_of c)) count ≡ Some seat) where
  abbrev s : State
  s = state_of c

  abbrev now : ℕ
  now = moment_of (keeps seat.zone)

  now_small : now < 2 ^ 40
  now_small = moment_small (keeps seat.zone) (λ k is. (kept seat.zone k is).1)

  within : count < length c.values
  within = rw ok.sound.sized (Rattle.std.proofs.lemmas.Option.slice_get_within (seats s) count seat there)

  its_place : place_at s seat.zone ≡ Some count
  its_place = (place_seat s ok.state ok.apart count seat there).0

  stood : stands s seat.zone seat.incarnation ≡ true
  stood = seat_stands s seat (place_seat s ok.state ok.apart count seat there).1

  none_held : held_at s seat.zone ≡ None
  none_held = holds.rest seat.zone count its_place (omega arith)

  -- ---- its job
  abbrev job : JobOf
  job = job_at c now count

  job_same : job ≡ job_for c now seat fresh
  job_same = job_is c now count seat there ∙ ap (job_for c now seat) (fresh_there c.values count going.turn within)

  zone_is : job.flight.zone ≡ seat.zone
  zone_is = ap (λ (j : JobOf). j.flight.zone) job_same

  held_is : job.held ≡ None
  held_is = ap (λ (j : JobOf). j.held) job_same ∙ none_held

  key_is : job.key ≡ key_at s job.flight.zone
  key_is = ap (λ (j : JobOf). j.key) job_same ∙ ap (λ z. key_at s z) (sym zone_is)

  id_small : job.flight.id < 2 ^ 16
  id_small = rw job_same (let less : (c.tickets + 1) % 2 ^ 16 < 2 ^ 16 = omega arith in less)

  ask_is : job.flight.ask ≡ Axfr
  ask_is = ap (λ (j : JobOf). j.flight.ask) job_same ∙ ap (λ h. Rattle.dz_fleet.specs.Core.ask_of h false) none_held

  job_place : place_at s job.flight.zone ≡ Some count
  job_place = ap (λ z. place_at s z) zone_is ∙ its_place

  not_ended : ended_of c job ≡ None
  not_ended = ap (λ (j : JobOf). ended_of c j) job_same ∙ whole c.list ok.sound.legal seat.zone seat.incarnation stood

  is_due : due_of c now ≡ due.Job job
  is_due = due_in_turn c count now going within

  -- ---- the core while it is in flight
  abbrev busy : Core
  busy = after_due c (due.Job job)

  busy_well : IsWell busy
  busy_well = subst (λ a. IsWell (after_due c a)) is_due (well_due c now ok now_small)

  among : IsAmong job.flight busy.flight
  unfolding IsAmong
  among = subst (λ jobs. IsAmong job.flight (jobs ++ job ∷ [])) (sym going.idle) (inl refl)

  held_there : job.held ≡ held_at s job.flight.zone
  held_there = held_is ∙ sym none_held ∙ ap (λ z. held_at s z) (sym zone_is)

  flies : IsFlying busy job
  flies = record {
    there = among;
    given = given_now c.list job (ap (λ (j : JobOf). j.flight.entries) job_same) held_there;
    held = λ up. held_there;
  }

  -- ---- it brings nothing
  module _ (d : Core) (well : IsWell d) (next_turn : IsRestoring d (count + 1)) (drawn : d.tickets ≡ c.tickets + 1)
      (same : d.list ≡ c.list) (none : to_hold s seat.zone (keeps seat.zone) ≡ None) where
    same_state : state_of d ≡ s
    same_state = ap (λ l. after l) same

    pub unmoved : Moved c keeps count d
    unmoved = record {
      well = well;
      going = next_turn;
      tickets = drawn;
      holds = subst (λ x. Holds x keeps (count + 1)) (sym same_state) (stays s keeps count seat there none holds);
      config = ap (λ (x : State). x.fold.config) same_state;
      fold = λ le. ap (λ (x : State). x.fold) same_state;
    }

  failed_is : failed_core busy job 0 ≡ after_failure busy job 0
  failed_is = ap (after_end busy job 0) not_ended

  failed_moved : to_hold s seat.zone (keeps seat.zone) ≡ None → Moved c keeps count (failed_core busy job 0)
  failed_moved none =
      unmoved (failed_core busy job 0) (well_end busy job 0 busy_well among (ended_of busy job) refl)
      (fails_in_turn c count now 0 going within job_place not_ended room)
      (ap (λ (x : Core). x.tickets) failed_is) (ap (λ (x : Core). x.list) failed_is) none

  -- ---- it brings the kept version
  module _ (k : KeptZone) (is : keeps seat.zone ≡ Some k) (may : may_return s job k ≡ true) where
    abbrev octets : Octets
    octets = sent_with job.flight.id k.version

    abbrev read : Octets
    read = used_of job octets

    may_parts : (option_map_or (is_home k) (home_at s job.flight.zone) false
        && (not (is_some job.key) && is_fit k.version)) ≡ true
    unfolding may_return
    may_parts = may

    can : CanBeKept k
    can = (kept seat.zone k is).1

    fit : is_fit k.version ≡ true
    fit = can.fit

    apex_is : k.version.apex ≡ job.flight.zone
    apex_is = can.apex ∙ (kept seat.zone k is).0 ∙ sym zone_is

    transfer_is : transfer_for job ≡ transfer_of job.flight.id k.version
    transfer_is = λ i. record { apex = sym apex_is i; ask = ask_is i; id = job.flight.id; held = held_is i }

    used : IsUsed (transfer_for job) octets (new k.version)
    used = subst (λ t. IsUsed t octets (new k.version)) (sym transfer_is) (sent_used job.flight.id k.version id_small
        (subst Rattle.dz_name.specs.Name.IsName (sym can.apex) can.zone) can.version fit)

    made : outcome (transfer_for job) octets ≡ new k.version
    made = ap (λ t. outcome t octets) transfer_is ∙ sent_new job.flight.id k.version id_small can.version fit

    no_key : key_at s job.flight.zone ≡ None
    no_key = sym key_is ∙ keyless _ job.key (is_fit k.version) may_parts

    unsigned : (o : Octets) → tsig_of busy job o ≡ None
    unfolding tsig_of
    unsigned o = ap (λ key. tsig_in key (transfer_for job) (used_of job o) job.flight.moment) no_key

    hold_is : to_hold s seat.zone (keeps seat.zone)
        ≡ (if is_accepted (policy_at s job.flight.zone) k.version then Some k.version else None)
    hold_is =
        let tests = and_holds _ _ (is_fit k.version) (is_accepted (policy_at s job.flight.zone) k.version) may_parts in
        ap (λ z. to_hold s z (keeps seat.zone)) (sym zone_is) ∙ ap (to_hold s job.flight.zone) is
        ∙ ap (λ key. if option_map_or (is_home k) (home_at s job.flight.zone) false
        && (not (is_some key) && (is_fit k.version && is_accepted (policy_at s job.flight.zone) k.version))
        then Some k.version else None) (sym key_is)
        ∙ ap (λ b. if b then Some k.version else None) tests

    -- ---- its policy refuses it
    refused_is : is_accepted (policy_at s job.flight.zone) k.version ≡ false
        → settled busy job octets k.refreshed ≡ after_refusal busy job k.refreshed
    refused_is f = ap (after_verdict busy job read k.refreshed)
        (verdict_policy busy job octets k.version (unsigned octets) made not_ended f)

    refused_moved : is_accepted (policy_at s job.flight.zone) k.version ≡ false
        → Moved c keeps count (settled busy job octets k.refreshed)
    refused_moved f =
        let e = refused_is f in
        subst (Moved c keeps count) (sym e)
        (unmoved (after_refusal busy job k.refreshed) (well_refusal busy job k.refreshed busy_well among not_ended)
        (refused_in_turn c count now k.refreshed going within job_place room)
        refl refl (hold_is ∙ ap (λ b. if b then Some k.version else None) f))

    -- ---- it is published
    module _ (accepted : is_accepted (policy_at s job.flight.zone) k.version ≡ true) where
      abbrev aftermath : Aftermath
      aftermath = aftermath_of s job.flight.zone (new k.version)

      abbrev next : State
      next = step s (entry_for job read)

      published_is : settled busy job octets k.refreshed ≡ after_success busy job read aftermath
      published_is = ap (after_verdict busy job read k.refreshed)
          (verdict_new busy job octets k.version (unsigned octets) made not_ended accepted)

      read_is : settled busy job read k.refreshed ≡ after_success busy job read aftermath
      read_is = settled_by busy job read used.all k.refreshed _
          (verdict_new busy job read k.version (unsigned read) used.outcome not_ended accepted)

      published_well : IsWell (after_success busy job read aftermath)
      published_well = subst IsWell read_is (well_settled busy job read k.refreshed busy_well flies used.all)

      place_next : (o : Option ℕ) → o ≡ catalog_at s job.flight.zone → place_at next job.flight.zone ≡ Some count
      place_next (Some number) e = own_stands s (taken_for job read) number (sym e) ∙ job_place
      place_next None e =
          place_by_fold next s job.flight.zone (fold_of_member s (taken_for job read) (sym e)) ∙ job_place

      next_apart : AllByRecursion (λ m. catalog_at s m.zone ≡ None) next.fold.members
      next_apart =
          subst (λ config. AllByRecursion (λ m. number_of config m.zone ≡ None) next.fold.members)
          (config_step s (taken_for job read)) (apart_step s (taken_for job read) ok.apart)

      may_changes : (number : ℕ) → Some number ≡ catalog_at s job.flight.zone → (listing : _)
          → MayList s busy.values next.fold.members count (listing_aftermath s job.flight.zone listing)
      may_changes number e (Rattle.std.specs.Prelude.Ok nodes) =
          let same : number ≡ count =
          same_Some number count (sym (place_catalog s job.flight.zone number e) ∙ job_place) in
          let less = number_within s job.flight.zone number e in
          (omega (arith, same, less), omega (arith, busy_well.sound.sized, seats_size s), next_apart)
      may_changes number e (Rattle.std.specs.Prelude.Err reason) = tt

      may_list : (o : Option ℕ) → o ≡ catalog_at s job.flight.zone
          → MayList s busy.values next.fold.members count aftermath
      may_list None e = subst (MayList s busy.values next.fold.members count)
          (sym (aftermath_member s job.flight.zone (new k.version) e)) tt
      may_list (Some number) e =
          subst (MayList s busy.values next.fold.members count)
          (sym (aftermath_catalog s job.flight.zone number (new k.version) e))
          (may_changes number e (listing_of k.version.apex k.version.records))

      published_turn : IsRestoring (after_success busy job read aftermath) (count + 1)
      published_turn = succeeds_in_turn c count now read aftermath going within
          (place_next (catalog_at s job.flight.zone) refl) (may_list (catalog_at s job.flight.zone) refl) room

      published_list : (after_success busy job read aftermath).list ≡ c.list ++ entry_for job read ∷ []
      unfolding after_success
      published_list = refl

      published_state : state_of (after_success busy job read aftermath) ≡ next
      published_state = ap (λ l. after l) published_list ∙ after_more c.list (entry_for job read)

      published_tickets : (after_success busy job read aftermath).tickets ≡ c.tickets + 1
      unfolding after_success
      published_tickets = refl

      decided : decision_of s (taken_for job read) ≡ new k.version
      decided = decision_is s job read (held_is ∙ sym none_held ∙ ap (λ z. held_at s z) (sym zone_is)) ∙ used.outcome

      moment_is : job.flight.moment ≡ k.refreshed
      moment_is = ap (λ (j : JobOf). j.flight.moment) job_same ∙ ap moment_of is

      published_holds : Holds next keeps (count + 1)
      published_holds =
          let kept_own : keeps job.flight.zone ≡ Some k = ap keeps zone_is ∙ is in
          let hold : to_hold s job.flight.zone (keeps job.flight.zone) ≡ Some k.version =
          subst (λ z. to_hold s z (keeps z) ≡ Some k.version) (sym zone_is)
          (hold_is ∙ ap (λ b. if b then Some k.version else None) accepted) in
          let longer = rw published_list at published_well.sound.legal in
          let state = subst IsState published_state published_well.state in
          grown c.list (taken_for job read) keeps count seat k ok.sound.legal longer ok.sound.begun ok.state ok.apart
          state there zone_is kept_own decided moment_is hold holds

      fold_stays : (o : Option ℕ) → o ≡ catalog_at s job.flight.zone → length s.fold.config ≤ count
          → next.fold ≡ s.fold
      fold_stays None e le = fold_of_member s (taken_for job read) (sym e)
      fold_stays (Some number) e le =
          let same : number ≡ count =
          same_Some number count (sym (place_catalog s job.flight.zone number e) ∙ job_place) in
          absurd (omega (arith, same, number_within s job.flight.zone number e, le))

      published_moved : Moved c keeps count (settled busy job octets k.refreshed)
      published_moved =
          subst (Moved c keeps count) (sym published_is)
          (record {
            well = published_well;
            going = published_turn;
            tickets = published_tickets;
            holds = subst (λ x. Holds x keeps (count + 1)) (sym published_state) published_holds;
            config = ap (λ (x : State). x.fold.config) published_state ∙ config_step s (taken_for job read);
            fold = λ le. ap (λ (x : State). x.fold) published_state
                ∙ fold_stays (catalog_at s job.flight.zone) refl le;
          })

    settled_moved : Moved c keeps count (settled busy job octets k.refreshed)
    settled_moved = elim (cases_Bool (is_accepted (policy_at s job.flight.zone) k.version))
        [ inl t ↦ published_moved t | inr f ↦ refused_moved f ]

  -- ---- whatever is kept of it
  may_not : (k : KeptZone) → keeps seat.zone ≡ Some k → may_return s job k ≡ false
      → to_hold s seat.zone (keeps seat.zone) ≡ None
  unfolding may_return
  may_not k is f =
      let tests = and_fails _ _ (is_fit k.version) (is_accepted (policy_at s job.flight.zone) k.version) f in
      ap (λ z. to_hold s z (keeps seat.zone)) (sym zone_is) ∙ ap (to_hold s job.flight.zone) is
      ∙ ap (λ key. if option_map_or (is_home k) (home_at s job.flight.zone) false
      && (not (is_some key) && (is_fit k.version && is_accepted (policy_at s job.flight.zone) k.version))
      then Some k.version else None) (sym key_is)
      ∙ ap (λ b. if b then Some k.version else None) tests

  moved_with : (tale : Option KeptZone) → keeps seat.zone ≡ tale → Moved c keeps count (ended_with busy job tale)
  moved_with None is = failed_moved (ap (to_hold s seat.zone) is)
  moved_with (Some k) is = elim (cases_Bool (may_return s job k)) [
    | inl t ↦ rw t (settled_moved k is t)
    | inr f ↦ rw f (failed_moved (may_not k is f))
  ]

  pub moved : Moved c keeps count (restore_one (keeps seat.zone) c)
  unfolding restore_one
  moved = subst (λ a. Moved c keeps count (after_turn c (keeps seat.zone) a)) (sym is_due)
      (moved_with (keeps seat.zone) refl)
