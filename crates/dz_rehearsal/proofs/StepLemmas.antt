-- The job of a member zone, from the moment at which it is due to its end: refused, or published.
use Rattle.std.proofs.Common.{◌≡◌, ℕ, zero, suc, ◌+◌, ◌^◌, ◌<◌, ◌≤◌, Bool, true, false, List, [], ◌∷◌, ◌++◌, length}
use Rattle.std.proofs.Common.{set, Option, Some, None, refl, sym, ap, subst, ◌∙◌, arith}
use Rattle.std.specs.Prelude.{◌%◌}
use Rattle.std.proofs.lemmas.List.{length-set, get_or-set_same, get_or-set_other}
use Rattle.dz_name.specs.Words.{Octets}
use Rattle.dz_zone.specs.Version.{Zone}
use Rattle.dz_zonemd.specs.Acceptance.{accepts}
use Rattle.dz_zonemd.specs.Standing.{standing}
use Rattle.dz_settings.specs.declared.config.Policy.{Policy}
use Rattle.dz_take.specs.Transfer.{Transfer, new}
use Rattle.dz_take.specs.Transfer as transfer
use Rattle.dz_take.specs.Outcome.{outcome, octets_used}
use Rattle.dz_take.specs.declared.outcome.TakeFault.TheVariants.{Incomplete}
use Rattle.dz_member.specs.declared.listing.Node.{Node}
use Rattle.dz_member.specs.Membership.{MemberOf}
use Rattle.dz_timer.specs.Values.{ValuesOf, fresh, departed, succeeded, refused}
use Rattle.dz_history.specs.declared.aftermath.Aftermath.TheVariants.{Member}
use Rattle.dz_history.specs.State.{State, held_at, policy_at, stands, catalog_at}
use Rattle.dz_history.specs.declared.entry.Taken.{Taken}
use Rattle.dz_history.specs.declared.entry.Entry.TheVariants.{Transfer as Transferred}
use Rattle.dz_history.specs.After.{after, step, counted, decision_of}
use Rattle.dz_history.specs.Ended.{ended}
use Rattle.dz_history.specs.Places.{place_at, member_seat}
use Rattle.dz_history.specs.Signed.{tsig_in}
use Rattle.dz_history.proofs.KeptLemmas.{fold_of_member, place_by_fold, stands_by_fold, held_keeps, member_new}
use Rattle.dz_history.proofs.LifeLemmas.{whole}
use Rattle.dz_history.proofs.ListLemmas.{after_more}
use Rattle.dz_history.proofs.StateLemmas.{aftermath_member}
use Rattle.dz_history.proofs.StepLemmas.{step_by}
use Rattle.dz_job.specs.Job.{JobOf, transfer_for, taken_for, refresh_in, retry_in}
use Rattle.dz_fleet.specs.declared.due.Due.TheVariants as due
use Rattle.dz_fleet.specs.Values.{value_at, changed}
use Rattle.dz_fleet.specs.Core.{Core, state_of, ask_of, first_place, due_of, job_for, job_at, after_due, ended_of}
use Rattle.dz_fleet.specs.Core.{others, primaries_of, tsig_of, used_of, settled, after_success, after_refusal}
use Rattle.dz_fleet.specs.Core.{entry_for, is_accepted}
use Rattle.dz_fleet.specs.Sound.{IsFlying}
use Rattle.dz_fleet.proofs.EventLemmas.{IsWell, well_due, well_settled}
use Rattle.dz_fleet.proofs.HandLemmas.{job_is, handed_flies}
use Rattle.dz_fleet.proofs.SettleLemmas.{settled_by}
use Rattle.dz_fleet.proofs.TakeLemmas.{verdict_new, verdict_refused, decision_is}
use Rattle.dz_gen.specs.Records.{zone}
use Rattle.dz_rehearsal.proofs.FirstLemmas.{first_is, due_at, no_others}
use Rattle.dz_rehearsal.specs.Life.{Makes}
use Rattle.dz_rehearsal.proofs.LifeLemmas.{Life, with, with_each}
use Rattle.dz_rehearsal.proofs.SeatLemmas.{no_key, one_primary, HasSeats, seats_of, seat_count, seat_there, place_is}
use Rattle.dz_rehearsal.proofs.SeatLemmas.{stood, apart_is, other_zone}

-- zone k is due first: no timer is due earlier, and those of the catalog and of the zones before it are due later
pub record IsNext (n : ℕ) (first : ValuesOf) (value : ℕ → ValuesOf) (k : ℕ) : Type 0 where
  pub catalog_idle : first.timing.busy ≡ false
  pub idle : (i : ℕ) → 0 < i → i ≤ n → (value i).timing.busy ≡ false
  pub catalog_later : (value k).timing.next < first.timing.next
  pub least : (i : ℕ) → 0 < i → i ≤ n → (value k).timing.next ≤ (value i).timing.next
  pub before : (i : ℕ) → 0 < i → i < k → (value k).timing.next < (value i).timing.next

-- the transfer that zone k's job asks for
abbrev pub transfer_at : ℕ → Option Zone → Bool → ℕ → Transfer
transfer_at k held whole id = record { apex = zone k; ask = ask_of held whole; id = id; held = held }

-- a member's entry leaves the catalogs' versions
versions_of_member : (s : State) (t : Taken) → None ≡ catalog_at s t.zone
    → (step s (Transferred t)).versions ≡ s.versions
unfolding counted
versions_of_member s t apart =
    step_by s t (λ x. x.versions ≡ s.versions) refl (λ _ _ _. refl) (λ number _ e _. no_number number e)
    (λ number _ _ e _ _. no_number number e)
  where
    no_number : {A : Type 0} (number : ℕ) → Some number ≡ catalog_at s t.zone → A
    no_number number e = absurd (let q : Some number ≡ None = e ∙ sym apart in cc)

-- the ID of a query is its ticket, while tickets have 16 bits
id_small : (ticket : ℕ) → ticket < 2 ^ 16 → ticket % 2 ^ 16 ≡ ticket
id_small ticket lt = omega arith

module _ (n : ℕ) (member : ℕ → MemberOf) (nodes : List Node) (own : Zone) (first : ValuesOf) (hold : ℕ → Option Zone)
    (value : ℕ → ValuesOf) (tickets : ℕ) (c : Core)
    (life : Life n member nodes own first hold value tickets c) (named : (i : ℕ) → (member i).zone ≡ zone i)
    (k : ℕ) (some : 0 < k) (few : k ≤ n) (room : tickets + 1 < 2 ^ 16) (moment : ℕ) (soon : moment < 2 ^ 40)
    (next : IsNext n first value k) (late : (value k).timing.next ≤ moment) where
  abbrev s : State
  s = state_of c

  has : HasSeats n member s
  has = seats_of n member nodes own first hold value tickets c life named

  count : length c.values ≡ n + 1
  count = life.well.sound.sized ∙ seat_count n member s has

  within : k < length c.values
  within = omega (arith, count)

  -- ---- it is due
  own_value : value_at c.values k ≡ value k
  own_value = life.values k some few

  next_is : (value_at c.values k).timing.next ≡ (value k).timing.next
  next_is = ap (λ (v : ValuesOf). v.timing.next) own_value

  idle_at : (i : ℕ) → i < length c.values → (value_at c.values i).timing.busy ≡ false
  idle_at zero lt = ap (λ (v : ValuesOf). v.timing.busy) life.catalog ∙ next.catalog_idle
  idle_at (suc j) lt =
      ap (λ (v : ValuesOf). v.timing.busy) (life.values (suc j) (omega arith) (omega (arith, lt, count)))
      ∙ next.idle (suc j) (omega arith) (omega (arith, lt, count))

  least_at : (i : ℕ) → i < length c.values → (value_at c.values k).timing.next ≤ (value_at c.values i).timing.next
  least_at zero lt = omega (arith, next_is, ap (λ (v : ValuesOf). v.timing.next) life.catalog, next.catalog_later)
  least_at (suc j) lt =
      omega (
        arith,
        next_is,
        ap (λ (v : ValuesOf). v.timing.next) (life.values (suc j) (omega arith) (omega (arith, lt, count))),
        next.least (suc j) (omega arith) (omega (arith, lt, count)),
      )

  before_at : (i : ℕ) → i < k → (value_at c.values k).timing.next < (value_at c.values i).timing.next
  before_at zero lt = omega (arith, next_is, ap (λ (v : ValuesOf). v.timing.next) life.catalog, next.catalog_later)
  before_at (suc j) lt =
      omega (
        arith,
        next_is,
        ap (λ (v : ValuesOf). v.timing.next) (life.values (suc j) (omega arith) (omega (arith, lt, few))),
        next.before (suc j) (omega arith) lt,
      )

  its_turn : first_place c ≡ Some k
  its_turn = first_is c.values k within idle_at least_at before_at

  -- ---- its job
  abbrev job : JobOf
  job = job_at c moment k

  is_due : due_of c moment ≡ due.Job job
  is_due = due_at c k moment life.idle (omega (arith, life.drawn, room)) its_turn (omega (arith, next_is, late))

  job_same : job ≡ job_for c moment (member_seat (member k)) (value k)
  job_same =
      job_is c moment k (member_seat (member k))
      (seat_there n member s has k some few)
      ∙ ap (job_for c moment (member_seat (member k))) own_value

  zone_is : job.flight.zone ≡ zone k
  zone_is = ap (λ (j : JobOf). j.flight.zone) job_same ∙ named k

  held_is : job.held ≡ hold k
  held_is = ap (λ (j : JobOf). j.held) job_same ∙ ap (held_at s) (named k) ∙ life.held k some few

  ask_is : job.flight.ask ≡ ask_of (hold k) (value k).whole
  ask_is = ap (λ (j : JobOf). j.flight.ask) job_same
      ∙ ap (λ h. ask_of h (value k).whole) (ap (held_at s) (named k) ∙ life.held k some few)

  id_is : job.flight.id ≡ tickets + 1
  id_is = ap (λ (j : JobOf). j.flight.id) job_same ∙ ap (λ t. (t + 1) % 2 ^ 16) life.drawn
      ∙ id_small (tickets + 1) room

  ticket_is : job.flight.ticket ≡ tickets + 1
  ticket_is = ap (λ (j : JobOf). j.flight.ticket) job_same ∙ ap (λ t. t + 1) life.drawn

  moment_is : job.flight.moment ≡ moment
  moment_is = ap (λ (j : JobOf). j.flight.moment) job_same

  transfer_is : transfer_for job ≡ transfer_at k (hold k) (value k).whole (tickets + 1)
  transfer_is = λ i. record { apex = zone_is i; ask = ask_is i; id = id_is i; held = held_is i }

  job_place : place_at s job.flight.zone ≡ Some k
  job_place = ap (place_at s) zone_is ∙ place_is n member s has k some few

  job_apart : None ≡ catalog_at s job.flight.zone
  job_apart = apart_is n member s has k some few
      ∙ ap (catalog_at s) (sym zone_is)

  not_ended : ended_of c job ≡ None
  not_ended =
      ap (λ (j : JobOf). ended_of c j) job_same
      ∙ ap (λ z. ended c.list z (member k).incarnation) (named k)
      ∙ whole c.list life.well.sound.legal (zone k) (member k).incarnation
      (stood n member s has k some few)

  -- ---- the core while it is in flight
  abbrev busy : Core
  busy = after_due c (due.Job job)

  busy_well : IsWell busy
  busy_well = subst (λ a. IsWell (after_due c a)) is_due (well_due c moment life.well soon)

  flies : IsFlying busy job
  flies = handed_flies busy c.flight job busy_well.sound refl

  busy_values : busy.values ≡ set c.values k (departed (value_at c.values k))
  busy_values = ap (λ o. changed c.values o departed) its_turn

  busy_count : length busy.values ≡ n + 1
  busy_count = ap (λ l. length l) busy_values ∙ length-set c.values k (departed (value_at c.values k)) ∙ count

  busy_own : value_at busy.values k ≡ departed (value k)
  busy_own =
      ap (λ l. value_at l k) busy_values ∙ get_or-set_same c.values k (departed (value_at c.values k)) fresh within
      ∙ ap departed own_value

  busy_other : (i : ℕ) → (i ≡ k → ⊥) → value_at busy.values i ≡ value_at c.values i
  busy_other i other = ap (λ l. value_at l i) busy_values
      ∙ get_or-set_other c.values k i (departed (value_at c.values k)) fresh other

  landed_flight : others (c.flight ++ job ∷ []) job ≡ []
  landed_flight = no_others c.flight job life.idle

  unsigned : (octets : Octets) → tsig_of busy job octets ≡ None
  unfolding tsig_of
  unsigned octets =
      ap (λ key. tsig_in key (transfer_for job) (used_of job octets) job.flight.moment)
      (no_key s job.flight.zone has.config_is)

  -- ---- when it has landed
  module _ (d : Core) (w : ValuesOf) (versions : ℕ → Option Zone) (well : IsWell d) (flight : d.flight ≡ [])
      (drawn : d.tickets ≡ c.tickets + 1)
      (values : d.values ≡ set busy.values k w) (fold : (state_of d).fold ≡ s.fold)
      (version : (state_of d).versions ≡ s.versions)
      (held : (i : ℕ) → 0 < i → i ≤ n → held_at (state_of d) (zone i) ≡ versions i) where
    landed_own : value_at d.values k ≡ w
    landed_own = ap (λ l. value_at l k) values ∙ get_or-set_same busy.values k w fresh (omega (arith, busy_count))

    landed_other : (i : ℕ) → (i ≡ k → ⊥) → value_at d.values i ≡ value_at c.values i
    landed_other i other = ap (λ l. value_at l i) values ∙ get_or-set_other busy.values k i w fresh other
        ∙ busy_other i other

    landed_life : Life n member nodes own first versions (with value k w) (tickets + 1) d
    landed_life = record {
      well = well;
      idle = flight;
      drawn = drawn ∙ ap (λ t. t + 1) life.drawn;
      fold = fold ∙ life.fold;
      version = version ∙ life.version;
      held = held;
      catalog = landed_other 0 (λ e. omega arith) ∙ life.catalog;
      values = λ i above below. with_each value k w (value_at d.values) i (λ e. ap (value_at d.values) e ∙ landed_own)
          (λ ne. landed_other i ne ∙ life.values i above below);
    }

  -- ---- it is refused
  module _ (octets : Octets) (comes : outcome
      (transfer_at k (hold k) (value k).whole (tickets + 1)) octets ≡ transfer.refused Incomplete)
      (none : hold k ≡ None)
      (used : octets_used (transfer_at k (hold k) (value k).whole (tickets + 1)) octets ≡ length octets) where
    refused_used : octets_used (transfer_for job) octets ≡ length octets
    refused_used = ap (λ t. octets_used t octets) transfer_is ∙ used

    abbrev refused_core : Core
    refused_core = settled busy job octets moment

    refused_is : refused_core ≡ after_refusal busy job moment
    refused_is = settled_by busy job octets refused_used moment _
        (verdict_refused busy job octets Incomplete (ap (λ t. outcome t octets) transfer_is ∙ comes) not_ended)

    refused_values : (after_refusal busy job moment).values ≡ set busy.values k
        (refused (departed (value k)) moment None 1)
    refused_values =
        ap (λ o. changed busy.values o (λ v. refused v moment (retry_in (held_at s job.flight.zone))
        (primaries_of s job.flight.zone))) job_place
        ∙ ap (λ v. set busy.values k (refused v moment (retry_in (held_at s job.flight.zone))
        (primaries_of s job.flight.zone))) busy_own
        ∙ ap (λ h. set busy.values k (refused (departed (value k)) moment (retry_in h)
        (primaries_of s job.flight.zone))) (ap (held_at s) zone_is ∙ life.held k some few ∙ none)
        ∙ ap (λ p. set busy.values k (refused (departed (value k)) moment None p))
        (one_primary s job.flight.zone has.config_is job_apart)

    refused_life : Life n member nodes own first hold (with value k (refused (departed (value k)) moment None 1))
        (tickets + 1) refused_core
    refused_life =
        landed_life refused_core (refused (departed (value k)) moment None 1) hold
        (well_settled busy job octets moment busy_well flies refused_used)
        (ap (λ (x : Core). x.flight) refused_is ∙ landed_flight)
        (ap (λ (x : Core). x.tickets) refused_is)
        (ap (λ (x : Core). x.values) refused_is ∙ refused_values)
        (ap (λ (x : Core). (state_of x).fold) refused_is)
        (ap (λ (x : Core). (state_of x).versions) refused_is)
        (λ i above below. ap (λ (x : Core). held_at (state_of x) (zone i)) refused_is ∙ life.held i above below)

    -- its transfer broke off: the whole zone is asked for a minute later
    pub step_refused : (d : Core) × (Makes c moment (tickets + 1) octets d
        × Life n member nodes own first hold (with value k (refused (departed (value k)) moment None 1))
        (tickets + 1) d)
    step_refused = (
      refused_core,
      (
        record { job = job; is_due = is_due; numbered = ticket_is; idle = life.idle; settles = refl },
        refused_life,
      ),
    )

  -- ---- it is published
  module _ (octets : Octets) (version : Zone) (policy : Policy)
      (comes : outcome (transfer_at k (hold k) (value k).whole (tickets + 1)) octets ≡ new version)
      (approving : policy_at (state_of c) (zone k) ≡ Some policy)
      (accepted : accepts policy (standing version.apex version.records) ≡ true)
      (used : octets_used (transfer_at k (hold k) (value k).whole (tickets + 1)) octets ≡ length octets)
      (refreshes : refresh_in (Some version) ≡ 100) where
    new_used : octets_used (transfer_for job) octets ≡ length octets
    new_used = ap (λ t. octets_used t octets) transfer_is ∙ used

    new_comes : outcome (transfer_for job) octets ≡ new version
    new_comes = ap (λ t. outcome t octets) transfer_is ∙ comes

    abbrev new_core : Core
    new_core = settled busy job octets moment

    abbrev t : State
    t = step s (entry_for job octets)

    policy_is : policy_at s job.flight.zone ≡ Some policy
    policy_is = ap (policy_at s) zone_is ∙ approving

    is_taken : is_accepted (policy_at s job.flight.zone) version ≡ true
    is_taken = ap (λ p. is_accepted p version) policy_is ∙ accepted

    new_is : new_core ≡ after_success busy job octets Member
    new_is =
        settled_by busy job octets new_used moment _
        (verdict_new busy job octets version (unsigned octets) new_comes not_ended is_taken)
        ∙ ap (after_success busy job octets) (aftermath_member s job.flight.zone (new version) job_apart)

    decided : decision_of s (taken_for job octets) ≡ new version
    decided = decision_is s job octets (held_is ∙ sym (life.held k some few) ∙ ap (held_at s) (sym zone_is))
        ∙ new_comes

    success_list : (after_success busy job octets Member).list ≡ c.list ++ entry_for job octets ∷ []
    unfolding after_success
    success_list = refl

    success_flight : (after_success busy job octets Member).flight ≡ others (c.flight ++ job ∷ []) job
    unfolding after_success
    success_flight = refl

    success_tickets : (after_success busy job octets Member).tickets ≡ c.tickets + 1
    unfolding after_success
    success_tickets = refl

    success_values : (after_success busy job octets Member).values ≡ changed busy.values (place_at t job.flight.zone)
        (λ v. succeeded v job.flight.moment (refresh_in (held_at t job.flight.zone)))
    unfolding after_success
    success_values = refl

    state_is : state_of new_core ≡ t
    state_is = ap (λ (x : Core). after x.list) new_is ∙ ap after success_list
        ∙ after_more c.list (entry_for job octets)

    fold_is : t.fold ≡ s.fold
    fold_is = fold_of_member s (taken_for job octets) (sym job_apart)

    held_own : held_at t (zone k) ≡ Some version
    held_own = subst (λ z. held_at t z ≡ Some version) zone_is
        (member_new s (taken_for job octets) version job_apart decided)

    still_stands : (i : ℕ) → 0 < i → i ≤ n → stands t (zone i) (member i).incarnation ≡ true
    still_stands i above below = stands_by_fold t s (zone i) (member i).incarnation fold_is
        ∙ stood n member s has i above below

    held_other : (i : ℕ) → 0 < i → i ≤ n → (i ≡ k → ⊥) → held_at t (zone i) ≡ hold i
    held_other i above below other =
        held_keeps s (taken_for job octets) (zone i) (member i).incarnation life.well.state
        (stood n member s has i above below) (still_stands i above below)
        (λ same. other_zone n member s has i k above below some few other
        (same ∙ zone_is))
        ∙ life.held i above below

    new_values : new_core.values ≡ set busy.values k (succeeded (departed (value k)) moment 100)
    new_values =
        ap (λ (x : Core). x.values) new_is ∙ success_values
        ∙ ap (λ o. changed busy.values o (λ v. succeeded v job.flight.moment
        (refresh_in (held_at t job.flight.zone)))) (place_by_fold t s job.flight.zone fold_is ∙ job_place)
        ∙ ap (λ v. set busy.values k (succeeded v job.flight.moment (refresh_in (held_at t job.flight.zone)))) busy_own
        ∙ ap (λ m. set busy.values k (succeeded (departed (value k)) m
        (refresh_in (held_at t job.flight.zone)))) moment_is
        ∙ ap (λ r. set busy.values k (succeeded (departed (value k)) moment r))
        (ap (λ z. refresh_in (held_at t z)) zone_is ∙ ap refresh_in held_own ∙ refreshes)

    new_life : Life n member nodes own first (with hold k (Some version))
        (with value k (succeeded (departed (value k)) moment 100)) (tickets + 1) new_core
    new_life =
        landed_life new_core (succeeded (departed (value k)) moment 100) (with hold k (Some version))
        (well_settled busy job octets moment busy_well flies new_used)
        (ap (λ (x : Core). x.flight) new_is ∙ success_flight ∙ landed_flight)
        (ap (λ (x : Core). x.tickets) new_is ∙ success_tickets)
        new_values
        (ap (λ (x : State). x.fold) state_is ∙ fold_is)
        (ap (λ (x : State). x.versions) state_is ∙ versions_of_member s (taken_for job octets) job_apart)
        (λ i above below. ap (λ (x : State). held_at x (zone i)) state_is
        ∙ with_each hold k (Some version) (λ j. held_at t (zone j)) i (λ e. ap (λ j. held_at t (zone j)) e ∙ held_own)
        (held_other i above below))

    -- its new version is taken: it waits for its refresh
    pub step_new : (d : Core) × (Makes c moment (tickets + 1) octets d
        × Life n member nodes own first (with hold k (Some version))
        (with value k (succeeded (departed (value k)) moment 100)) (tickets + 1) d)
    step_new = (
      new_core,
      (
        record { job = job; is_due = is_due; numbered = ticket_is; idle = life.idle; settles = refl },
        new_life,
      ),
    )
