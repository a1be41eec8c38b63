-- The catalog's job, from a core in which no job is in flight and the catalog is due first to its publication.
use Rattle.std.proofs.Common.{◌≡◌, ◌≢◌, ℕ, suc, ◌+◌, ◌^◌, ◌<◌, ◌≤◌, true, false, cond, set, take, drop, List, [], ◌∷◌}
use Rattle.std.proofs.Common.{◌++◌, map, length, get_or, refl, sym, ◌∙◌, ap, subst, arith, inl, Option, Some, None, Ok}
use Rattle.std.specs.Prelude.{◌%◌, ◌==◌, slice_index_or, slice_get}
use Rattle.std.proofs.lemmas.Bool.{eq-eqb}
use Rattle.std.proofs.lemmas.List.{get_or-map}
use Rattle.std.proofs.lemmas.Option.{slice_get_within, get_or_from_slice_get}
use Rattle.dz_name.specs.Order.{same_decides}
use Rattle.dz_name.specs.Words.{Name, Octets}
use Rattle.dz_zone.specs.Version.{Zone}
use Rattle.dz_zonemd.specs.Standing.{standing}
use Rattle.dz_zonemd.specs.Acceptance.{accepts}
use Rattle.dz_settings.specs.declared.config.CatalogSettings.{CatalogSettings}
use Rattle.dz_settings.specs.declared.config.Policy.TheVariants.{Present}
use Rattle.dz_take.specs.Outcome.{outcome, octets_used}
use Rattle.dz_take.specs.Transfer.{Transfer, new}
use Rattle.dz_catalog.specs.Listing.{listing_of}
use Rattle.dz_member.specs.declared.listing.Node.{Node}
use Rattle.dz_member.specs.Membership.{MemberOf}
use Rattle.dz_member.specs.Fold.{FoldOf, number_of}
use Rattle.dz_member.specs.Process.{process, changes}
use Rattle.dz_timer.specs.Values.{ValuesOf, fresh, departed, succeeded, turned_back}
use Rattle.dz_history.specs.declared.aftermath.Aftermath.{Aftermath}
use Rattle.dz_history.specs.declared.aftermath.Aftermath.TheVariants.{Changes}
use Rattle.dz_history.specs.State.{State, catalog_at, member_at, held_at, policy_at, stands}
use Rattle.dz_history.specs.After.{after, step, decision_of, aftermath_of, counted, relisted, with_version, taken}
use Rattle.dz_history.specs.After.{listing_aftermath}
use Rattle.dz_history.specs.Signed.{tsig_in}
use Rattle.dz_history.specs.Places.{Seat, seats, place_at, catalog_seat, member_seat}
use Rattle.dz_history.specs.declared.entry.Entry.{Entry}
use Rattle.dz_history.proofs.KeptLemmas.{held_keeps}
use Rattle.dz_history.proofs.LifeLemmas.{whole}
use Rattle.dz_history.proofs.ListLemmas.{after_more, count_is}
use Rattle.dz_history.proofs.PlaceLemmas.{place_seat, place_catalog, seats_size}
use Rattle.dz_history.proofs.StandsLemmas.{catalog_step}
use Rattle.dz_history.proofs.StateLemmas.{taken_catalog, listed_ok, held_catalog, aftermath_catalog, policy_catalog}
use Rattle.dz_job.specs.Job.{JobOf, transfer_for, taken_for, refresh_in}
use Rattle.dz_fleet.specs.declared.due.Due.TheVariants as due
use Rattle.dz_fleet.specs.Values.{value_at, value_in, changed, values_after, relisted_values, carried, carried_from}
use Rattle.dz_fleet.specs.Values.{kept, same_primaries}
use Rattle.dz_fleet.specs.Core.{Core, state_of, first_place, ask_of, due_of, job_for, after_due, ended_of, settled}
use Rattle.dz_fleet.specs.Core.{after_success, tsig_of, is_accepted, used_of, entry_for, succeeded_in}
use Rattle.dz_fleet.specs.Sound.{IsAmong, IsFlying}
use Rattle.dz_fleet.proofs.EventLemmas.{IsWell, well_due, well_settled}
use Rattle.dz_fleet.proofs.GivenLemmas.{given_now}
use Rattle.dz_fleet.proofs.HandLemmas.{job_is}
use Rattle.dz_fleet.proofs.SettleLemmas.{settled_by}
use Rattle.dz_fleet.proofs.TakeLemmas.{verdict_new, decision_is}
use Rattle.dz_fleet.proofs.WaitLemmas.{seat_stands}
use Rattle.dz_gen.specs.Reading.{cat_test}
use Rattle.dz_rehearsal.specs.Life.{config, Makes}
use Rattle.dz_rehearsal.proofs.FirstLemmas.{due_at, no_others}
use Rattle.dz_rehearsal.proofs.MembersLemmas.{same_choice}
use Rattle.dz_rehearsal.proofs.SeatLemmas.{no_key}

-- the catalog's seat
abbrev cat_seat : Seat
cat_seat = record { zone = cat_test; incarnation = 0 }

-- a configuration that is ours has the catalog at place 0
cat_there : (fold : FoldOf) → fold.config ≡ config
    → slice_get (map catalog_seat fold.config ++ map member_seat fold.members) 0 ≡ Some cat_seat
cat_there fold is = ap (λ c. slice_get (map catalog_seat c ++ map member_seat fold.members) 0) is

cat_number : number_of config cat_test ≡ Some 0
cat_number = refl

-- ---- lists
set_front : (vs : List ValuesOf) (w : ValuesOf) → 0 < length vs → set vs 0 w ≡ w ∷ drop 1 vs
set_front [] w some = absurd (omega (arith, some))
set_front (v ∷ vs) w some = refl

behind_front : (vs : List ValuesOf) (k : ℕ) → get_or (drop 1 vs) k fresh ≡ get_or vs (suc k) fresh
behind_front [] k = refl
behind_front (v ∷ vs) k = refl

same_itself : (m : MemberOf) → same_primaries m m ≡ true
same_itself m = rw ((same_decides m.catalog m.catalog).1 refl) (same_choice m.choice)

-- the transfer that the catalog's job asks for
abbrev pub asked : Core → Transfer
asked c = record {
  apex = cat_test;
  ask = ask_of (held_at (state_of c) cat_test) (value_at c.values 0).whole;
  id = (c.tickets + 1) % 2 ^ 16;
  held = held_at (state_of c) cat_test;
}

-- no job is in flight, the catalog is first, and these octets bring a version
pub record HasTurn (c : Core) (now : ℕ) (octets : Octets) (version : Zone) : Type 0 where
  pub well : IsWell c
  pub idle : c.flight ≡ []
  pub ours : (state_of c).fold.config ≡ config
  pub room : c.tickets + 1 < 2 ^ 16
  pub first : first_place c ≡ Some 0
  pub time : (value_at c.values 0).timing.next ≤ now
  pub moment : now < 2 ^ 40
  pub made : outcome (asked c) octets ≡ new version
  pub used : octets_used (asked c) octets ≡ length octets
  pub accepted : accepts Present (standing version.apex version.records) ≡ true

-- the version lists nodes, by which the fold becomes another
pub record HasListing (c : Core) (version : Zone) (nodes : List Node) (fold : FoldOf) : Type 0 where
  pub before : Option Zone
  pub versions : (state_of c).versions ≡ before ∷ []
  pub lists : listing_of version.apex version.records ≡ Ok nodes
  pub becomes : process (state_of c).fold cat_test nodes (length c.list) ≡ fold

-- what is known of the core after the catalog's job
pub record HadTurn (c : Core) (now : ℕ) (octets : Octets) (version : Zone) (fold : FoldOf) (d : Core) : Type 0 where
  pub makes : Makes c now (c.tickets + 1) octets d
  pub well : IsWell d
  pub idle : d.flight ≡ []
  pub drawn : d.tickets ≡ c.tickets + 1
  pub entry : Entry
  pub list : d.list ≡ c.list ++ entry ∷ []
  pub fold_is : (state_of d).fold ≡ fold
  pub versions : (state_of d).versions ≡ Some version ∷ []
  pub catalog : value_at d.values 0 ≡ succeeded (departed (value_at c.values 0)) now (refresh_in (Some version))
  pub begins : (k : ℕ) (m : MemberOf) → slice_get fold.members k ≡ Some m → member_at (state_of c) m.zone ≡ None
      → value_at d.values (suc k) ≡ fresh
  pub again : (k : ℕ) (m before : MemberOf) → slice_get fold.members k ≡ Some m
      → member_at (state_of c) m.zone ≡ Some before → (before.incarnation == m.incarnation) ≡ false
      → value_at d.values (suc k) ≡ fresh
  pub remains : (k : ℕ) (m : MemberOf) → slice_get fold.members k ≡ Some m → member_at (state_of c) m.zone ≡ Some m
      → place_at (state_of c) m.zone ≡ Some (suc k)
      → value_at d.values (suc k) ≡ value_at c.values (suc k)
  pub keeps : (zone : Name) (i : ℕ) → stands (state_of c) zone i ≡ true → stands (state_of d) zone i ≡ true
      → zone ≢ cat_test → held_at (state_of d) zone ≡ held_at (state_of c) zone

module _ (c : Core) (now : ℕ) (octets : Octets) (version : Zone) (turn : HasTurn c now octets version) where
  abbrev s : State
  s = state_of c

  there : slice_get (seats s) 0 ≡ Some cat_seat
  there = cat_there s.fold turn.ours

  at_number : Some 0 ≡ catalog_at s cat_test
  at_number = sym (ap (λ cs. number_of cs cat_test) turn.ours ∙ cat_number)

  stood : stands s cat_test 0 ≡ true
  stood = seat_stands s cat_seat (place_seat s turn.well.state turn.well.apart 0 cat_seat there).1

  -- its job
  abbrev pub job : JobOf
  job = job_for c now cat_seat (value_at c.values 0)

  pub is_due : due_of c now ≡ due.Job job
  is_due = due_at c 0 now turn.idle (omega (arith, turn.room)) turn.first turn.time
      ∙ ap (λ j. due.Job j) (job_is c now 0 cat_seat there)

  -- its zone is still the one that it was handed out for
  not_ended : ended_of c job ≡ None
  not_ended = whole c.list turn.well.sound.legal cat_test 0 stood

  -- the core while it is in flight
  abbrev pub busy : Core
  busy = after_due c (due.Job job)

  busy_well : IsWell busy
  busy_well = subst (λ a. IsWell (after_due c a)) is_due (well_due c now turn.well turn.moment)

  among : IsAmong job.flight busy.flight
  unfolding IsAmong
  among = subst (λ jobs. IsAmong job.flight (jobs ++ job ∷ [])) (sym turn.idle) (inl refl)

  flies : IsFlying busy job
  flies = record { there = among; given = given_now c.list job refl refl; held = λ up. refl }

  unsigned : tsig_of busy job octets ≡ None
  unfolding tsig_of
  unsigned = ap (λ key. tsig_in key (transfer_for job) (used_of job octets) job.flight.moment)
      (no_key s cat_test turn.ours)

  -- its policy is `present`
  policy_is : policy_at s cat_test ≡ Some Present
  policy_is = policy_catalog s cat_test 0 at_number
      ∙ ap (λ cs. Some (Rattle.dz_member.specs.Membership.settings_at cs 0).policy) turn.ours

  is_approved : is_accepted (policy_at s cat_test) version ≡ true
  is_approved = ap (λ p. is_accepted p version) policy_is ∙ turn.accepted

  abbrev pub aftermath : Aftermath
  aftermath = aftermath_of s cat_test (new version)

  abbrev pub next : State
  next = step s (entry_for job octets)

  -- the core afterwards
  abbrev pub later : Core
  later = after_success busy job octets aftermath

  -- its octets publish the version
  pub published : settled busy job octets now ≡ later
  published =
      settled_by busy job octets turn.used now _
      (verdict_new busy job octets version unsigned turn.made not_ended is_approved)

  pub later_well : IsWell later
  later_well = subst IsWell published (well_settled busy job octets now busy_well flies turn.used)

  pub later_list : later.list ≡ c.list ++ entry_for job octets ∷ []
  unfolding after_success
  later_list = refl

  pub later_state : state_of later ≡ next
  later_state = ap (λ l. after l) later_list ∙ after_more c.list (entry_for job octets)

  pub later_tickets : later.tickets ≡ c.tickets + 1
  unfolding after_success
  later_tickets = refl

  pub later_idle : later.flight ≡ []
  unfolding after_success
  later_idle = no_others c.flight job turn.idle

  decided : decision_of s (taken_for job octets) ≡ new version
  decided = decision_is s job octets refl ∙ turn.made

  -- the version is listed
  module _ (nodes : List Node) (after_fold : FoldOf) (has : HasListing c version nodes after_fold) where
    -- the new state is the old one with this version and its listing
    next_is : next ≡ counted (relisted (with_version s 0 version) cat_test nodes)
    unfolding step
    next_is = ap (taken s cat_test now) decided ∙ taken_catalog s cat_test now 0 (new version) at_number
        ∙ ap counted (listed_ok s 0 cat_test version nodes has.lists)

    relisted_fold : (counted (relisted (with_version s 0 version) cat_test nodes)).fold
        ≡ process s.fold cat_test nodes s.count
    unfolding counted relisted
    relisted_fold = refl

    relisted_versions : (counted (relisted (with_version s 0 version) cat_test nodes)).versions ≡ set s.versions 0
        (Some version)
    unfolding counted relisted
    relisted_versions = refl

    pub next_fold : next.fold ≡ after_fold
    next_fold = ap (λ (x : State). x.fold) next_is ∙ relisted_fold
        ∙ ap (process s.fold cat_test nodes) (count_is c.list turn.well.sound.legal) ∙ has.becomes

    pub next_versions : next.versions ≡ Some version ∷ []
    next_versions = ap (λ (x : State). x.versions) next_is ∙ relisted_versions
        ∙ ap (λ vs. set vs 0 (Some version)) has.versions

    pub aftermath_is : aftermath ≡ Changes (changes s.fold cat_test nodes s.count)
    aftermath_is = aftermath_catalog s cat_test 0 (new version) at_number
        ∙ ap (listing_aftermath s cat_test) has.lists

    next_number : Some 0 ≡ catalog_at next cat_test
    next_number = at_number ∙ sym (catalog_step s (taken_for job octets) cat_test)

    held_next : held_at next cat_test ≡ Some version
    held_next = held_catalog next cat_test 0 next_number
        ∙ ap (λ (vs : List (Option Zone)). slice_index_or vs 0 None) next_versions

    some_values : 0 < length c.values
    some_values =
        omega (arith, turn.well.sound.sized, seats_size s, ap (λ (cs : List CatalogSettings). length cs) turn.ours)

    busy_values : busy.values ≡ departed (value_at c.values 0) ∷ drop 1 c.values
    busy_values = ap (λ o. changed c.values o departed) turn.first
        ∙ set_front c.values (departed (value_at c.values 0)) some_values

    -- the timers are carried to the places of the new members
    relisted_are : relisted_values s busy.values after_fold.members ≡ departed (value_at c.values 0) ∷
        map (carried s busy.values) after_fold.members
    unfolding relisted_values
    relisted_are =
        ap (λ (cs : List CatalogSettings). take (length cs) busy.values ++
        map (carried s busy.values) after_fold.members) turn.ours
        ∙ ap (λ vs. take 1 vs ++ map (carried s busy.values) after_fold.members) busy_values

    later_is : later.values ≡ succeeded_in next cat_test now (values_after s busy.values aftermath next.fold.members)
    unfolding after_success
    later_is = refl

    pub later_values : later.values ≡ succeeded (departed (value_at c.values 0)) now (refresh_in (Some version)) ∷
        map (carried s busy.values) after_fold.members
    later_values =
        later_is
        ∙ ap (λ (f : FoldOf). succeeded_in next cat_test now (values_after s busy.values aftermath f.members))
        next_fold
        ∙ ap (λ a. succeeded_in next cat_test now (values_after s busy.values a after_fold.members)) aftermath_is
        ∙ ap (λ vs. succeeded_in next cat_test now vs) relisted_are
        ∙ ap (λ o. changed (departed (value_at c.values 0) ∷ map (carried s busy.values) after_fold.members) o
        (λ v. succeeded v now (refresh_in (held_at next cat_test)))) (place_catalog next cat_test 0 next_number)
        ∙ ap (λ h. succeeded (departed (value_at c.values 0)) now (refresh_in h) ∷
        map (carried s busy.values) after_fold.members) held_next

    -- what the catalog waits for
    pub later_first : value_at later.values 0 ≡ succeeded (departed (value_at c.values 0)) now
        (refresh_in (Some version))
    later_first = ap (λ vs. value_at vs 0) later_values

    -- what a member waits for
    pub later_value : (k : ℕ) (m : MemberOf) → slice_get after_fold.members k ≡ Some m
        → value_at later.values (suc k) ≡ carried s busy.values m
    later_value k m at =
        ap (λ vs. value_at vs (suc k)) later_values
        ∙ get_or-map (carried s busy.values) after_fold.members k m fresh (slice_get_within after_fold.members k m at)
        ∙ ap (carried s busy.values) (get_or_from_slice_get after_fold.members k m m at)

    -- one that was none before begins
    pub begins : (m : MemberOf) → member_at s m.zone ≡ None → carried s busy.values m ≡ fresh
    unfolding carried
    begins m none = ap (carried_from s busy.values m) none

    -- so does one of another incarnation
    pub begins_again : (m before : MemberOf) → member_at s m.zone ≡ Some before
        → (before.incarnation == m.incarnation) ≡ false → carried s busy.values m ≡ fresh
    unfolding carried
    begins_again m before is other = ap (carried_from s busy.values m) is
        ∙ ap (λ b. cond b (kept (value_in busy.values (place_at s m.zone)) before m) fresh) other

    -- one that stays waits for the same
    pub remains : (m : MemberOf) (k : ℕ) → member_at s m.zone ≡ Some m → place_at s m.zone ≡ Some (suc k)
        → carried s busy.values m ≡ value_at c.values (suc k)
    unfolding carried
    remains m k is at =
        ap (carried_from s busy.values m) is
        ∙ ap (λ b. cond b (kept (value_in busy.values (place_at s m.zone)) m m) fresh)
        (eq-eqb m.incarnation m.incarnation refl)
        ∙ ap (λ b. cond b (value_in busy.values (place_at s m.zone))
        (turned_back (value_in busy.values (place_at s m.zone)))) (same_itself m)
        ∙ ap (λ o. value_in busy.values o) at
        ∙ ap (λ vs. value_at vs (suc k)) busy_values
        ∙ behind_front c.values k

    pub had_turn : HadTurn c now octets version after_fold later
    had_turn = record {
      makes = record { job = job; is_due = is_due; numbered = refl; idle = turn.idle; settles = published };
      well = later_well;
      idle = later_idle;
      drawn = later_tickets;
      entry = entry_for job octets;
      list = later_list;
      fold_is = ap (λ (x : State). x.fold) later_state ∙ next_fold;
      versions = ap (λ (x : State). x.versions) later_state ∙ next_versions;
      catalog = later_first;
      begins = λ k m at none. later_value k m at ∙ begins m none;
      again = λ k m before at is other. later_value k m at ∙ begins_again m before is other;
      remains = λ k m at is place. later_value k m at ∙ remains m k is place;
      keeps = λ zone i up still ne.
          ap (λ (x : State). held_at x zone) later_state
          ∙ held_keeps s (taken_for job octets) zone i turn.well.state up
          (subst (λ (x : State). stands x zone i ≡ true) later_state still) ne;
    }
