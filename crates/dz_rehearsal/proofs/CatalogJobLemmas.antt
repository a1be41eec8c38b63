-- The two jobs of the catalog, its first transfer and its change: what is known of the core before and after each.
use Rattle.std.proofs.Common.{◌≡◌, ◌≢◌, ℕ, zero, suc, ◌+◌, ◌^◌, ◌<◌, ◌≤◌, true, false, List, [], ◌∷◌, map, length}
use Rattle.std.proofs.Common.{refl, sym, ◌∙◌, ap, subst, arith, Option, Some, None, length-append}
use Rattle.std.specs.Prelude.{◌%◌, ◌==◌, slice_get, slice_index_or, if◌then◌else◌}
use Rattle.std.proofs.lemmas.Bool.Decides.{nat_tests}
use Rattle.dz_name.specs.Words.{Name, Octets}
use Rattle.dz_zone.specs.Version.{Zone}
use Rattle.dz_catalog.specs.Listing.{listing_of}
use Rattle.dz_take.specs.Outcome.{outcome, octets_used}
use Rattle.dz_member.specs.Membership.{MemberOf}
use Rattle.dz_member.specs.Fold.{FoldOf, number_of}
use Rattle.dz_member.specs.Process.{process}
use Rattle.dz_timer.specs.Values.{ValuesOf, fresh, departed, succeeded}
use Rattle.dz_history.specs.State.{State, opened, held_at, member_at, stands}
use Rattle.dz_history.specs.Places.{place_at}
use Rattle.dz_history.proofs.ListLemmas.{count_is}
use Rattle.dz_history.proofs.StandsLemmas.{stands_old}
use Rattle.dz_history.proofs.StateLemmas.{held_catalog}
use Rattle.dz_take.specs.declared.ask.Ask.TheVariants.{Ixfr}
use Rattle.dz_job.specs.Job.{refresh_in}
use Rattle.dz_history.proofs.PlaceLemmas.{place_catalog}
use Rattle.dz_fleet.specs.Core.{Core, state_of, first_place, opened_core, ask_of}
use Rattle.dz_fleet.specs.Values.{value_at}
use Rattle.dz_fleet.proofs.EventLemmas.{IsWell, well_opened}
use Rattle.dz_fleet.proofs.StartLemmas.{opened_state}
use Rattle.dz_gen.specs.Records.{catalog, zone}
use Rattle.dz_gen.specs.Messages.{catalog_changes}
use Rattle.dz_gen.specs.Script.{numbers}
use Rattle.dz_gen.specs.Outcomes.{first_of, next_of, catalog_version, changed_version}
use Rattle.dz_gen.specs.Reading.{cat_test}
use Rattle.dz_gen.proofs.CatalogLemmas.{catalog_is, catalog_comes}
use Rattle.dz_gen.proofs.ChangedLemmas.{catalog_changes as catalog_changed}
use Rattle.dz_rehearsal.specs.Life.{config, first_nodes, changed_nodes, member_of, reset_member, member_after}
use Rattle.dz_rehearsal.specs.Life.{first_fold, changed_fold, Makes}
use Rattle.dz_rehearsal.proofs.LifeLemmas.{Life, with, with_other}
use Rattle.dz_rehearsal.proofs.CatalogRefreshLemmas.{catalog_refresh, changed_refresh}
use Rattle.dz_rehearsal.proofs.UsedLemmas.{catalog_octets, catalog_used, change_is}
use Rattle.dz_rehearsal.proofs.ListsLemmas.{lists}
use Rattle.dz_rehearsal.proofs.MembersLemmas.{members}
use Rattle.dz_rehearsal.proofs.FirstLemmas.{first_is}
use Rattle.dz_rehearsal.proofs.SeatLemmas.{HasSeats, seats_of, seat_count, first_named, after_named, member_there}
use Rattle.dz_rehearsal.proofs.SeatLemmas.{member_is, place_is, stood, begun_empty}
use Rattle.dz_rehearsal.proofs.CatalogTurnLemmas.{asked, HasTurn, HasListing, HadTurn, had_turn, later}

-- ---- the catalog's first transfer
abbrev opens : Core
opens = opened_core config

opened_well : IsWell opens
opened_well = well_opened config refl

opened_held : (s : State) → s ≡ opened config → held_at s cat_test ≡ None
unfolding held_at
opened_held s is = ap (λ (x : State). held_at x cat_test) is

-- the job asks for the whole catalog
first_asked : asked opens ≡ first_of catalog 1
first_asked =
    ap (λ h. record { apex = cat_test; ask = ask_of h false; id = 1; held = h })
    (opened_held (state_of opens) (opened_state config)) ∙ ap (λ z. first_of z 1) (sym catalog_is)

opened_before : (s : State) → s ≡ opened config → s.versions ≡ None ∷ []
opened_before s is = ap (λ (x : State). x.versions) is

opened_fold : (s : State) → s ≡ opened config → s.fold ≡ Rattle.dz_member.specs.Fold.started config
opened_fold s is = ap (λ (x : State). x.fold) is

module _ (n : ℕ) (some : 0 < n) (few : n ≤ 1000) where
  first_turn : HasTurn opens 1000 (catalog_octets n) (catalog_version n)
  first_turn = record {
    well = opened_well;
    idle = refl;
    ours = ap (λ (f : FoldOf). f.config) (opened_fold (state_of opens) (opened_state config));
    room = omega arith;
    first = refl;
    time = omega arith;
    moment = omega arith;
    made = ap (λ t. outcome t (catalog_octets n)) first_asked ∙ (catalog_comes n few).comes;
    used = ap (λ t. octets_used t (catalog_octets n)) first_asked ∙ catalog_used n few;
    accepted = (catalog_comes n few).accepted;
  }

  first_listing : HasListing opens (catalog_version n) (first_nodes n) (first_fold n)
  first_listing = record {
    before = None;
    versions = opened_before (state_of opens) (opened_state config);
    lists = ap (λ z. listing_of z (catalog_version n).records) catalog_is ∙ (lists n).first some few;
    becomes = ap (λ f. process f cat_test (first_nodes n) 1) (opened_fold (state_of opens) (opened_state config))
        ∙ (members n 1).first some few;
  }

  abbrev first_later : Core
  first_later = later opens 1000 (catalog_octets n) (catalog_version n) first_turn

  first_had : HadTurn opens 1000 (catalog_octets n) (catalog_version n) (first_fold n) first_later
  first_had =
      had_turn opens 1000 (catalog_octets n) (catalog_version n) first_turn (first_nodes n) (first_fold n)
      first_listing

  first_size : length first_later.list ≡ 2
  first_size = ap (λ l. length l) first_had.list

  -- it was no member before
  first_none : (z : Name) → member_at (state_of opens) z ≡ None
  first_none z = ap (λ (x : State). member_at x z) (opened_state config)

  first_seats : HasSeats n member_of (state_of first_later)
  first_seats = record {
    state = first_had.well.state;
    apart = first_had.well.apart;
    config_is = ap (λ (f : FoldOf). f.config) first_had.fold_is;
    members_are = ap (λ (f : FoldOf). f.members) first_had.fold_is;
    named = first_named;
  }

  -- no zone holds anything
  first_held : (k : ℕ) → 0 < k → k ≤ n → held_at (state_of first_later) (zone k) ≡ None
  first_held k above within =
      begun_empty first_later.list (member_of k) first_had.well.sound.legal
      (member_is n member_of (state_of first_later) first_seats k above within) (omega (arith, first_size))

  -- each zone's timer is new
  first_values : (k : ℕ) → 0 < k → k ≤ n → value_at first_later.values k ≡ fresh
  first_values zero above within = absurd (omega (arith, above))
  first_values (suc j) above within =
      first_had.begins j (member_of (suc j)) (member_there n member_of j (omega (arith, within)))
      (first_none (zone (suc j)))

  first_life : Life n member_of (first_nodes n) (catalog_version n) (succeeded (departed fresh) 1000 100) (λ k. None)
      (λ k. fresh) 1 first_later
  first_life = record {
    well = first_had.well;
    idle = first_had.idle;
    drawn = first_had.drawn;
    fold = first_had.fold_is;
    version = first_had.versions;
    held = first_held;
    catalog = first_had.catalog ∙ ap (λ r. succeeded (departed fresh) 1000 r) (catalog_refresh n few);
    values = first_values;
  }

  -- the job, from the core of the configuration
  pub first_job : (d : Core) × Makes (opened_core config) 1000 1 (catalog_octets n) d
      × Life n member_of (first_nodes n) (catalog_version n) (succeeded (departed fresh) 1000 100) (λ k. None)
      (λ k. fresh) 1 d
      × (length d.list ≡ 2)
  first_job = (first_later, first_had.makes, first_life, first_size)

-- ---- the catalog's change
not_one : (j : ℕ) → (suc (suc j) == 1) ≡ false
not_one j = let other : 1 < suc (suc j) = omega arith in grind (arith, nat_tests)

-- another zone's membership is as before
after_other : (position j : ℕ) → member_after position (suc (suc j)) ≡ member_of (suc (suc j))
after_other position j = ap (λ b. if b then reset_member position else member_of (suc (suc j))) (not_one j)

module _ (n : ℕ) (some : 0 < n) (few : n ≤ 1000) (first : ValuesOf) (hold : ℕ → Option Zone) (value : ℕ
    → ValuesOf) (tickets : ℕ) (c : Core)
    (life : Life n member_of (first_nodes n) (catalog_version n) first hold value tickets c)
    (idle : first.timing.busy ≡ false) (each_idle : (i : ℕ) → 0 < i → i ≤ n → (value i).timing.busy ≡ false)
    (whole : first.whole ≡ false) (time : first.timing.next ≤ 1100) (least : (i : ℕ) → 0 < i → i ≤ n
    → first.timing.next ≤ (value i).timing.next)
    (room : tickets + 1 < 2 ^ 16) where
  abbrev s : State
  s = state_of c

  seated : HasSeats n member_of s
  seated = seats_of n member_of (first_nodes n) (catalog_version n) first hold value tickets c life first_named

  size : length c.values ≡ n + 1
  size = life.well.sound.sized ∙ seat_count n member_of s seated

  -- the catalog is first
  place_idle : (i : ℕ) → i < length c.values → (value_at c.values i).timing.busy ≡ false
  place_idle zero lt = ap (λ (v : ValuesOf). v.timing.busy) life.catalog ∙ idle
  place_idle (suc j) lt =
      ap (λ (v : ValuesOf). v.timing.busy) (life.values (suc j) (omega arith) (omega (arith, lt, size))) ∙ each_idle
      (suc j) (omega arith) (omega (arith, lt, size))

  place_least : (i : ℕ) → i < length c.values → (value_at c.values 0).timing.next ≤ (value_at c.values i).timing.next
  place_least zero lt = omega arith
  place_least (suc j) lt =
      let here = ap (λ (v : ValuesOf). v.timing.next) life.catalog in
      let there = ap (λ (v : ValuesOf). v.timing.next) (life.values (suc j) (omega arith) (omega (arith, lt, size))) in
      omega (arith, here, there, least (suc j) (omega arith) (omega (arith, lt, size)))

  its_first : first_place c ≡ Some 0
  its_first = first_is c.values 0 (omega (arith, size)) place_idle place_least (λ i lt. absurd (omega (arith, lt)))

  version_held : held_at s cat_test ≡ Some (catalog_version n)
  version_held = held_catalog s cat_test 0 (sym (ap (λ cs. number_of cs cat_test) seated.config_is))
      ∙ ap (λ (vs : List (Option Zone)). slice_index_or vs 0 None) life.version

  not_whole : (value_at c.values 0).whole ≡ false
  not_whole = ap (λ (v : ValuesOf). v.whole) life.catalog ∙ whole

  id_is : (c.tickets + 1) % 2 ^ 16 ≡ tickets + 1
  id_is = omega (arith, life.drawn, room)

  -- the job asks for differences from the version that is held
  change_asked : asked c ≡ next_of (catalog_version n) (tickets + 1)
  change_asked =
      ap (λ h. record {
        apex = cat_test;
        ask = ask_of h (value_at c.values 0).whole;
        id = (c.tickets + 1) % 2 ^ 16;
        held = h;
      }) version_held
      ∙ ap (λ b. record {
        apex = cat_test;
        ask = ask_of (Some (catalog_version n)) b;
        id = (c.tickets + 1) % 2 ^ 16;
        held = Some (catalog_version n);
      }) not_whole
      ∙ ap (λ i. record { apex = cat_test; ask = Ixfr; id = i; held = Some (catalog_version n) }) id_is
      ∙ ap (λ z. record { apex = z; ask = Ixfr; id = tickets + 1; held = Some (catalog_version n) }) (sym catalog_is)

  abbrev octets : Octets
  octets = catalog_changes (tickets + 1)

  change_turn : HasTurn c 1100 octets (changed_version n)
  change_turn = record {
    well = life.well;
    idle = life.idle;
    ours = seated.config_is;
    room = omega (arith, room, life.drawn);
    first = its_first;
    time = omega (arith, time, ap (λ (v : ValuesOf). v.timing.next) life.catalog);
    moment = omega arith;
    made = ap (λ t. outcome t octets) change_asked ∙ (catalog_changed n (tickets + 1) some few room).comes;
    used = ap (λ t. octets_used t octets) change_asked
        ∙ (change_is (tickets + 1) room).used (next_of (catalog_version n) (tickets + 1));
    accepted = (catalog_changed n (tickets + 1) some few room).accepted;
  }

  abbrev position : ℕ
  position = length c.list

  change_listing : HasListing c (changed_version n) (changed_nodes n) (changed_fold n position)
  change_listing = record {
    before = Some (catalog_version n);
    versions = life.version;
    lists = ap (λ z. listing_of z (changed_version n).records) catalog_is ∙ (lists n).changed some few;
    becomes = ap (λ f. process f cat_test (changed_nodes n) position) life.fold
        ∙ (members n position).changed some few;
  }

  abbrev change_later : Core
  change_later = later c 1100 octets (changed_version n) change_turn

  change_had : HadTurn c 1100 octets (changed_version n) (changed_fold n position) change_later
  change_had =
      had_turn c 1100 octets (changed_version n) change_turn (changed_nodes n) (changed_fold n position) change_listing

  change_size : length change_later.list ≡ position + 1
  change_size = ap (λ l. length l) change_had.list ∙ length-append c.list (change_had.entry ∷ [])

  makes : Makes c 1100 (tickets + 1) octets change_later
  makes =
      let m = change_had.makes in
      record {
        job = m.job;
        is_due = m.is_due;
        numbered = m.numbered
            ∙ ap (λ k. k + 1) life.drawn;
        idle = m.idle;
        settles = m.settles;
      }

  -- ---- members before and after
  before_is : (k : ℕ) → 0 < k → k ≤ n → member_at s (zone k) ≡ Some (member_of k)
  before_is = member_is n member_of s seated

  before_stands : (k : ℕ) → 0 < k → k ≤ n → stands s (zone k) 1 ≡ true
  before_stands = stood n member_of s seated

  before_place : (k : ℕ) → 0 < k → k ≤ n → place_at s (zone k) ≡ Some k
  before_place = place_is n member_of s seated

  abbrev t : State
  t = state_of change_later

  later_seats : HasSeats n (member_after position) t
  later_seats = record {
    state = change_had.well.state;
    apart = change_had.well.apart;
    config_is = ap (λ (f : FoldOf). f.config) change_had.fold_is;
    members_are = ap (λ (f : FoldOf). f.members) change_had.fold_is;
    named = after_named position;
  }

  -- the first zone began before
  behind_first : 1 < position
  behind_first =
      omega (
        arith,
        stands_old s life.well.state (zone 1) 1 (before_stands 1 (omega arith) some),
        count_is c.list life.well.sound.legal,
      )

  -- no zone is the catalog
  not_catalog : (k : ℕ) → 0 < k → k ≤ n → zone k ≢ cat_test
  not_catalog k above within same =
      let at : place_at s cat_test ≡ Some 0 = place_catalog s cat_test 0
      (sym (ap (λ cs. number_of cs cat_test) seated.config_is)) in
      let both : Some k ≡ Some 0 = sym (before_place k above within) ∙ ap (λ z. place_at s z) same ∙ at in
      let none : k ≡ 0 = cc in
      omega (arith, none, above)

  -- the first zone, which is reset, holds nothing; the others hold what they held
  change_held : (k : ℕ) → 0 < k → k ≤ n → held_at t (zone k) ≡ with hold 1 None k
  change_held zero above within = absurd (omega (arith, above))
  change_held (suc zero) above within =
      begun_empty change_later.list (reset_member position) change_had.well.sound.legal
      (member_is n (member_after position) t later_seats 1 (omega arith) some) (omega (arith, change_size))
  change_held (suc (suc j)) above within =
      let k = suc (suc j) in
      let up : stands t (zone k) 1 ≡ true =
      subst (λ (m : MemberOf). stands t (zone k) m.incarnation ≡ true) (after_other position j)
      (stood n (member_after position) t later_seats k above within) in
      change_had.keeps (zone k) 1 (before_stands k above within) up (not_catalog k above within)
      ∙ life.held k above within ∙ sym (with_other hold 1 None k (λ e. absurd (omega (arith, e))))

  -- the first zone's timer is new; those of the others are as they were
  change_values : (k : ℕ) → 0 < k → k ≤ n → value_at change_later.values k ≡ with value 1 fresh k
  change_values zero above within = absurd (omega (arith, above))
  change_values (suc zero) above within =
      let other : (1 == position) ≡ false = grind (arith, nat_tests, behind_first) in
      change_had.again 0 (reset_member position) (member_of 1) (member_there n (member_after position) 0 some)
      (before_is 1 (omega arith) some) other
  change_values (suc (suc j)) above within =
      let lt : suc j < n = omega (arith, within) in
      let there : slice_get (map (member_after position) (numbers n)) (suc j) ≡ Some (member_of (suc (suc j))) =
      member_there n (member_after position) (suc j) lt ∙ ap (λ m. Some m) (after_other position j) in
      change_had.remains (suc j) (member_of (suc (suc j))) there (before_is (suc (suc j)) above within)
      (before_place (suc (suc j)) above within)
      ∙ life.values (suc (suc j)) above within
      ∙ sym (with_other value 1 fresh (suc (suc j)) (λ e. absurd (omega (arith, e))))

  change_life : Life n (member_after position) (changed_nodes n) (changed_version n)
      (succeeded (departed first) 1100 100)
      (with hold 1 None) (with value 1 fresh) (tickets + 1) change_later
  change_life = record {
    well = change_had.well;
    idle = change_had.idle;
    drawn = change_had.drawn ∙ ap (λ k. k + 1) life.drawn;
    fold = change_had.fold_is;
    version = change_had.versions;
    held = change_held;
    catalog = change_had.catalog
        ∙ ap (λ v. succeeded (departed v) 1100 (refresh_in (Some (changed_version n)))) life.catalog
        ∙ ap (λ r. succeeded (departed first) 1100 r) (changed_refresh n few);
    values = change_values;
  }

  -- the job, from any core in which the catalog is due first
  pub change_job : (d : Core) × Makes c 1100 (tickets + 1) (catalog_changes (tickets + 1)) d
      × Life n (member_after (length c.list)) (changed_nodes n) (changed_version n)
      (succeeded (departed first) 1100 100) (with hold 1 None) (with value 1 fresh) (tickets + 1) d
      × (length d.list ≡ length c.list + 1)
  change_job = (change_later, makes, change_life, change_size)
