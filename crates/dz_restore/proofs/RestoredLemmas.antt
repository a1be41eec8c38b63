-- All zones have their turns.
use Rattle.std.proofs.Common.{◌≡◌, ◌≢◌, ◌⊎◌, ℕ, zero, suc, ◌+◌, ◌-◌, ◌<◌, ◌≤◌, ◌^◌, Bool, true, false, List, [], ◌∷◌}
use Rattle.std.proofs.Common.{◌++◌, map, length, replicate, refl, sym, ◌∙◌, ap, subst, arith, inl, inr, Option, Some}
use Rattle.std.proofs.Common.{None}
use Rattle.std.specs.Prelude.{not, ◌&&◌, ◌↔◌, is_some, slice_get, slice_index_or, if◌then◌else◌}
use Rattle.std.specs.List.{AllByRecursion}
use Rattle.std.specs.Option.{option_map, option_map_or, option_and_then, option_eq}
use Rattle.std.specs.Str.{bytes_eq}
use Rattle.std.proofs.lemmas.Bool.{cases_Bool}
use Rattle.std.proofs.lemmas.List.{length-replicate}
use Rattle.std.proofs.lemmas.Option.{same_Some, slice_get-get_or}
use Rattle.std.proofs.lemmas.Slice.Eq.{bytes_eq-Decides}
use Rattle.dz_name.specs.Words.{Name, Octets}
use Rattle.dz_name.specs.Name.{same_name}
use Rattle.dz_name.specs.Order.{same_decides}
use Rattle.dz_zone.specs.Version.{Zone}
use Rattle.dz_outward.specs.Stream.{is_fit}
use Rattle.dz_settings.specs.declared.config.CatalogSettings.{CatalogSettings}
use Rattle.dz_settings.specs.declared.config.Policy.{Policy}
use Rattle.dz_settings.specs.declared.key.Key.{Key}
use Rattle.dz_settings.specs.Config.{IsAllowed}
use Rattle.dz_member.specs.Fold.{FoldOf, number_of}
use Rattle.dz_member.proofs.NumberLemmas.{few_catalogs}
use Rattle.dz_table.specs.Slot.{SlotOf}
use Rattle.dz_timer.specs.Values.{ValuesOf, fresh}
use Rattle.dz_history.specs.State.{State, opened, catalog_at, member_at, held_at, key_at, policy_at}
use Rattle.dz_history.specs.Places.{Seat, seats, place_at}
use Rattle.dz_history.proofs.KeptLemmas.{seats_by_fold}
use Rattle.dz_history.proofs.PlaceLemmas.{seats_size, place_within, place_some}
use Rattle.dz_history.proofs.StateLemmas.{held_catalog, held_member}
use Rattle.dz_store.specs.Kept.{KeptZone, CanBeKept}
use Rattle.dz_fleet.specs.Core.{Core, state_of, opened_core, is_accepted}
use Rattle.dz_fleet.proofs.EventLemmas.{IsWell, well_opened}
use Rattle.dz_fleet.proofs.StartLemmas.{opened_state}
use Rattle.dz_restore.specs.Restoring.{Home, home_from, home_at, is_home, sent_with, restore_one, restore_seat}
use Rattle.dz_restore.specs.Restoring.{restore_at, restore_from, restored}
use Rattle.dz_restore.specs.Laws.{AreKept, Returns, HoldsKept, HasKeptMoments, RestoresExactly}
use Rattle.dz_restore.specs.Turns.{IsTurn, IsRestoring}
use Rattle.dz_restore.proofs.HoldLemmas.{hold_by, to_hold, unplaced, Holds}
use Rattle.dz_restore.proofs.MoveLemmas.{Moved, moved}
use Rattle.dz_restore.proofs.UsedLemmas.{sent_new}

-- ---- the given number of zones have had their turns
record At (keeps : Name → Option KeptZone) (config : List CatalogSettings) (count : ℕ) (c : Core) : Type 0 where
  well : IsWell c
  going : IsRestoring c count
  tickets : c.tickets ≡ count
  holds : Holds (state_of c) keeps count
  config_is : (state_of c).fold.config ≡ config

-- the core of a configuration
all_fresh : (n : ℕ) → AllByRecursion (λ v. v ≡ fresh) (replicate n fresh)
all_fresh zero = tt
all_fresh (suc n) = (refl, all_fresh n)

none_there : (n number : ℕ) → slice_index_or (replicate n None) number None ≡ (let none : Option Zone = None in none)
none_there zero number = refl
none_there (suc n) zero = refl
none_there (suc n) (suc number) = none_there n number

opened_held_from : (config : List CatalogSettings) (zone : Name) (o : Option ℕ) → o ≡ catalog_at (opened config) zone
    → held_at (opened config) zone ≡ None
opened_held_from config zone (Some number) e =
    held_catalog (opened config) zone number e ∙ none_there (length config) number
opened_held_from config zone None e = held_member (opened config) zone e

opened_held : (config : List CatalogSettings) (zone : Name) → held_at (opened config) zone ≡ None
opened_held config zone = opened_held_from config zone (catalog_at (opened config) zone) refl

opened_holds : (config : List CatalogSettings) (keeps : Name → Option KeptZone) → Holds (opened config) keeps 0
opened_holds config keeps = record {
  front = λ zone p at lt. absurd (omega (arith, lt));
  rest = λ zone p at le. opened_held config zone;
  moments = λ zone slot version no_catalog is has. absurd (cc);
}

opened_at : (config : List CatalogSettings) (keeps : Name → Option KeptZone) → IsAllowed config
    → At keeps config 0 (opened_core config)
opened_at config keeps allowed = record {
  well = well_opened config allowed;
  going = record {
    turn = record {
      done = [];
      rest = replicate (length config) fresh;
      are = refl;
      many = refl;
      waits = tt;
      begin = all_fresh (length config);
    };
    idle = refl;
    tickets = omega arith;
  };
  tickets = refl;
  holds = subst (λ s. Holds s keeps 0) (sym (opened_state config)) (opened_holds config keeps);
  config_is = ap (λ (s : State). s.fold.config) (opened_state config);
}

module _ (keeps : Name → Option KeptZone) (kept : AreKept keeps) (config : List CatalogSettings) where
  abbrev tells : ℕ → Name → Option KeptZone
  tells place = keeps

  -- one zone
  seat_moved : (c : Core) (count : ℕ) (o : Option Seat) → At keeps config count c
      → slice_get (seats (state_of c)) count ≡ o → count < length (seats (state_of c)) → count + 1 < 2 ^ 64 - 2
      → Moved c keeps count (restore_seat keeps c o)
  seat_moved c count None at e lt room = absurd (let both : None ≡ Some _ =
      sym e ∙ slice_get-get_or (seats (state_of c)) count (record { zone = []; incarnation = 0 }) lt in cc)
  seat_moved c count (Some seat) at e lt room =
      moved c keeps count seat at.well at.going (omega (arith, at.tickets, room)) at.holds kept e

  one_moved : (c : Core) (count : ℕ) → At keeps config count c → count < length (seats (state_of c))
      → count + 1 < 2 ^ 64 - 2 → Moved c keeps count (restore_at tells count c)
  one_moved c count at lt room = seat_moved c count (slice_get (seats (state_of c)) count) at refl lt room

  at_next : (c d : Core) (count : ℕ) → At keeps config count c → Moved c keeps count d → At keeps config (count + 1) d
  at_next c d count at m = record {
    well = m.well;
    going = m.going;
    tickets = m.tickets ∙ ap (λ n. n + 1) at.tickets;
    holds = m.holds;
    config_is = m.config ∙ at.config_is;
  }

  -- the catalogs
  catalogs_at : (c : Core) → At keeps config 0 c → length config ≤ 8 → (i : ℕ) → i ≤ length config
      → At keeps config i (restore_from tells 0 i c)
  unfolding restore_from
  catalogs_at c at few zero le = at
  catalogs_at c at few (suc i) le =
      let before = catalogs_at c at few i (omega (arith, le)) in
      let d = restore_from tells 0 i c in
      let lt : i < length (seats (state_of d)) =
      omega (arith, seats_size (state_of d), ap (λ l. length l) before.config_is, le) in
      subst (λ p. At keeps config (suc i) (restore_at tells p d)) (let e : i ≡ 0 + i = omega arith in e)
      (subst (λ n. At keeps config n (restore_at tells i d)) (let e : i + 1 ≡ suc i = omega arith in e)
      (at_next d (restore_at tells i d) i before (one_moved d i before lt (omega (arith, le, few)))))

  -- the members
  members_at : (c : Core) (count : ℕ) → At keeps config count c → count ≡ length config
      → length (seats (state_of c)) < 2 ^ 64 - 2 → (j : ℕ) → j ≤ length (state_of c).fold.members
      → At keeps config (count + j) (restore_from tells count j c)
      × ((state_of (restore_from tells count j c)).fold ≡ (state_of c).fold)
  unfolding restore_from
  members_at c count at is room zero le =
      (subst (λ n. At keeps config n c) (let e : count ≡ count + 0 = omega arith in e) at, refl)
  members_at c count at is room (suc j) le =
      let before = members_at c count at is room j (omega (arith, le)) in
      let d = restore_from tells count j c in
      let same : length (seats (state_of d)) ≡ length (seats (state_of c)) =
      ap (λ l. length l) (seats_by_fold (state_of d) (state_of c) before.1) in
      let sized = seats_size (state_of c) in
      let own : length (state_of c).fold.config ≡ count = ap (λ l. length l) at.config_is ∙ sym is in
      let lt : count + j < length (seats (state_of d)) = omega (arith, same, sized, own, le) in
      let m = one_moved d (count + j) before.0 lt (omega (arith, lt, same, room)) in
      let config_d : length (state_of d).fold.config ≡ count = ap (λ l. length l) before.0.config_is ∙ sym is in (
        subst (λ n. At keeps config n (restore_at tells (count + j) d))
            (let e : (count + j) + 1 ≡ count + suc j = omega arith in
            e) (at_next d (restore_at tells (count + j) d) (count + j) before.0 m),
        m.fold (omega (arith, config_d)) ∙ before.1,
      )

-- ---- what a zone then holds
same_label_itself : (o : Option Octets) → option_eq bytes_eq o o ≡ true
same_label_itself None = refl
same_label_itself (Some label) = (bytes_eq-Decides label label).1 refl

same_labels : (a b : Option Octets) → option_eq bytes_eq a b ≡ true → a ≡ b
same_labels None None e = refl
same_labels None (Some b) e = absurd (cc)
same_labels (Some a) None e = absurd (cc)
same_labels (Some a) (Some b) e = ap (λ l. Some l) ((bytes_eq-Decides a b).0 e)

record Tests (k : KeptZone) (home : Option Home) (key : Option Key) (policy : Option Policy) : Type 0 where
  at_home : home ≡ Some (record { catalog = k.catalog; label = k.label })
  keyless : key ≡ None
  accepted : is_accepted policy k.version ≡ true

home_is : (k : KeptZone) (home : Home) → is_home k home ≡ true → home ≡ record { catalog = k.catalog; label = k.label }
home_is k home e =
    let parts = Rattle.std.proofs.lemmas.Bool.and_parts (same_name k.catalog home.catalog)
    (option_eq bytes_eq k.label home.label) e in
    λ i. record {
      catalog = sym ((same_decides k.catalog home.catalog).0 parts.0) i;
      label = sym (same_labels k.label home.label parts.1) i;
    }

tests_of : (k : KeptZone) (home : Option Home) (key : Option Key) (policy : Option Policy)
    → (option_map_or (is_home k) home false
    && (not (is_some key) && (is_fit k.version && is_accepted policy k.version))) ≡ true → Tests k home key policy
tests_of k None key policy e = absurd (cc)
tests_of k (Some home) (Some key) policy e =
    let parts = Rattle.std.proofs.lemmas.Bool.and_parts (is_home k home)
    (not (is_some (Some key)) && (is_fit k.version && is_accepted policy k.version)) e in
    absurd (let f : false ≡ true = parts.1 in cc)
tests_of k (Some home) None policy e =
    let parts = Rattle.std.proofs.lemmas.Bool.and_parts (is_home k home)
    (is_fit k.version && is_accepted policy k.version) e in
    record {
      at_home = ap (λ h. Some h) (home_is k home parts.0);
      keyless = refl;
      accepted = (Rattle.std.proofs.lemmas.Bool.and_parts (is_fit k.version) (is_accepted policy k.version) parts.1).1;
    }

record HeldBy (home : Option Home) (key : Option Key) (policy : Option Policy) (tale : Option KeptZone)
    (version : Zone) : Type 0 where
  k : KeptZone
  is : tale ≡ Some k
  tests : Tests k home key policy
  own : version ≡ k.version

held_if : (home : Option Home) (key : Option Key) (policy : Option Policy) (k : KeptZone) (version : Zone) (b : Bool)
    → (option_map_or (is_home k) home false
    && (not (is_some key) && (is_fit k.version && is_accepted policy k.version))) ≡ b
    → (if b then Some k.version else None) ≡ Some version → HeldBy home key policy (Some k) version
held_if home key policy k version true t e =
    record { k = k; is = refl; tests = tests_of k home key policy t; own = sym (same_Some k.version version e) }
held_if home key policy k version false t e = absurd (cc)

held_by : (home : Option Home) (key : Option Key) (policy : Option Policy) (tale : Option KeptZone) (version : Zone)
    → hold_by home key policy tale ≡ Some version → HeldBy home key policy tale version
held_by home key policy None version e = absurd (cc)
held_by home key policy (Some k) version e = held_if home key policy k version _ refl e

itself_home : (k : KeptZone) → is_home k (record { catalog = k.catalog; label = k.label }) ≡ true
itself_home k =
    Rattle.std.proofs.lemmas.Bool.and_from _ _ ((same_decides k.catalog k.catalog).1 refl) (same_label_itself k.label)

holds_it : (s : State) (zone : Name) (k : KeptZone) → Returns s zone k → is_fit k.version ≡ true
    → to_hold s zone (Some k) ≡ Some k.version
holds_it s zone k r fit = rw (r.home, r.key, itself_home k, fit, r.accepted) refl

home_placed_from : (s : State) (zone : Name) (home : Home) (o : Option ℕ) → o ≡ catalog_at s zone → home_from s zone o
    ≡ Some home → Rattle.std.specs.Prelude.IsSome (Rattle.dz_history.specs.State.incarnation_at s zone)
home_placed_from s zone home (Some number) e is =
    rw (Rattle.dz_history.proofs.StateLemmas.incarnation_catalog s zone number e) refl
home_placed_from s zone home None e is =
    rw (Rattle.dz_history.proofs.StateLemmas.incarnation_member s zone e) (some_member (member_at s zone) is)
  where
    some_member : (o : Option Rattle.dz_member.specs.Membership.MemberOf)
        → option_map (λ m. record { catalog = m.catalog; label = Some m.label }) o ≡ Some home
        → Rattle.std.specs.Prelude.IsSome (option_map (λ m. m.incarnation) o)
    some_member None none = absurd (cc)
    some_member (Some m) some = refl

home_placed : (s : State) (zone : Name) (home : Home) → home_at s zone ≡ Some home
    → Rattle.std.specs.Prelude.IsSome (place_at s zone)
unfolding home_at
home_placed s zone home is = place_some s zone (home_placed_from s zone home (catalog_at s zone) refl is)

module _ (keeps : Name → Option KeptZone) (kept : AreKept keeps) (s : State)
    (ok : Rattle.dz_history.specs.State.IsState s) (count : ℕ) (all : length (seats s) ≤ count)
    (holds : Holds s keeps count) where
  holds_placed : (zone : Name) (p : ℕ) → place_at s zone ≡ Some p → held_at s zone ≡ to_hold s zone (keeps zone)
  holds_placed zone p at = holds.front zone p at (omega (arith, place_within s zone p at, all))

  returned_from : (zone : Name) (version : Zone) (o : Option ℕ) → place_at s zone ≡ o → held_at s zone ≡ Some version
      → (k : KeptZone) × (keeps zone ≡ Some k) × Returns s zone k × (version ≡ k.version)
  returned_from zone version None at has =
      absurd (let both : None ≡ Some version = sym (unplaced s zone ok at) ∙ has in cc)
  returned_from zone version (Some p) at has =
      let h = held_by (home_at s zone) (key_at s zone) (policy_at s zone) (keeps zone) version
      (sym (holds_placed zone p at) ∙ has) in
      let can = (kept zone h.k h.is).1 in (
        h.k,
        h.is,
        record {
          home = h.tests.at_home;
          key = h.tests.keyless;
          new = λ id small. sent_new id h.k.version small can.version can.fit;
          accepted = h.tests.accepted;
        },
        h.own,
      )

  held_from : (zone : Name) (k : KeptZone) (o : Option ℕ) → place_at s zone ≡ o → keeps zone ≡ Some k
      → Returns s zone k → held_at s zone ≡ Some k.version
  held_from zone k None at is r = absurd (let some = home_placed s zone _ r.home in let none = rw at at some in cc)
  held_from zone k (Some p) at is r =
      holds_placed zone p at ∙ ap (to_hold s zone) is ∙ holds_it s zone k r (kept zone k is).1.fit

  holds_kept : HoldsKept s keeps
  holds_kept zone version = (
    λ has. returned_from zone version (place_at s zone) refl has,
    λ r. held_from zone r.0 (place_at s zone) refl r.1 r.2 ∙ ap (λ v. Some v) (sym r.3),
  )

pub restored_exactly : RestoresExactly
restored_exactly config keeps allowed kept room =
    let c = opened_core config in
    let first = opened_at config keeps allowed in
    let n = length (state_of c).fold.config in
    let n_is : n ≡ length config = ap (λ l. length l) first.config_is in
    let listed = catalogs_at keeps kept config c first (few_catalogs config allowed) n (omega (arith, n_is)) in
    let d = restore_from (λ place. keeps) 0 n c in
    let m = length (state_of d).fold.members in
    let last = members_at keeps kept config d n listed n_is room m (omega arith) in
    let r = restore_from (λ place. keeps) n m d in
    let size : length (seats (state_of r)) ≤ n + m =
    omega (
      arith,
      ap (λ l. length l) (seats_by_fold (state_of r) (state_of d) last.1),
      seats_size (state_of d),
      ap (λ l. length l) listed.config_is,
      n_is,
    ) in
    (holds_kept keeps kept (state_of r) last.0.well.state (n + m) size last.0.holds, last.0.holds.moments)
