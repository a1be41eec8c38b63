-- The primaries of zones: there are 1 to 8 of each that is assigned.
use Rattle.std.proofs.Common.{◌≡◌, ℕ, ◌<◌, ◌≤◌, Bool, true, ◌&&◌, List, length, refl, sym, ◌∙◌, subst, arith, Some}
use Rattle.std.proofs.Common.{None}
use Rattle.std.specs.Prelude.{Option, nat_le, position, IfSome, IsSome}
use Rattle.std.specs.Option.{option_map, option_and_then}
use Rattle.std.specs.List.{AllByRecursion, list_all}
use Rattle.std.specs.Str.{bytes_eq}
use Rattle.std.proofs.lemmas.Bool.Decides.{nat_tests}
use Rattle.std.proofs.lemmas.List.Sums.{AllPass-from_list_all}
use Rattle.std.proofs.lemmas.Option.{get_or_from_slice_get, slice_get_within}
use Rattle.dz_name.specs.Words.{Name, Octets}
use Rattle.dz_name.specs.Name.{same_name}
use Rattle.dz_io.specs.declared.peer.Peer.{Peer}
use Rattle.dz_settings.specs.declared.config.CatalogSettings.{CatalogSettings}
use Rattle.dz_member.specs.declared.listing.Node.{Node}
use Rattle.dz_settings.specs.Config.{IsAllowed, is_catalog, is_group, is_word, is_count, are_primaries}
use Rattle.dz_member.specs.Membership.{MemberOf, settings_at, group_at, group_of, settings_of, primaries_in}
use Rattle.dz_member.specs.Membership.{primaries_of}
use Rattle.dz_member.specs.Fold.{FoldOf, number_of}
use Rattle.dz_member.specs.Process.{process}
use Rattle.dz_member.proofs.NumberLemmas.{first_of, second_of, catalog_at as catalog_within}
use Rattle.dz_history.specs.declared.entry.Taken.{Taken}
use Rattle.dz_history.specs.declared.entry.Entry.TheVariants.{Transfer}
use Rattle.dz_history.specs.State.{State, IsState, opened, catalog_at, member_at, incarnation_at, primaries_at}
use Rattle.dz_history.specs.After.{counted, relisted, step}
use Rattle.dz_history.specs.Places.{IsPlacedIn}
use Rattle.dz_history.proofs.FindLemmas.{place_within as within}
use Rattle.dz_history.proofs.StateLemmas.{primaries_catalog, primaries_member, incarnation_member}
use Rattle.dz_history.proofs.StepLemmas.{step_by}
use Rattle.dz_history.proofs.JudgedLemmas.{processed_all, found_all}
use Rattle.dz_history.proofs.PlaceLemmas.{Spot, spot_of, where_found}

-- ---- how many there are
pub record AreFew (ps : List Peer) : Type 0 where
  pub some : 1 ≤ length ps
  pub few : length ps ≤ 8

le_from : (a b : ℕ) → nat_le a b ≡ true → a ≤ b
le_from a b t = grind (arith, nat_tests)

few_of : (ps : List Peer) → are_primaries ps ≡ true → AreFew ps
few_of ps t =
    let n : is_count 8 (length ps) ≡ true =
    first_of (is_count 8 (length ps)) (list_all (λ peer. nat_le 1 peer.port) ps) t in
    record {
      some = le_from 1 (length ps) (first_of (nat_le 1 (length ps)) (nat_le (length ps) 8) n);
      few = le_from (length ps) 8 (second_of (nat_le 1 (length ps)) (nat_le (length ps) 8) n);
    }

own_few : (c : CatalogSettings) → is_catalog c ≡ true → AreFew c.primaries
own_few c t = few_of c.primaries
    (first_of (are_primaries c.primaries) (nat_le (length c.groups) 64 && list_all is_group c.groups) t)

group_few : (c : CatalogSettings) (k : ℕ) → is_catalog c ≡ true → k < length c.groups
    → AreFew (group_at c.groups k).primaries
group_few c k t lt =
    let groups = second_of (nat_le (length c.groups) 64) (list_all is_group c.groups)
    (second_of (are_primaries c.primaries) (nat_le (length c.groups) 64 && list_all is_group c.groups) t) in
    let group : is_group (group_at c.groups k) ≡ true = AllPass-from_list_all is_group c.groups groups k _ lt in
    few_of (group_at c.groups k).primaries
    (second_of (is_word (group_at c.groups k).word) (are_primaries (group_at c.groups k).primaries) group)

chosen_few : (c : CatalogSettings) → is_catalog c ≡ true → (o : Option ℕ)
    → ((k : ℕ) → Some k ≡ o → k < length c.groups) → AreFew (primaries_in c o)
chosen_few c t None h = own_few c t
chosen_few c t (Some k) h = group_few c k t (h k refl)

group_within : (c : CatalogSettings) (choice : Option Octets) (k : ℕ) → Some k ≡ group_of c choice
    → k < length c.groups
group_within c None k e = absurd (cc)
group_within c (Some word) k e = within (λ group. bytes_eq group.word word) c.groups k e

found_catalog : (config : List CatalogSettings) (name : Name) (c : CatalogSettings) → IsAllowed config
    → settings_of config name ≡ Some c → is_catalog c ≡ true
found_catalog config name c allowed e =
    let p : CatalogSettings → Bool = λ x. same_name x.name name in
    let spot : Spot p config c = spot_of p config c (position p config) refl e in
    let is : settings_at config spot.place ≡ c = get_or_from_slice_get config spot.place c _ spot.there in
    subst (λ (x : CatalogSettings). is_catalog x ≡ true) is
    (catalog_within config spot.place allowed (slice_get_within config spot.place c spot.there))

of_settings : (config : List CatalogSettings) (m : MemberOf) (ps : List Peer) (o : Option CatalogSettings)
    → IsAllowed config → settings_of config m.catalog ≡ o
    → option_map (λ c. primaries_in c (group_of c m.choice)) o ≡ Some ps → AreFew ps
of_settings config m ps None allowed e h = absurd (cc)
of_settings config m ps (Some c) allowed e h =
    let is : primaries_in c (group_of c m.choice) ≡ ps = cc in
    subst AreFew is (chosen_few c (found_catalog config m.catalog c allowed e) (group_of c m.choice)
    (λ k f. group_within c m.choice k f))

of_member : (config : List CatalogSettings) (ps : List Peer) (o : Option MemberOf) → IsAllowed config
    → option_and_then (primaries_of config) o ≡ Some ps → AreFew ps
of_member config ps None allowed h = absurd (cc)
of_member config ps (Some m) allowed h = of_settings config m ps (settings_of config m.catalog) allowed refl h

few_from : (s : State) → IsState s → (zone : Name) (ps : List Peer) (o : Option ℕ) → o ≡ catalog_at s zone
    → primaries_at s zone ≡ Some ps → AreFew ps
few_from s ok zone ps (Some number) e h =
    let some : Some (settings_at s.fold.config number).primaries ≡ Some ps =
    sym (primaries_catalog s zone number e) ∙ h in
    let is : (settings_at s.fold.config number).primaries ≡ ps = cc in
    let lt : number < length s.fold.config = within (λ c. same_name c.name zone) s.fold.config number e in
    subst AreFew is
    (own_few (settings_at s.fold.config number) (catalog_within s.fold.config number ok.fold.allowed lt))
few_from s ok zone ps None e h =
    of_member s.fold.config ps (member_at s zone) ok.fold.allowed (sym (primaries_member s zone e) ∙ h)

pub primaries_some : (s : State) → IsState s → (zone : Name) (ps : List Peer) → primaries_at s zone ≡ Some ps
    → (1 ≤ length ps) × (length ps ≤ 8)
primaries_some s ok zone ps h = let r = few_from s ok zone ps (catalog_at s zone) refl h in (r.some, r.few)

-- ---- the catalogs of members are configured
pub placed_opened : (config : List CatalogSettings) → IsPlacedIn (opened config)
placed_opened config = tt

placed_processed : (fold : FoldOf) (catalog : Name) (nodes : List Node) (position : ℕ) → IsSome
    (number_of fold.config catalog) → AllByRecursion (λ m. IsSome (number_of fold.config m.catalog)) fold.members
    → AllByRecursion (λ m. IsSome (number_of fold.config m.catalog)) (process fold catalog nodes position).members
placed_processed fold catalog nodes position some h =
    processed_all fold catalog position (λ m. IsSome (number_of fold.config m.catalog)) (λ m choice k. k)
    (λ m choice k. some) (λ n f. some) nodes h

some_number : (o : Option ℕ) (number : ℕ) → Some number ≡ o → IsSome o
some_number o number e = rw (← e) refl

pub placed_step : (s : State) (t : Taken) → IsPlacedIn s → IsPlacedIn (step s (Transfer t))
unfolding counted relisted process
placed_step s t h = step_by s t IsPlacedIn h (λ _ _ _. h) (λ _ _ _ _. h) (λ number _ nodes e _ _.
    placed_processed s.fold t.zone nodes s.count (some_number (catalog_at s t.zone) number e) h)

-- ---- each assigned zone has primaries
map_some : {X Y : Type 0} (f : X → Y) (o : Option X) → IsSome o → IsSome (option_map f o)
map_some f None h = absurd (cc)
map_some f (Some x) h = refl

there_of : (config : List CatalogSettings) (o : Option MemberOf) → IfSome o (λ m. IsSome (number_of config m.catalog))
    → IsSome (option_map (λ (m : MemberOf). m.incarnation) o) → IsSome (option_and_then (primaries_of config) o)
there_of config None k h = absurd (cc)
there_of config (Some m) k h =
    map_some (λ c. primaries_in c (group_of c m.choice)) (settings_of config m.catalog)
    (where_found (λ c. same_name c.name m.catalog) config (number_of config m.catalog) refl k)

there_from : (s : State) → IsPlacedIn s → (zone : Name) (o : Option ℕ) → o ≡ catalog_at s zone
    → IsSome (incarnation_at s zone) → IsSome (primaries_at s zone)
there_from s placed zone (Some number) e h = rw (primaries_catalog s zone number e) refl
there_from s placed zone None e h =
    rw (primaries_member s zone e)
    (there_of s.fold.config (member_at s zone)
    (found_all (λ m. IsSome (number_of s.fold.config m.catalog)) zone s.fold.members placed)
    (rw (incarnation_member s zone e) at h))

pub primaries_there : (s : State) → IsPlacedIn s → (zone : Name) → IsSome (incarnation_at s zone)
    → IsSome (primaries_at s zone)
primaries_there s placed zone h = there_from s placed zone (catalog_at s zone) refl h

-- a member of the same catalog and choice has the same primaries
pub primaries_kept : (s t : State) (m before : MemberOf) → s.fold.config ≡ t.fold.config → before.catalog ≡ m.catalog
    → before.choice ≡ m.choice → primaries_of s.fold.config before ≡ primaries_of t.fold.config m
primaries_kept s t m before e f g =
    λ i. option_map (λ (c : CatalogSettings). primaries_in c (group_of c (g i))) (settings_of (e i) (f i))
