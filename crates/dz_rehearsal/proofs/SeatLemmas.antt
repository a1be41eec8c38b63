-- A core in which the script's zones are the members: their places, memberships, policies, primaries and keys.
use Rattle.std.proofs.Common.{◌≡◌, ℕ, zero, suc, ◌+◌, ◌<◌, ◌≤◌, Bool, true, List, ◌++◌, length, map, Option, Some}
use Rattle.std.proofs.Common.{None, refl, sym, ap, subst, ◌∙◌, arith, inl, inr, eqb-true}
use Rattle.std.specs.Option.{option_map, option_map_or, option_and_then}
use Rattle.std.specs.Prelude.{codes, position, slice_get, ◌==◌, if◌then◌else◌}
use Rattle.std.specs.Str.{bytes_eq}
use Rattle.std.proofs.lemmas.Bool.{cases_Bool}
use Rattle.std.proofs.lemmas.List.FromFn.{length-map-range_with_len, get_or-map-range_with_len}
use Rattle.std.proofs.lemmas.Option.{slice_get-get_or, slice_get-map, slice_get_within}
use Rattle.dz_name.specs.Words.{Name, Octets}
use Rattle.dz_name.specs.Name.{same_name}
use Rattle.dz_zone.specs.Version.{Zone}
use Rattle.dz_settings.specs.declared.config.Policy.TheVariants.{Present, Require}
use Rattle.dz_settings.specs.declared.config.CatalogSettings.{CatalogSettings}
use Rattle.dz_member.specs.declared.listing.Node.{Node}
use Rattle.dz_member.specs.Membership as membership
use Rattle.dz_member.specs.Membership.{MemberOf, settings_at, settings_of, key_of, policy_of}
use Rattle.dz_member.specs.Fold.{FoldOf, number_of}
use Rattle.dz_member.proofs.SearchLemmas.{place_found}
use Rattle.dz_timer.specs.Values.{ValuesOf}
use Rattle.dz_history.specs.declared.entry.Entry.{Entry}
use Rattle.dz_history.specs.State.{State, IsState, catalog_at, member_at, held_at, stands, policy_at, key_at, key_from}
use Rattle.dz_history.specs.After.{after}
use Rattle.dz_history.specs.Legal.{IsLegal}
use Rattle.dz_history.specs.Places.{catalog_seat, member_seat, seats, place_at, IsApart}
use Rattle.dz_history.proofs.OwnLemmas.{records_own}
use Rattle.dz_history.proofs.PlaceLemmas.{place_seat, place_member, seats_size}
use Rattle.dz_history.proofs.StateLemmas.{policy_member, primaries_member}
use Rattle.dz_fleet.specs.Core.{Core, state_of, primaries_of}
use Rattle.dz_fleet.proofs.FlyingLemmas.{all_at}
use Rattle.dz_fleet.proofs.WaitLemmas.{seat_stands}
use Rattle.dz_gen.specs.Records.{zone}
use Rattle.dz_gen.specs.Reading.{cat_test}
use Rattle.dz_gen.specs.Script.{numbers}
use Rattle.dz_rehearsal.specs.Life.{config, member_of, reset_member, member_after}
use Rattle.dz_rehearsal.proofs.LifeLemmas.{Life}

-- ---- the configuration
-- there is no key
settings_keyless : (number : ℕ) → (settings_at config number).key ≡ None
settings_keyless zero = refl
settings_keyless (suc number) = refl

member_keyless : (m : MemberOf) → key_of config m ≡ None
member_keyless m = elim (cases_Bool (same_name cat_test m.catalog)) [ inl t ↦ rw t refl | inr f ↦ rw f refl ]

either_keyless : (o : Option MemberOf) → option_and_then (key_of config) o ≡ None
either_keyless None = refl
either_keyless (Some m) = member_keyless m

pub no_key : (s : State) (name : Name) → s.fold.config ≡ config → key_at s name ≡ None
unfolding key_at
no_key s name is = go (catalog_at s name)
  where
    go : (o : Option ℕ) → key_from s name o ≡ None
    go (Some number) = ap (λ (cs : List CatalogSettings). (settings_at cs number).key) is ∙ settings_keyless number
    go None = ap (λ (cs : List CatalogSettings). option_and_then (key_of cs) (member_at s name)) is
        ∙ either_keyless (member_at s name)

-- each has one primary
group_one : (choice : Option Octets) →
    length (membership.primaries_in (settings_at config 0) (membership.group_of (settings_at config 0) choice)) ≡ 1
group_one None = refl
group_one (Some word) = elim (cases_Bool (bytes_eq (codes "strict") word)) [ inl t ↦ rw t refl | inr f ↦ rw f refl ]

config_one : (m : MemberOf) → option_map_or (λ ps. length ps) (membership.primaries_of config m) 1 ≡ 1
config_one m = elim (cases_Bool (same_name cat_test m.catalog)) [
  | inl t ↦ rw t
      (group_one m.choice)
  | inr f ↦ rw f refl
]

-- a member's policy is that of its group, or the catalog's
pub policy_none : (m : MemberOf) → m.catalog ≡ cat_test → m.choice ≡ None → policy_of config m ≡ Some Present
policy_none m at choice = ap (λ name. option_map
    (λ (cs : CatalogSettings). membership.policy_in cs (membership.group_of cs m.choice)) (settings_of config name)) at
    ∙ ap (λ o. Some (membership.policy_in (settings_at config 0) (membership.group_of (settings_at config 0) o)))
    choice

pub policy_strict : (m : MemberOf) → m.catalog ≡ cat_test → m.choice ≡ Some (codes "strict")
    → policy_of config m ≡ Some Require
policy_strict m at choice = ap (λ name. option_map
    (λ (cs : CatalogSettings). membership.policy_in cs (membership.group_of cs m.choice)) (settings_of config name)) at
    ∙ ap (λ o. Some (membership.policy_in (settings_at config 0) (membership.group_of (settings_at config 0) o)))
    choice

either_one : (o : Option MemberOf) → option_map_or (λ ps. length ps)
    (option_and_then (membership.primaries_of config) o) 1 ≡ 1
either_one None = refl
either_one (Some m) = config_one m

pub one_primary : (s : State) (name : Name) → s.fold.config ≡ config → None ≡ catalog_at s name
    → primaries_of s name ≡ 1
one_primary s name is apart =
    ap (λ o. option_map_or (λ ps. length ps) o 1) (primaries_member s name apart)
    ∙ ap (λ (cs : List CatalogSettings). option_map_or (λ ps. length ps)
    (option_and_then (membership.primaries_of cs) (member_at s name)) 1) is
    ∙ either_one (member_at s name)

-- ---- places
-- the members of a state are the n zones, in their order
pub record HasSeats (n : ℕ) (member : ℕ → MemberOf) (s : State) : Type 0 where
  pub state : IsState s
  pub apart : IsApart s
  pub config_is : s.fold.config ≡ config
  pub members_are : s.fold.members ≡ map member (numbers n)
  pub named : (i : ℕ) → (member i).zone ≡ zone i

-- the memberships of the script are of their zones
pub first_named : (i : ℕ) → (member_of i).zone ≡ zone i
first_named i = refl

pub after_named : (position i : ℕ) → (member_after position i).zone ≡ zone i
after_named position i = elim (cases_Bool (i == 1)) [
  | inl t ↦ ap (λ b. (if b then reset_member position else member_of i).zone) t ∙ ap zone (sym (eqb-true i 1 t))
  | inr f ↦ ap (λ b. (if b then reset_member position else member_of i).zone) f
]

-- so it is in each core that `Life` describes
pub seats_of : (n : ℕ) (member : ℕ → MemberOf) (nodes : List Node) (own : Zone) (first : ValuesOf)
    (hold : ℕ → Option Zone) (value : ℕ → ValuesOf) (tickets : ℕ) (c : Core)
    → Life n member nodes own first hold value tickets c → ((i : ℕ) → (member i).zone ≡ zone i)
    → HasSeats n member (state_of c)
seats_of n member nodes own first hold value tickets c life named = record {
  state = life.well.state;
  apart = life.well.apart;
  config_is = ap (λ (f : FoldOf). f.config) life.fold;
  members_are = ap (λ (f : FoldOf). f.members) life.fold;
  named = named;
}

-- the membership of zone j + 1 is at place j
pub member_there : (n : ℕ) (member : ℕ → MemberOf) (j : ℕ) → j < n
    → slice_get (map member (numbers n)) j ≡ Some (member (suc j))
member_there n member j lt =
    slice_get-get_or (map member (numbers n)) j (member (suc j))
    (omega (arith, lt, length-map-range_with_len member 1 n))
    ∙ ap Some (get_or-map-range_with_len member 1 n j (suc j) (member (suc j)) lt (omega arith))

module _ (n : ℕ) (member : ℕ → MemberOf) (s : State) (has : HasSeats n member s) where
  -- one seat for the catalog and one for each zone
  pub seat_count : length (seats s) ≡ n + 1
  seat_count =
      omega (
        arith,
        seats_size s,
        ap (λ cs. length cs) has.config_is,
        ap (λ ms. length ms) has.members_are,
        length-map-range_with_len member 1 n,
      )

  -- zone k's seat is after that of the catalog
  pub seat_there : (k : ℕ) → 0 < k → k ≤ n → slice_get (seats s) k ≡ Some (member_seat (member k))
  seat_there zero some few = absurd (omega arith)
  seat_there (suc j) some few =
      ap (λ cs. slice_get (map catalog_seat cs ++ map member_seat s.fold.members) (suc j)) has.config_is
      ∙ slice_get-map member_seat s.fold.members j
      ∙ ap (λ ms. option_map member_seat (slice_get ms j)) has.members_are
      ∙ ap (option_map member_seat) (member_there n member j (omega arith))

  pub place_is : (k : ℕ) → 0 < k → k ≤ n → place_at s (zone k) ≡ Some k
  place_is k some few =
      subst (λ z. place_at s z ≡ Some k) (has.named k)
      (place_seat s has.state has.apart k (member_seat (member k)) (seat_there k some few)).0

  pub stood : (k : ℕ) → 0 < k → k ≤ n → stands s (zone k) (member k).incarnation ≡ true
  stood k some few =
      subst (λ z. stands s z (member k).incarnation ≡ true) (has.named k)
      (seat_stands s (member_seat (member k))
      (place_seat s has.state has.apart k (member_seat (member k)) (seat_there k some few)).1)

  -- no zone is a catalog
  pub apart_is : (k : ℕ) → 0 < k → k ≤ n → None ≡ catalog_at s (zone k)
  apart_is zero some few = absurd (omega arith)
  apart_is (suc j) some few =
      sym (subst (λ z. number_of s.fold.config z ≡ None) (has.named (suc j))
      (all_at (λ m. number_of s.fold.config m.zone ≡ None) s.fold.members j (member (suc j)) has.apart
      (ap (λ ms. slice_get ms j) has.members_are ∙ member_there n member j (omega arith))))

  -- zones of two numbers are different
  pub other_zone : (i k : ℕ) → 0 < i → i ≤ n → 0 < k → k ≤ n → (i ≡ k → ⊥) → zone i ≡ zone k → ⊥
  other_zone i k some few also low other same =
      let both : Some i ≡ Some k = sym (place_is i some few) ∙ ap (place_at s) same ∙ place_is k also low in
      let is : i ≡ k = cc in other is

  -- ---- its membership
  position_from : (o : Option ℕ) (j : ℕ) → option_map (λ place. length s.fold.config + place) o ≡ Some (suc j)
      → o ≡ Some j
  position_from None j e = absurd (cc)
  position_from (Some place) j e =
      let same : length s.fold.config + place ≡ suc j = cc in
      ap Some (let is : place ≡ j = omega (arith, same, ap (λ cs. length cs) has.config_is) in is)

  -- the membership of zone k is found by its name
  pub member_is : (k : ℕ) → 0 < k → k ≤ n → member_at s (zone k) ≡ Some (member k)
  member_is zero some few = absurd (omega arith)
  member_is (suc j) some few =
      let p : MemberOf → Bool = λ m. same_name m.zone (zone (suc j)) in
      let at : position p s.fold.members ≡ Some j = position_from (position p s.fold.members) j
      (sym (place_member s (zone (suc j)) (apart_is (suc j) some few)) ∙ place_is (suc j) some few) in
      sym (place_found p s.fold.members j (member (suc j)) at
      (ap (λ ms. slice_get ms j) has.members_are ∙ member_there n member j (omega arith)))

  -- its policy is that of its membership
  pub policy_for : (k : ℕ) → 0 < k → k ≤ n → policy_at s (zone k) ≡ policy_of config (member k)
  policy_for k some few =
      policy_member s (zone k) (apart_is k some few)
      ∙ ap (λ o. option_and_then (policy_of s.fold.config) o) (member_is k some few)
      ∙ ap (λ (cs : List CatalogSettings). policy_of cs (member k)) has.config_is

-- ---- a member that began by the last entry holds nothing
none_held : (o : Option Zone) → ((version : Zone) → o ≡ Some version → ⊥) → o ≡ None
none_held None never = refl
none_held (Some version) never = absurd (never version refl)

pub begun_empty : (es : List Entry) (m : MemberOf) → IsLegal es → member_at (after es) m.zone ≡ Some m
    → length es ≤ m.incarnation + 1 → held_at (after es) m.zone ≡ None
begun_empty es m legal is last =
    none_held (held_at (after es) m.zone) (λ version has.
    let came = records_own es m version legal is has in
    omega (arith, came.behind, slice_get_within es came.place _ came.there, last))
