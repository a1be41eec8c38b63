-- What zones hold while they have their turns.
use Rattle.std.proofs.Common.{◌≡◌, ◌≢◌, ◌⊎◌, ℕ, zero, suc, ◌+◌, ◌-◌, ◌<◌, ◌≤◌, ◌^◌, Bool, true, false, List, [], ◌∷◌}
use Rattle.std.proofs.Common.{◌++◌, map, length, refl, sym, ◌∙◌, ap, subst, arith, inl, inr, Option, Some, None}
use Rattle.std.proofs.Common.{length-append}
use Rattle.std.specs.Prelude.{not, ◌&&◌, is_some, slice_get, slice_index_or, position, IsSome, IfSome, if◌then◌else◌}
use Rattle.std.specs.List.{AllByRecursion, find}
use Rattle.std.specs.Option.{option_map, option_map_or, option_and_then}
use Rattle.std.proofs.lemmas.Bool.{cases_Bool, cases_eq, cases_lt}
use Rattle.std.proofs.lemmas.Bool.Decides.{nat_tests}
use Rattle.std.proofs.lemmas.Option.{same_Some, slice_get_within}
use Rattle.dz_name.specs.Words.{Name}
use Rattle.dz_name.specs.Name.{same_name}
use Rattle.dz_name.specs.Order.{same_decides}
use Rattle.dz_zone.specs.Version.{Zone}
use Rattle.dz_outward.specs.Stream.{is_fit}
use Rattle.dz_take.specs.Transfer.{Decision, new}
use Rattle.dz_settings.specs.declared.config.Policy.{Policy}
use Rattle.dz_settings.specs.declared.key.Key.{Key}
use Rattle.dz_member.specs.Membership.{MemberOf, settings_at, key_of, policy_of}
use Rattle.dz_member.specs.Fold.{FoldOf, number_of, member_of}
use Rattle.dz_member.proofs.NumberLemmas.{number_names}
use Rattle.dz_member.proofs.SearchLemmas.{place_missing}
use Rattle.dz_table.specs.Slot.{SlotOf}
use Rattle.dz_table.specs.Table.{slot_of}
use Rattle.dz_history.specs.State.{State, IsState, catalog_at, member_at, incarnation_at, held_at, key_at, key_from}
use Rattle.dz_history.specs.State.{policy_at, policy_from, stands}
use Rattle.dz_history.specs.Places.{Seat, seats, place_at, IsApart, IsSeated}
use Rattle.dz_history.proofs.PlaceLemmas.{place_catalog, place_member, place_seat, place_there, some_place}
use Rattle.dz_history.proofs.StateLemmas.{held_member, key_catalog, policy_catalog}
use Rattle.dz_store.specs.Kept.{KeptZone}
use Rattle.dz_fleet.specs.Core.{is_accepted}
use Rattle.dz_fleet.proofs.WaitLemmas.{seat_stands}
use Rattle.dz_restore.specs.Restoring.{Home, home_from, home_at, is_home}
use Rattle.dz_restore.specs.Laws.{HasKeptMoments}

-- ---- what a zone is to hold
abbrev pub hold_by : Option Home → Option Key → Option Policy → Option KeptZone → Option Zone
hold_by home key policy None = None
hold_by home key policy (Some k) =
    if option_map_or (is_home k) home false
    && (not (is_some key) && (is_fit k.version && is_accepted policy k.version)) then Some k.version else None

abbrev pub to_hold : State → Name → Option KeptZone → Option Zone
to_hold s zone tale = hold_by (home_at s zone) (key_at s zone) (policy_at s zone) tale

-- it hangs on the fold alone, and at a catalog on the configuration alone
home_same : (a b : State) (zone : Name) (o : Option ℕ) → a.fold ≡ b.fold → home_from a zone o ≡ home_from b zone o
home_same a b zone (Some number) e = refl
home_same a b zone None e = ap (λ (f : FoldOf).
    option_map (λ (m : MemberOf). record { catalog = m.catalog; label = Some m.label }) (member_of zone f.members)) e

home_by_fold : (a b : State) (zone : Name) → a.fold ≡ b.fold → home_at a zone ≡ home_at b zone
unfolding home_at
home_by_fold a b zone e = ap (λ (f : FoldOf). home_from a zone (number_of f.config zone)) e
    ∙ home_same a b zone (catalog_at b zone) e

key_same : (a b : State) (zone : Name) (o : Option ℕ) → a.fold ≡ b.fold → key_from a zone o ≡ key_from b zone o
key_same a b zone (Some number) e = ap (λ (f : FoldOf). (settings_at f.config number).key) e
key_same a b zone None e = ap (λ (f : FoldOf). option_and_then (key_of f.config) (member_of zone f.members)) e

key_by_fold : (a b : State) (zone : Name) → a.fold ≡ b.fold → key_at a zone ≡ key_at b zone
unfolding key_at
key_by_fold a b zone e = ap (λ (f : FoldOf). key_from a zone (number_of f.config zone)) e
    ∙ key_same a b zone (catalog_at b zone) e

policy_same : (a b : State) (zone : Name) (o : Option ℕ) → a.fold ≡ b.fold
    → policy_from a zone o ≡ policy_from b zone o
policy_same a b zone (Some number) e = ap (λ (f : FoldOf). Some (settings_at f.config number).policy) e
policy_same a b zone None e = ap (λ (f : FoldOf). option_and_then (policy_of f.config) (member_of zone f.members)) e

policy_by_fold : (a b : State) (zone : Name) → a.fold ≡ b.fold → policy_at a zone ≡ policy_at b zone
unfolding policy_at
policy_by_fold a b zone e = ap (λ (f : FoldOf). policy_from a zone (number_of f.config zone)) e
    ∙ policy_same a b zone (catalog_at b zone) e

pub to_hold_by_fold : (a b : State) (zone : Name) (tale : Option KeptZone) → a.fold ≡ b.fold
    → to_hold a zone tale ≡ to_hold b zone tale
to_hold_by_fold a b zone tale e = rw (home_by_fold a b zone e, key_by_fold a b zone e, policy_by_fold a b zone e) refl

home_catalog : (s : State) (zone : Name) (number : ℕ) → Some number ≡ catalog_at s zone
    → home_at s zone ≡ Some (record { catalog = zone; label = None })
unfolding home_at
home_catalog s zone number e = ap (home_from s zone) (sym e)

pub to_hold_by_config : (a b : State) (zone : Name) (number : ℕ) (tale : Option KeptZone)
    → a.fold.config ≡ b.fold.config → Some number ≡ catalog_at a zone → to_hold a zone tale ≡ to_hold b zone tale
to_hold_by_config a b zone number tale e at =
    let there : Some number ≡ catalog_at b zone = at ∙ ap (λ config. number_of config zone) e in
    let home : home_at a zone ≡ home_at b zone =
    home_catalog a zone number at ∙ sym (home_catalog b zone number there) in
    let key : key_at a zone ≡ key_at b zone =
    key_catalog a zone number at ∙ ap (λ config. (settings_at config number).key) e
    ∙ sym (key_catalog b zone number there) in
    let policy : policy_at a zone ≡ policy_at b zone =
    policy_catalog a zone number at ∙ ap (λ config. Some (settings_at config number).policy) e
    ∙ sym (policy_catalog b zone number there) in
    rw (home, key, policy) refl

-- ---- places
the_one : (o : Option ℕ) → IsSome o → (i : ℕ) × (o ≡ Some i)
the_one None some = absurd (cc)
the_one (Some i) some = (i, refl)

-- the incarnation of a zone that has a place
pub placed : (s : State) (zone : Name) (p : ℕ) → place_at s zone ≡ Some p → (i : ℕ) × (stands s zone i ≡ true)
placed s zone p at =
    let some : IsSome (incarnation_at s zone) = some_place s zone (rw at refl) in
    let one = the_one (incarnation_at s zone) some in
    (one.0, seat_stands s (record { zone = zone; incarnation = one.0 }) one.1)

pub one_zone : (s : State) (zone : Name) (p : ℕ) (seat : Seat) → place_at s zone ≡ Some p
    → slice_get (seats s) p ≡ Some seat → zone ≡ seat.zone
one_zone s zone p seat at there =
    let up = placed s zone p at in
    let seated = place_there s zone up.0 up.1 in
    let same : seated.place ≡ p = same_Some seated.place p (sym seated.at ∙ at) in
    let one : Some (record { zone = zone; incarnation = up.0 }) ≡ Some seat =
    sym seated.there ∙ ap (λ n. slice_get (seats s) n) same ∙ there in
    ap (λ (x : Seat). x.zone) (same_Some _ seat one)

-- of a catalog it is its number, and of a member it is after those of all catalogs
pub number_within : (s : State) (zone : Name) (number : ℕ) → Some number ≡ catalog_at s zone
    → number < length s.fold.config
number_within s zone number e = (number_names s.fold.config zone number (sym e)).within

member_after : (n p : ℕ) (o : Option ℕ) → option_map (λ place. n + place) o ≡ Some p → n ≤ p
member_after n p None e = absurd (cc)
member_after n p (Some k) e = let same : n + k ≡ p = same_Some (n + k) p e in omega (arith, same)

pub after_catalogs : (s : State) (zone : Name) (p : ℕ) → None ≡ catalog_at s zone → place_at s zone ≡ Some p
    → length s.fold.config ≤ p
after_catalogs s zone p none at = member_after (length s.fold.config) p
    (position (λ m. same_name m.zone zone) s.fold.members) (sym (place_member s zone none) ∙ at)

-- ---- a zone without a place holds nothing
zones_none : (zone : Name) (slots : List SlotOf) (ms : List MemberOf)
    → map (λ slot. slot.zone) slots ≡ map (λ m. m.zone) ms → None ≡ member_of zone ms → slot_of zone slots ≡ None
zones_none zone [] ms same none = refl
zones_none zone (x ∷ xs) [] same none = absurd (cc)
zones_none zone (x ∷ xs) (m ∷ ms) same none =
    let first : x.zone ≡ m.zone = cc in
    let rest : map (λ (slot : SlotOf). slot.zone) xs ≡ map (λ (n : MemberOf). n.zone) ms = cc in
    elim (cases_Bool (same_name m.zone zone)) [
      | inl t ↦ absurd (let e : None ≡ Some m = rw t at none in cc)
      | inr f ↦ (
          let other : same_name x.zone zone ≡ false = ap (λ z. same_name z zone) first ∙ f in
          let later : None ≡ member_of zone ms = rw f at none in
          rw other (zones_none zone xs ms rest later)
          )
    ]

no_place : (n : ℕ) (o : Option ℕ) → option_map (λ place. n + place) o ≡ None → o ≡ None
no_place n None e = refl
no_place n (Some k) e = absurd (cc)

unplaced_from : (s : State) (zone : Name) (o : Option ℕ) → o ≡ catalog_at s zone → IsState s → place_at s zone ≡ None
    → held_at s zone ≡ None
unplaced_from s zone (Some number) e ok at =
    absurd (let both : Some number ≡ None = sym (place_catalog s zone number e) ∙ at in cc)
unplaced_from s zone None e ok at =
    let none = no_place (length s.fold.config) (position (λ m. same_name m.zone zone) s.fold.members)
    (sym (place_member s zone e) ∙ at) in
    let slot = zones_none zone s.table s.fold.members ok.members
    (place_missing (λ m. same_name m.zone zone) s.fold.members none) in
    held_member s zone e ∙ ap (option_and_then (λ (x : SlotOf). x.version)) slot

pub unplaced : (s : State) (zone : Name) → IsState s → place_at s zone ≡ None → held_at s zone ≡ None
unplaced s zone ok at = unplaced_from s zone (catalog_at s zone) refl ok at

-- ---- what zones hold once the given number of them have had their turns
pub record Holds (s : State) (keeps : Name → Option KeptZone) (count : ℕ) : Type 0 where
  pub front : (zone : Name) (p : ℕ) → place_at s zone ≡ Some p → p < count
      → held_at s zone ≡ to_hold s zone (keeps zone)
  pub rest : (zone : Name) (p : ℕ) → place_at s zone ≡ Some p → count ≤ p → held_at s zone ≡ None
  pub moments : HasKeptMoments s keeps

-- the zone whose turn it is holds none and is to hold none
pub stays : (s : State) (keeps : Name → Option KeptZone) (count : ℕ) (seat : Seat)
    → slice_get (seats s) count ≡ Some seat → to_hold s seat.zone (keeps seat.zone) ≡ None
    → Holds s keeps count → Holds s keeps (count + 1)
stays s keeps count seat there none holds = record {
  front = λ zone p at lt. elim (cases_eq p count) [
    | inl same ↦ (
        let one : zone ≡ seat.zone = one_zone s zone p seat at (ap (λ n. slice_get (seats s) n) same ∙ there) in
        let nothing : to_hold s zone (keeps zone) ≡ None = subst (λ z. to_hold s z (keeps z) ≡ None) (sym one) none in
        holds.rest zone p at (omega (arith, same)) ∙ sym nothing
        )
    | inr other ↦ holds.front zone p at (omega (arith, other, lt))
  ];
  rest = λ zone p at le. holds.rest zone p at (omega (arith, le));
  moments = holds.moments;
}
