-- The values of a member after a listing, by cases.
use Rattle.std.proofs.Common.{◌≡◌, ℕ, ◌+◌, ◌++◌, map, take, get_or, length, true, List, refl, sym, ◌∙◌, ap, subst}
use Rattle.std.proofs.Common.{arith, inl, inr, Some, None}
use Rattle.std.specs.Prelude.{◌==◌, slice_get, position}
use Rattle.std.proofs.lemmas.Option.{get_or_from_slice_get}
use Rattle.std.proofs.lemmas.Bool.{cases_Bool, eqb-true}
use Rattle.std.proofs.lemmas.Bool.Decides.{nat_tests}
use Rattle.dz_member.specs.Membership.{MemberOf}
use Rattle.dz_timer.specs.Values.{ValuesOf, fresh}
use Rattle.dz_name.specs.Words.{Name}
use Rattle.dz_name.specs.Name.{same_name}
use Rattle.dz_name.specs.Order.{same_decides}
use Rattle.dz_history.specs.State.{State, member_at, catalog_at}
use Rattle.dz_history.specs.Places.{place_at, IsApart}
use Rattle.dz_history.proofs.FindLemmas.{place_passes}
use Rattle.dz_history.proofs.PlaceLemmas.{place_member}
use Rattle.dz_fleet.proofs.RelistLemmas.{apart_there}
use Rattle.dz_fleet.specs.Values.{value_in, kept, carried_from, carried, relisted_values}

pub carried_new : (s : State) (values : List ValuesOf) (m : MemberOf) → member_at s m.zone ≡ None
    → carried s values m ≡ fresh
unfolding carried
carried_new s values m e = ap (carried_from s values m) e

pub carried_same : (s : State) (values : List ValuesOf) (m before : MemberOf) → member_at s m.zone ≡ Some before
    → before.incarnation ≡ m.incarnation → carried s values m ≡ kept (value_in values (place_at s m.zone)) before m
unfolding carried
carried_same s values m before e same = ap (carried_from s values m) e
    ∙ (let t : (before.incarnation == m.incarnation) ≡ true = grind (arith, nat_tests) in rw t refl)

pub carried_other : (s : State) (values : List ValuesOf) (m before : MemberOf) → member_at s m.zone ≡ Some before
    → (before.incarnation ≡ m.incarnation → ⊥) → carried s values m ≡ fresh
unfolding carried
carried_other s values m before e ne =
    ap (carried_from s values m) e ∙ elim (cases_Bool (before.incarnation == m.incarnation)) [
      | inl t ↦ absurd (ne (eqb-true before.incarnation m.incarnation t))
      | inr f ↦ rw f refl
    ]

pub relisted_is : (s : State) (values : List ValuesOf) (members : List MemberOf)
    → take (length s.fold.config) values ++ map (carried s values) members ≡ relisted_values s values members
unfolding relisted_values
relisted_is s values members = refl

-- the place of a zone that has this one among the members
pub member_place : (s : State) (zone : Name) (place : ℕ) (m : MemberOf) → IsApart s
    → Some place ≡ position (λ x. same_name x.zone zone) s.fold.members → slice_get s.fold.members place ≡ Some m
    → place_at s zone ≡ Some (length s.fold.config + place)
member_place s zone place m apart at there =
    let passes : same_name (get_or s.fold.members place m).zone zone ≡ true =
    place_passes (λ x. same_name x.zone zone) s.fold.members place m at in
    let is : get_or s.fold.members place m ≡ m = get_or_from_slice_get s.fold.members place m m there in
    let own : m.zone ≡ zone = (same_decides m.zone zone).0 (rw is at passes) in
    let none : catalog_at s zone ≡ None =
    subst (λ z. catalog_at s z ≡ None) own (apart_there s s.fold.members place m apart there) in
    rw (place_member s zone (sym none), ← at) refl
