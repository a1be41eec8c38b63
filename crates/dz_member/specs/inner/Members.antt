-- Inner: memberships in a map, each at its zone.
use Rattle.std.specs.Prelude.{◌≡◌, ⊤, List, [], Option, Some, None, map}
use Rattle.std.specs.List.{AllByRecursion}
use Rattle.std.specs.List.Sorted.{IsStrictlySortedBy}
use Rattle.dz_name.specs.Words.{Name}
use Rattle.dz_name.specs.Name.{canonical_order}
use Rattle.dz_member.specs.declared.membership.Membership.{Membership}

-- memberships, each preceded by its zone
abbrev pub entries_of : List Membership → List (Name × Membership)
entries_of ms = map (λ m. (m.zone, m)) ms

-- the memberships of entries
abbrev pub members_of : List (Name × Membership) → List Membership
members_of entries = map (λ e. e.1) entries

-- a membership at its own zone
abbrev pub IsOwn : Name × Membership → Type 0
IsOwn e = e.0 ≡ e.1.zone

-- where there is no first entry, there are none after it
abbrev pub AreBehind : Option (Name × Membership) → List (Name × Membership) → Type 0
AreBehind None behind = behind ≡ []
AreBehind (Some first) behind = ⊤

-- each membership is at its own zone, and they are in the canonical order of their zones
pub record AreMembers (entries : List (Name × Membership)) : Type 0 where
  pub own : AllByRecursion IsOwn entries
  pub order : IsStrictlySortedBy canonical_order (map (λ m. m.zone) (members_of entries))
