-- Inner: members before and after a listing, from one changed zone to the next.
use Rattle.std.specs.Prelude.{⊤, ◌≡◌, ℕ, ◌+◌, ◌^◌, ◌<◌, ◌≤◌, Bool, true, false, not, List, ◌++◌, length, map, take}
use Rattle.std.specs.Prelude.{drop, slice_get, Option, None, if◌then◌else◌}
use Rattle.std.specs.Option.{option_map_or}
use Rattle.std.specs.Ordering.{is_lt}
use Rattle.std.specs.List.{find, list_any, prefix_len, AllByRecursion}
use Rattle.std.specs.List.Sorted.{IsStrictlySortedBy}
use Rattle.dz_name.specs.Words.{Name}
use Rattle.dz_name.specs.Name.{same_name, canonical_order}
use Rattle.dz_member.specs.declared.change.What.{What}
use Rattle.dz_member.specs.declared.change.What.TheVariants.{Added, Removed}
use Rattle.dz_member.specs.declared.change.Change.{Change}
use Rattle.dz_member.specs.Membership.{MemberOf}
use Rattle.dz_member.specs.Fold.{member_of}
use Rattle.dz_timer.specs.Values.{ValuesOf}
use Rattle.dz_history.specs.declared.aftermath.Aftermath.{Aftermath}
use Rattle.dz_history.specs.declared.aftermath.Aftermath.TheVariants.{Member, Broken, Changes}
use Rattle.dz_history.specs.State.{State}
use Rattle.dz_history.specs.Places.{seats, IsApart}
use Rattle.dz_fleet.specs.Values.{relisted_values}

-- what is assigned and held before a listing, what each zone waits for then, and the members after the listing
pub record RelistingOf : Type 0 where
  pub state : State
  pub values : List ValuesOf
  pub members : List MemberOf

-- no member before the listing is a catalog, there are values for each place, and members after it are few enough to be
-- counted
pub record IsRelisting (s : State) (values : List ValuesOf) (members : List MemberOf) : Type 0 where
  pub apart : IsApart s
  pub sized : length values ≡ length (seats s)
  pub few : length members < 2 ^ 64

-- the change of a zone
abbrev pub change_of : Name → List Change → Option Change
change_of zone changes = find (λ c. same_name c.zone zone) changes

-- members before and after a listing and its changes, each in canonical order: a zone without a change has the member
-- that it had
pub record AreRelisted (before after : List MemberOf) (changes : List Change) : Type 0 where
  pub rose : IsStrictlySortedBy canonical_order (map (λ m. m.zone) before)
  pub rises : IsStrictlySortedBy canonical_order (map (λ m. m.zone) after)
  pub order : IsStrictlySortedBy canonical_order (map (λ c. c.zone) changes)
  pub stays : (zone : Name) → change_of zone changes ≡ None → member_of zone after ≡ member_of zone before

-- a zone becomes a member, or ceases to be one
abbrev pub is_entry : What → Bool
is_entry (Added catalog) = true
is_entry (Removed catalog) = true
is_entry what = false

-- no zone becomes a member and none ceases to be one
abbrev pub keeps_places : List Change → Bool
keeps_places changes = not (list_any (λ c. is_entry c.what) changes)

-- the same zones are members before and after a listing
abbrev pub AreSameZones : List MemberOf → List MemberOf → Type 0
AreSameZones before after = map (λ m. m.zone) after ≡ map (λ m. m.zone) before

-- what a listing changes of the members
pub record AreListed (before after : List MemberOf) (changes : List Change) : Type 0 where
  pub members : AreRelisted before after changes
  pub zones : keeps_places changes ≡ true → AreSameZones before after

-- the same, where a listing was processed
abbrev pub IsListed : State → State → Aftermath → Type 0
IsListed s t (Changes changes) = AreListed s.fold.members t.fold.members changes
IsListed s t Member = ⊤
IsListed s t (Broken reason) = ⊤

-- how many members come before a zone
abbrev pub count_before : Name → List MemberOf → ℕ
count_before zone members = prefix_len (λ m. is_lt (canonical_order m.zone zone)) members

-- the member at a place is of this zone
abbrev pub is_at : Name → List MemberOf → ℕ → Bool
is_at zone members place = option_map_or (λ m. same_name m.zone zone) (slice_get members place) false

-- the place behind a zone: the next one, where the member at this place is of the zone, and otherwise this one
abbrev pub next_place : Name → List MemberOf → ℕ → ℕ
next_place zone members place = if is_at zone members place then place + 1 else place

-- so many members before a listing, and after it, are behind: these changes make of the others before it those after it
pub record AreBehind (before after : List MemberOf) (changes : List Change) (left made : ℕ) : Type 0 where
  pub rose : IsStrictlySortedBy canonical_order (map (λ m. m.zone) before)
  pub within : left ≤ length before
  pub inside : made ≤ length after
  pub ahead : AreRelisted (drop left before) (drop made after) changes
  pub past : AllByRecursion (λ c. left ≤ count_before c.zone before) changes

-- what each zone waits for, where so many members have the values after a listing, and the others those before it
abbrev pub half_made : RelistingOf → ℕ → List ValuesOf
half_made r count =
    take (length r.state.fold.config + count) (relisted_values r.state r.values r.members)
    ++ drop (length r.state.fold.config + count) r.values
