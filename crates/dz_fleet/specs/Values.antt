-- Meaning: what zones wait for, by their places (RFC 1035 section 3.3.13, RFC 9432 section 5).
use Rattle.std.specs.Prelude.{ℕ, ◌==◌, ◌&&◌, Bool, List, ◌++◌, length, map, take, slice_set, slice_index_or, Option}
use Rattle.std.specs.Prelude.{Some, None, if◌then◌else◌}
use Rattle.std.specs.Option.{option_map_or, option_eq}
use Rattle.std.specs.Str.{bytes_eq}
use Rattle.dz_name.specs.Name.{same_name}
use Rattle.dz_member.specs.Membership.{MemberOf}
use Rattle.dz_history.specs.declared.aftermath.Aftermath.{Aftermath}
use Rattle.dz_history.specs.declared.aftermath.Aftermath.TheVariants.{Member, Broken, Changes}
use Rattle.dz_history.specs.State.{State, member_at}
use Rattle.dz_history.specs.Places.{place_at}
use Rattle.dz_timer.specs.Values.{ValuesOf, fresh, turned_back}

-- the values at a place; a zone without values begins
abbrev pub value_at : List ValuesOf → ℕ → ValuesOf
value_at values place = slice_index_or values place fresh

-- the values of the zone that has this place; a zone without one begins
abbrev pub value_in : List ValuesOf → Option ℕ → ValuesOf
value_in values place = option_map_or (value_at values) place fresh

-- the values, with those at a place changed
abbrev pub changed : List ValuesOf → Option ℕ → (ValuesOf → ValuesOf) → List ValuesOf
changed values None f = values
changed values (Some place) f = slice_set values place (f (value_at values place))

-- a member is of the same catalog and the same group as before, so its primaries are the same
abbrev pub same_primaries : MemberOf → MemberOf → Bool
same_primaries before m = same_name before.catalog m.catalog && option_eq bytes_eq before.choice m.choice

-- the values of a member that stays: where its primaries are others, the first one is asked next
abbrev pub kept : ValuesOf → MemberOf → MemberOf → ValuesOf
kept v before m = if same_primaries before m then v else turned_back v

-- the values of a member that was this one before, or none: those of its incarnation, or those of a zone that begins
abbrev pub carried_from : State → List ValuesOf → MemberOf → Option MemberOf → ValuesOf
carried_from s values m (Some before) =
    if before.incarnation == m.incarnation then kept (value_in values (place_at s m.zone)) before m else fresh
carried_from s values m None = fresh

-- the values of a member after a listing
unfoldable pub carried : State → List ValuesOf → MemberOf → ValuesOf
carried s values m = carried_from s values m (member_at s m.zone)

-- the values after a listing: catalogs keep theirs, and the members' are carried
unfoldable pub relisted_values : State → List ValuesOf → List MemberOf → List ValuesOf
relisted_values s values members = take (length s.fold.config) values ++ map (carried s values) members

-- the values after an entry, by what it changes beyond its own zone
abbrev pub values_after : State → List ValuesOf → Aftermath → List MemberOf → List ValuesOf
values_after s values (Changes changes) members = relisted_values s values members
values_after s values Member members = values
values_after s values (Broken reason) members = values
