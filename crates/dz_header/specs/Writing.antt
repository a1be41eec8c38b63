-- Meaning: octets that are written up to a limit, and the room that they are in.
use Rattle.std.specs.Prelude.{ℕ, ◌+◌, ◌-◌, nat_le, [], ◌++◌, length, take, drop, Option, Some, None, if◌then◌else◌}
use Rattle.std.specs.Prelude.{option_map}
use Rattle.std.specs.Option.{option_map_or}
use Rattle.dz_name.specs.Words.{Octets}

-- a limit, and what was written; none once more was to be written than the limit allows
pub record Writing : Type 0 where
  pub limit : ℕ
  pub octets : Option Octets

-- nothing written, with this limit
abbrev pub empty : ℕ → Writing
empty limit = record { limit = limit; octets = Some [] }

-- these octets written, with this limit
abbrev pub writing_of : ℕ → Octets → Writing
writing_of limit octets = record { limit = limit; octets = Some octets }

-- what was written followed by more octets, where there is room for all of them
unfoldable pub octets_with : ℕ → Option Octets → Octets → Option Octets
octets_with limit None more = None
octets_with limit (Some octets) more =
    if nat_le (length more) (limit - length octets) then Some (octets ++ more) else None

-- the writing after more octets are written
unfoldable pub also : Writing → Octets → Writing
also w more = record { limit = w.limit; octets = octets_with w.limit w.octets more }

-- how many more octets may be written
abbrev pub left : Writing → ℕ
left w = option_map_or (λ octets. w.limit - length octets) w.octets 0

-- the writing once more was to be written than the limit allows
abbrev pub over : Writing → Writing
over w = record { limit = w.limit; octets = None }

-- octets of which those from an offset on are replaced by as many others
unfoldable pub changed : ℕ → Octets → Octets → Octets
changed at new old = take at old ++ (new ++ drop (at + length new) old)

-- the writing with the octets from an offset on replaced
abbrev pub with_changed : ℕ → Octets → Writing → Writing
with_changed at new w = record { limit = w.limit; octets = option_map (changed at new) w.octets }

-- a list whose first items are replaced by others; it keeps its length
abbrev pub replacement : Octets → Octets → Octets
replacement old new = take (length old) (new ++ drop (length new) old)

-- the room begins with what is written, followed by what was there before
abbrev pub room_with : Octets → Option Octets → Octets
room_with room None = room
room_with room (Some octets) = replacement room octets

-- what is written, and all octets of the room, which begins with it
pub record WriterState : Type 0 where
  pub writing : Writing
  pub room : Octets

-- other octets fill the room from its beginning, and nothing is written
abbrev pub with_room : WriterState → Octets → WriterState
with_room state octets = record { writing = empty 0; room = replacement state.room octets }
