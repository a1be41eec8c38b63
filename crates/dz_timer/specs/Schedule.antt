-- Meaning: the first zone that is due.
use Rattle.std.specs.Prelude.{Bool, not, ◌&&◌, nat_lt, List}
use Rattle.std.specs.List.{list_any}
use Rattle.dz_timer.specs.Values.{ValuesOf}

-- the zone has no job in flight, and waits for an earlier moment
abbrev pub is_earlier : ValuesOf → ValuesOf → Bool
is_earlier other values = not other.timing.busy && nat_lt other.timing.next values.timing.next

-- the zone has no job in flight, and no zone without one waits for an earlier moment
abbrev pub is_first : List ValuesOf → ValuesOf → Bool
is_first zones values = not values.timing.busy && not (list_any (λ other. is_earlier other values) zones)
