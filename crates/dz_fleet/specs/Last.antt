-- Meaning: the last transfer of a list.
use Rattle.std.specs.Prelude.{◌<◌, ◌^◌, List, fold, Option, Some, None, IsSome}
use Rattle.dz_history.specs.declared.entry.Entry.{Entry}
use Rattle.dz_history.specs.declared.entry.Entry.TheVariants.{Setup, Transfer}
use Rattle.dz_history.specs.State.{State, incarnation_at, held_at}
use Rattle.dz_fleet.specs.declared.fleet.Last.{Last}

-- the last transfer after one more entry
abbrev pub last_in : Option Last → Entry → Option Last
last_in last (Setup config) = last
last_in last (Transfer taken) = Some (record { zone = taken.zone; moment = taken.moment })

-- the last transfer of a list
abbrev pub last_of : List Entry → Option Last
last_of list = fold last_in None list

-- the moment of the last transfer is below 2^40, and a version is held of its zone, which is a catalog or a member
pub record IsRefreshed (s : State) (last : Last) : Type 0 where
  pub moment : last.moment < 2 ^ 40
  pub begun : IsSome (incarnation_at s last.zone)
  pub held : IsSome (held_at s last.zone)
