-- Meaning: the program's exit codes.
use Rattle.std.specs.Prelude.{ℕ, Result, Ok, Err}
use Rattle.dz_desk.specs.declared.open.DeskError.{DeskError}
use Rattle.dz_desk.specs.declared.open.DeskError.TheVariants as desks
use Rattle.dz_run.specs.declared.status.Status.{Status}
use Rattle.dz_run.specs.declared.status.Status.TheVariants.{Done, Usage, BadInput, ReadFault, WriteFault, PortFault}
use Rattle.dz_run.specs.declared.status.Status.TheVariants.{NoMemory}

-- the exit code of a status
abbrev pub number_of : Status → ℕ
number_of Done = 0
number_of Usage = 2
number_of BadInput = 3
number_of ReadFault = 4
number_of WriteFault = 5
number_of PortFault = 6
number_of NoMemory = 7

-- the exit code of the program, of which there may have been no desk
abbrev pub exit_number : Result Status DeskError → ℕ
exit_number (Ok status) = number_of status
exit_number (Err desks.OutOfMemory) = 7
exit_number (Err desks.NoSeat) = 8
