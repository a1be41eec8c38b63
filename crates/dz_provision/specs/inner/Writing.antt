-- Inner: what a write to the log leaves, and what a call answers by it.
use Rattle.std.specs.Prelude.{◌≡◌, ◌≤◌, ℕ, Bool, true, Option, Result, Ok, Err}
use Rattle.dz_io.specs.Counts.{HasRisen}
use Rattle.dz_io.specs.Device.{Gains, GainsPrefix}
use Rattle.dz_name.specs.Words.{Octets}
use Rattle.dz_provision.specs.declared.provisioner.LogFault.{LogFault}
use Rattle.dz_provision.specs.declared.provisioner.Unmade.{Unmade}
use Rattle.dz_provision.specs.declared.provisioner.Unmade.TheVariants as unmade

-- what an output holds, where it tells, the count of its faults, and whether a write has failed
pub record Log : Type 0 where
  pub written : Option Octets
  pub faults : ℕ
  pub failed : Bool

abbrev pub log_of : Option Octets → ℕ → Bool → Log
log_of written faults failed = record { written = written; faults = faults; failed = failed }

-- the lines come after what was written; or a prefix of them, and the write has failed
unfoldable pub IsWritten : Octets → Result (Unit {0}) LogFault → Log → Log → Type 0
IsWritten lines (Ok done) a b = Gains lines a.written b.written × ((b.faults ≡ a.faults) × (b.failed ≡ a.failed))
IsWritten lines (Err fault) a b =
    GainsPrefix lines a.written b.written × ((a.faults ≤ b.faults) × (HasRisen a.faults b.faults × (b.failed ≡ true)))

-- the answer of a call whose lines were written, or were not
abbrev pub answered : {T : Type 0} → Result (Unit {0}) LogFault → T → Result T LogFault
answered (Ok done) answer = Ok answer
answered (Err fault) answer = Err fault

abbrev pub ended : {T : Type 0} → Result (Unit {0}) LogFault → T → Result T Unmade
ended (Ok done) answer = Ok answer
ended (Err fault) answer = Err unmade.LogFault
