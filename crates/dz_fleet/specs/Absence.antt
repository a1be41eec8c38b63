-- Meaning: why a job isn't a core's.
use Rattle.std.specs.Prelude.{ℕ, Bool, ◌==◌, length}
use Rattle.std.specs.List.{list_any}
use Rattle.dz_job.specs.Job.{JobOf}
use Rattle.dz_fleet.specs.Core.{Core}

-- why a job isn't a core's: how many entries the list has, the job's ticket, and whether a job in flight has it, so
-- that the two differ elsewhere
pub record AbsentOf : Type 0 where
  pub count : ℕ
  pub ticket : ℕ
  pub differs : Bool

-- why a job isn't this core's
abbrev pub absent_of : Core → JobOf → AbsentOf
absent_of c job = record {
  count = length c.list;
  ticket = job.flight.ticket;
  differs = list_any (λ j. j.flight.ticket == job.flight.ticket) c.flight;
}
