-- Meaning: the jobs in flight, by their places and by their tickets.
use Rattle.std.specs.Prelude.{ℕ, ◌==◌, List, Option}
use Rattle.std.specs.List.{find, position}
use Rattle.dz_job.specs.Job.{JobOf}

-- the place of the job of a ticket
abbrev pub place_in : List JobOf → ℕ → Option ℕ
place_in jobs ticket = position (λ j. j.flight.ticket == ticket) jobs

-- the job of a ticket
abbrev pub job_in : List JobOf → ℕ → Option JobOf
job_in jobs ticket = find (λ j. j.flight.ticket == ticket) jobs
