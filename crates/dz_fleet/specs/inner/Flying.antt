-- Inner: jobs in flight as they are kept.
use Rattle.std.specs.Prelude.{◌≡◌, ℕ, not, ◌&&◌, List, Some, is_some, if◌then◌else◌}
use Rattle.std.specs.Option.{option_map}
use Rattle.std.specs.Arc.{arc_value}
use Rattle.dz_history.specs.declared.entry.Entry.{Entry}
use Rattle.dz_history.specs.State.{State, stands}
use Rattle.dz_history.specs.Ended.{ended}
use Rattle.dz_fleet.specs.declared.flight.Flying.{Flying}
use Rattle.dz_job.specs.Job.{JobOf}

-- the job of what is kept
abbrev pub job_in : Flying → JobOf
job_in f = record { flight = f.flight; held = option_map arc_value f.held.value; key = f.key.value }

-- the position of the entry that ended the incarnation of a job is noted with the job
abbrev pub IsMarked : List Entry → Flying → Type 0
IsMarked list f = f.ended ≡ ended list f.flight.zone f.flight.incarnation

-- a job in flight with the position of the entry after which this state holds, where its incarnation was current
-- before that entry and isn't now
abbrev pub marked : State → ℕ → Flying → Flying
marked s position f = if not (is_some f.ended)
    && not (stands s f.flight.zone f.flight.incarnation) then record f { ended = Some position } else f
