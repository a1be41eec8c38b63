-- Inner: what was weighed, as it is kept.
use Rattle.std.specs.Prelude.{◌≡◌, ⊤, [], Option, Some, None}
use Rattle.std.specs.Arc.{arc_value}
use Rattle.dz_history.specs.declared.entry.Entry.{Entry}
use Rattle.dz_history.specs.declared.entry.Step.{Step}
use Rattle.dz_fleet.specs.declared.weighed.Renewal.{Renewal}
use Rattle.dz_fleet.specs.declared.weighed.Renewal.TheVariants.{Same, Taken, Relisted}
use Rattle.dz_fleet.specs.declared.waiting.Waiting.{Waiting}
use Rattle.dz_fleet.specs.declared.waiting.Waiting.TheVariants.{Places, All}
use Rattle.dz_name.specs.Words.{Octets}
use Rattle.dz_history.specs.declared.aftermath.Aftermath.{Aftermath}
use Rattle.dz_job.specs.declared.verdict.Verdict.{Verdict}
use Rattle.dz_job.specs.Job.{JobOf}
use Rattle.dz_fleet.specs.Core.{Core}
use Rattle.dz_fleet.specs.Weighing.{Renewed, Written, places, all, written, renewal_for, renewed_for, values_with}
use Rattle.dz_fleet.specs.Weighing.{values_for}

-- what is renewed, as contracts see it
abbrev pub renewed_by : Renewal → Option Renewed
renewed_by Same = None
renewed_by (Taken holdings) = Some record { state = holdings }
renewed_by (Relisted holdings waiting) = Some record { state = holdings }

-- what is written of what zones wait for after a listing, as contracts see it
abbrev pub written_in : Waiting → Written
written_in (Places pairs) = places pairs.items
written_in (All schedule) = all schedule

-- what is written of what zones wait for, as contracts see it
abbrev pub written_by : Renewal → Written
written_by Same = places []
written_by (Taken holdings) = places []
written_by (Relisted holdings waiting) = written_in waiting

-- what was made is what a transfer that is taken makes of a core
pub record IsMade (c : Core) (job : JobOf) (octets : Octets) (aftermath : Aftermath) (renewal : Renewal) : Type 0 where
  pub renewed : renewed_by renewal ≡ renewal_for c job octets
  pub values : written c.values (written_by renewal) ≡ values_with c job octets aftermath

-- what was made is what a verdict makes of a core
pub record IsMadeBy (c : Core) (job : JobOf) (octets : Octets) (verdict : Verdict) (renewal : Renewal) : Type 0 where
  pub renewed : renewed_by renewal ≡ renewed_for c job octets verdict
  pub values : written c.values (written_by renewal) ≡ values_for c job octets verdict

-- the step that is still to be handed out is that of the entry and of the table afterwards
abbrev pub IsStepOf : Step → Entry → Option Renewed → Type 0
IsStepOf step entry (Some renewed) = (step.entry ≡ entry) × (arc_value step.table ≡ renewed.state.table)
IsStepOf step entry None = ⊥

-- the step, if it is still to be handed out, is that of the entry and of the table afterwards
abbrev pub IsStep : Option Step → Entry → Option Renewed → Type 0
IsStep (Some step) entry renewed = IsStepOf step entry renewed
IsStep None entry renewed = ⊤
