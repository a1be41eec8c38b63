-- Meaning: a transfer that was weighed, and what it holds for the core that it fits.
use Rattle.std.specs.Prelude.{◌≡◌, ℕ, ◌^◌, ◌<◌, Bool, true, false, List, [], length, fold, slice_set, Option, Some}
use Rattle.std.specs.Prelude.{None}
use Rattle.dz_name.specs.Words.{Octets}
use Rattle.dz_take.specs.Outcome.{octets_used}
use Rattle.dz_timer.specs.Values.{ValuesOf}
use Rattle.dz_history.specs.declared.entry.Entry.{Entry}
use Rattle.dz_history.specs.declared.entry.Entry.TheVariants.{Setup, Transfer}
use Rattle.dz_history.specs.declared.aftermath.Aftermath.{Aftermath}
use Rattle.dz_history.specs.declared.aftermath.Aftermath.TheVariants.{Member}
use Rattle.dz_history.specs.State.{State}
use Rattle.dz_history.specs.After.{step, aftermath_of, decision_of}
use Rattle.dz_job.specs.declared.verdict.Verdict.{Verdict}
use Rattle.dz_job.specs.declared.verdict.Verdict.TheVariants.{Published, Confirmed, Refused, PolicyRefused, Stale}
use Rattle.dz_job.specs.declared.verdict.Verdict.TheVariants.{OutOfMemory}
use Rattle.dz_job.specs.Job.{JobOf, transfer_for, taken_for}
use Rattle.dz_fleet.specs.Values.{values_after}
use Rattle.dz_fleet.specs.Core.{Core, state_of, entry_for, verdict_of}

-- what is assigned and held afterwards
pub record Renewed : Type 0 where
  pub state : State

-- what is written of what zones wait for: the values of the zones at these places, or those of all zones
pub data Written : Type 0 where
  places : List (ℕ × ValuesOf) → Written
  all : List ValuesOf → Written

-- the values with these written at their places, one after the other
abbrev pub written_at : List ValuesOf → List (ℕ × ValuesOf) → List ValuesOf
written_at values pairs = fold (λ vs pair. slice_set vs pair.0 pair.1) values pairs

-- what each zone waits for once it is written
abbrev pub written : List ValuesOf → Written → List ValuesOf
written values (places pairs) = written_at values pairs
written values (all others) = others

-- the entry that the transfer makes or would make, the moment of its end, the verdict, what holds afterwards where it
-- is taken, what is written of what zones wait for, and whether the step is still to be handed out
pub record Weighing : Type 0 where
  pub entry : Entry
  pub moment : ℕ
  pub verdict : Verdict
  pub renewed : Option Renewed
  pub values : Written
  pub is_there : Bool

-- the octets of an entry's transfer
abbrev pub octets_in : Entry → Octets
octets_in (Setup config) = []
octets_in (Transfer t) = t.octets

-- what holds after a transfer that is taken
abbrev pub renewal_for : Core → JobOf → Octets → Option Renewed
renewal_for c job octets = Some record { state = step (state_of c) (entry_for job octets) }

-- what each zone waits for after a transfer that is taken, before its own zone is refreshed
abbrev pub values_with : Core → JobOf → Octets → Aftermath → List ValuesOf
values_with c job octets aftermath =
    values_after (state_of c) c.values aftermath (step (state_of c) (entry_for job octets)).fold.members

-- what a transfer that is taken changes beyond its own zone
unfoldable pub aftermath_in : Core → JobOf → Octets → Aftermath
aftermath_in c job octets = aftermath_of (state_of c) job.flight.zone (decision_of (state_of c) (taken_for job octets))

-- what holds afterwards by a verdict; none where nothing is taken
abbrev pub renewed_for : Core → JobOf → Octets → Verdict → Option Renewed
renewed_for c job octets (Published position serial aftermath) = renewal_for c job octets
renewed_for c job octets (Confirmed position serial) = renewal_for c job octets
renewed_for c job octets (Refused fault) = None
renewed_for c job octets (PolicyRefused standing) = None
renewed_for c job octets (Stale position) = None
renewed_for c job octets OutOfMemory = None

-- what each zone waits for by a verdict, before the job's own zone waits anew
abbrev pub values_for : Core → JobOf → Octets → Verdict → List ValuesOf
values_for c job octets (Published position serial aftermath) = values_with c job octets aftermath
values_for c job octets (Confirmed position serial) = values_with c job octets Member
values_for c job octets (Refused fault) = c.values
values_for c job octets (PolicyRefused standing) = c.values
values_for c job octets (Stale position) = c.values
values_for c job octets OutOfMemory = c.values

-- a verdict by which a transfer is taken
abbrev pub is_taken : Verdict → Bool
is_taken (Published position serial aftermath) = true
is_taken (Confirmed position serial) = true
is_taken (Refused fault) = false
is_taken (PolicyRefused standing) = false
is_taken (Stale position) = false
is_taken OutOfMemory = false

-- what was weighed is of this core and this job
pub record Fits (c : Core) (job : JobOf) (w : Weighing) : Type 0 where
  pub entry : w.entry ≡ entry_for job (octets_in w.entry)
  pub used : octets_used (transfer_for job) (octets_in w.entry) ≡ length (octets_in w.entry)
  pub moment : w.moment < 2 ^ 40
  pub verdict : w.verdict ≡ verdict_of c job (octets_in w.entry)
  pub renewed : w.renewed ≡ renewed_for c job (octets_in w.entry) w.verdict
  pub values : written c.values w.values ≡ values_for c job (octets_in w.entry) w.verdict
