-- Inner: the job that was handed out, marks of reports, and calls that are counted.
use Rattle.std.specs.Prelude.{◌≡◌, ◌+◌, ◌++◌, ◌||◌, ℕ, Bool, true, false, option_to_list, Result, Ok, Err}
use Rattle.dz_job.specs.Job.{JobOf}
use Rattle.dz_fleet.specs.declared.due.Due.{Due}
use Rattle.dz_fleet.specs.declared.due.Due.TheVariants as due
use Rattle.dz_provision.specs.declared.provisioner.LogFault.{LogFault}
use Rattle.dz_transfer.specs.declared.report.Report.{Report}
use Rattle.dz_transfer.specs.declared.report.Report.TheVariants as report
use Rattle.dz_transfer.specs.declared.serve.Transfers.{Transfers}
use Rattle.dz_transfer.specs.declared.work.Worked.{Worked}
use Rattle.dz_transfer.specs.Serving.{absent_of, starved_of, Counts}

abbrev pub is_log_fault : Report → Bool
is_log_fault report.LogFault = true
is_log_fault r = false

-- nothing can be done for now
abbrev pub is_idle : Report → Bool
is_idle (report.Idle q) = true
is_idle (report.Full q) = true
is_idle report.OutOfMemory = true
is_idle r = false

-- there was a job, or there could be one
abbrev pub is_busy : Report → Bool
is_busy (report.Idle q) = false
is_busy (report.Full q) = false
is_busy r = true

-- the job that was handed out, and else what is reported
abbrev pub job_of : Due → Result JobOf Report
job_of (due.Job job) = Ok job
job_of (due.Idle q) = Err (report.Idle q)
job_of (due.Full q) = Err (report.Full q)
job_of due.OutOfMemory = Err report.OutOfMemory

abbrev pub job_in : Result Due LogFault → Result JobOf Report
job_in (Ok answer) = job_of answer
job_in (Err fault) = Err report.LogFault

-- what was done and one more call, of which a dial alone counts
abbrev pub number_if : Bool → ℕ → ℕ
number_if true number = number
number_if false number = 0

pub record IsMore (done : Transfers) (worked : Worked) (next : Transfers) : Type 0 where
  pub dialed : next.dialed ≡ (done.dialed || worked.dialed)
  pub end : next.end ≡ done.end
  pub absent : Counts (done.absent + number_if worked.dialed (absent_of worked.report)) next.absent
  pub starved : Counts (done.starved + number_if worked.dialed (starved_of worked.report)) next.starved
  pub endings : next.endings ≡ done.endings ++ option_to_list worked.ending
