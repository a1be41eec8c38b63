-- Answer: what a call of a transfer worker came to, and what it shows of the job that it had and the link that it
-- made.
use Rattle.std.specs.Prelude.{⊤, ◌≡◌, ◌≤◌, ◌<◌, ◌⊎◌, ℕ, ◌-◌, ◌^◌, Bool, true, false, List, [], take, slice_get, Option}
use Rattle.std.specs.Prelude.{None, Some, IfSome, Result, Ok, Err}
use Rattle.dz_io.specs.Device.{Gains}
use Rattle.dz_io.specs.Links.{Dialled}
use Rattle.dz_take.specs.Taken.{Taken}
use Rattle.dz_history.specs.declared.entry.Entry.{Entry}
use Rattle.dz_history.specs.Ended.{ended}
use Rattle.dz_job.specs.Job.{JobOf}
use Rattle.dz_job.specs.declared.verdict.Verdict.{Verdict}
use Rattle.dz_job.specs.declared.verdict.Verdict.TheVariants.{Published, Confirmed, Refused, PolicyRefused, Stale}
use Rattle.dz_job.specs.declared.verdict.Verdict.TheVariants.{OutOfMemory}
use Rattle.dz_job.specs.declared.verdict.Failure.{Failure}
use Rattle.dz_job.specs.declared.verdict.Failure.TheVariants as failures
use Rattle.dz_fleet.specs.Core.{entry_for}
use Rattle.dz_provision.specs.declared.provisioner.Unmade.{Unmade}
use Rattle.dz_provision.specs.declared.provisioner.Unmade.TheVariants as unmade
use Rattle.dz_provision.specs.Endings.{EndingOf, settling, failing, starving}
use Rattle.dz_provision.specs.Receipts.{verdict_after, WasDue, IsBetween}
use Rattle.dz_fetch.specs.Fetching.{IsFetchedOver, IsDialledFor, ShowsDial, links_of}
use Rattle.dz_transfer.specs.declared.report.Report.{Report}
use Rattle.dz_transfer.specs.declared.report.Report.TheVariants as report

-- ---- reports

-- what is reported of a job that ended: of its verdict, of its failure for a cause, and where it is no job of the core
-- or the log has failed
abbrev pub unmade_report : Unmade → Report
unmade_report unmade.LogFault = report.LogFault
unmade_report (unmade.NotInFlight absent) = report.NotInFlight absent

abbrev pub report_of : Verdict → Report
report_of (Published n serial aftermath) = report.Published n
report_of (Confirmed n serial) = report.Confirmed n
report_of (Refused fault) = report.Refused fault
report_of (PolicyRefused standing) = report.PolicyRefused standing
report_of (Stale n) = report.Stale n
report_of OutOfMemory = report.OutOfMemory

abbrev pub settled_report : Result Verdict Unmade → Report
settled_report (Ok verdict) = report_of verdict
settled_report (Err why) = unmade_report why

abbrev pub failed_report : Result Failure Unmade → Report → Report
failed_report (Ok failures.Failed) cause = cause
failed_report (Ok (failures.Stale n)) cause = report.Stale n
failed_report (Err why) cause = unmade_report why

-- ---- how a job ended, as its call told it
-- by the transfer that was read over a link, with the verdict that a list gives
pub record IsSettledOver (r : Report) (job : JobOf) (link : Dialled) (ending : Option EndingOf)
    (list : List Entry) : Type 0 where
  pub read : Taken
  pub fetched : IsFetchedOver job link read
  pub verdict : r ≡ report_of (verdict_after list job read.octets)
  pub told : (moment : ℕ) × (ending ≡ Some (settling job read.octets moment (verdict_after list job read.octets)))

-- entry n, which is not below a place, is that transfer, by the verdict that the entries before it give
pub record IsTaken (r : Report) (n : ℕ) (job : JobOf) (link : Dialled) (ending : Option EndingOf) (from : ℕ)
    (list : List Entry) : Type 0 where
  pub settled : IsSettledOver r job link ending (take n list)
  pub late : from ≤ n
  pub entry : slice_get list n ≡ Some (entry_for job settled.read.octets)

-- as one that failed; as one that failed since its fetch ran out of memory, of which a line was written; and for want
-- of memory for what was read
abbrev pub HasFailed : JobOf → Option EndingOf → Failure → Type 0
HasFailed job ending failure = (moment : ℕ) × (ending ≡ Some (failing job moment failure))

abbrev pub HasRunOut : JobOf → Option EndingOf → Failure → Type 0
HasRunOut job ending failure = (moment : ℕ) × (ending ≡ Some (starving job moment failure))

abbrev pub HasStarved : JobOf → Option EndingOf → Type 0
HasStarved job ending = (moment : ℕ) × (ending ≡ Some (settling job [] moment OutOfMemory))

-- there is a link, of which this holds
abbrev pub Must : Option Dialled → (Dialled → Type 0) → Type 0
Must None holds = ⊥
Must (Some link) holds = holds link

-- entry n, which is not below a place, ended the job's incarnation, whether its transfer was read or it failed
pub record IsStale (n : ℕ) (job : JobOf) (link : Option Dialled) (ending : Option EndingOf) (from : ℕ)
    (list : List Entry) : Type 0 where
  pub late : from ≤ n
  pub end : ended list job.flight.zone job.flight.incarnation ≡ Some n
  pub told : Must link (λ l. IsSettledOver (report.Stale n) job l ending list)
      ⊎ HasFailed job ending (failures.Stale n)

-- ---- one call
-- what a report says of a job, its link and its end, of the length of the list before and of the list that was seen at
-- last
abbrev pub IsWorked : Report → JobOf → Option Dialled → Option EndingOf → ℕ → List Entry → Type 0
IsWorked (report.Published n) job link ending from list =
    Must link (λ l. IsTaken (report.Published n) n job l ending from list)
IsWorked (report.Confirmed n) job link ending from list =
    Must link (λ l. IsTaken (report.Confirmed n) n job l ending from list)
IsWorked (report.Refused fault) job link ending from list =
    Must link (λ l. IsSettledOver (report.Refused fault) job l ending list)
IsWorked (report.PolicyRefused standing) job link ending from list =
    Must link (λ l. IsSettledOver (report.PolicyRefused standing) job l ending list)
IsWorked (report.Stale n) job link ending from list = IsStale n job link ending from list
IsWorked (report.NotInFlight absent) job link ending from list = IsBetween from absent.count list × (ending ≡ None)
IsWorked report.LinkFault job link ending from list = HasFailed job ending failures.Failed
IsWorked report.LogFault job link ending from list = ending ≡ None
IsWorked report.OutOfMemory job link ending from list = HasStarved job ending ⊎ HasRunOut job ending failures.Failed
IsWorked (report.Idle q) job link ending from list = ⊥
IsWorked (report.Full q) job link ending from list = ⊥

-- a link, where the dial came about, goes to the job's primary and got the job's query or a beginning of it
abbrev pub IsMadeFor : JobOf → Option Dialled → Type 0
IsMadeFor job None = ⊤
IsMadeFor job (Some link) = IsDialledFor job link

-- a job that was handed out, by a beginning of the list that is not shorter than before, its link and its end
pub record IsDialFor (r : Report) (job : JobOf) (link : Option Dialled) (ending : Option EndingOf) (from : ℕ)
    (list : List Entry) : Type 0 where
  pub due : WasDue job from list
  pub made : IsMadeFor job link
  pub worked : IsWorked r job link ending from list

-- a call that dialled: there was such a job, and its link, where the dial came about, joined those that came back to
-- the dialer; and else the count of faults rose
pub record HasDialled (r : Report) (ending : Option EndingOf) (from : ℕ) (list : List Entry)
    (before after : Option (List Dialled)) (faults now : ℕ) : Type 0 where
  pub job : JobOf
  pub link : Option Dialled
  pub dial : IsDialFor r job link ending from list
  pub gains : Gains (links_of link) before after
  pub shown : ShowsDial link faults now

-- what a report says where there was no job
abbrev pub IsQuiet : Report → ℕ → List Entry → Type 0
IsQuiet (report.Idle q) from list =
    IsBetween from q.count list × ((q.in_flight < 16) × IfSome q.earliest (λ earliest. q.moment < earliest))
IsQuiet (report.Full q) from list = IsBetween from q.count list × ((q.in_flight ≡ 16) ⊎ (q.drawn ≡ 2 ^ 64 - 2))
IsQuiet report.LogFault from list = ⊤
IsQuiet report.OutOfMemory from list = ⊤
IsQuiet r from list = ⊥

-- a call that dialled, or one without a job, which leaves the dialer as it was
abbrev pub IsWork : Bool → Report → Option EndingOf → ℕ → List Entry → Option (List Dialled) → Option (List Dialled)
    → ℕ → ℕ → Type 0
IsWork true r ending from list before after faults now = HasDialled r ending from list before after faults now
IsWork false r ending from list before after faults now =
    IsQuiet r from list × ((ending ≡ None) × ((after ≡ before) × (now ≡ faults)))

-- where there was no job as no zone is due, or as there is no room for one, the dialer is as before
abbrev pub LeavesDialer : Report → Option (List Dialled) → Option (List Dialled) → ℕ → ℕ → Type 0
LeavesDialer (report.Idle q) before after faults now = (after ≡ before) × (now ≡ faults)
LeavesDialer (report.Full q) before after faults now = (after ≡ before) × (now ≡ faults)
LeavesDialer r before after faults now = ⊤

-- such a report is of one of these moments
abbrev pub IsAtMoment : Report → (ℕ → Bool) → Type 0
IsAtMoment (report.Idle q) may = may q.moment ≡ true
IsAtMoment (report.Full q) may = may q.moment ≡ true
IsAtMoment r may = ⊤
