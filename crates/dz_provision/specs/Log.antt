-- Meaning: the log of a server: the lines of the list of taken transfers, and lines beside them.
use Rattle.std.specs.Prelude.{⊤, ◌≡◌, ◌+◌, ℕ, Bool, List, [], ◌∷◌, ◌++◌, codes, Option, Some, MatchBool}
use Rattle.hex.specs.Hex.{encode_lower}
use mathlib.Core.List.{IsPrefix}
use Rattle.dz_name.specs.Words.{Name, Octets}
use Rattle.dz_name.specs.Text.{text_of as printed}
use Rattle.dz_take.specs.declared.outcome.TakeFault.{TakeFault}
use Rattle.dz_zonemd.specs.declared.acceptance.Standing.{Standing}
use Rattle.dz_notify.specs.declared.notify.Heard.{Heard}
use Rattle.dz_history.specs.declared.entry.Entry.{Entry}
use Rattle.dz_job.specs.Job.{JobOf}
use Rattle.dz_job.specs.declared.verdict.Verdict.{Verdict}
use Rattle.dz_job.specs.declared.verdict.Verdict.TheVariants.{Refused, PolicyRefused, Stale, OutOfMemory}
use Rattle.dz_job.specs.declared.verdict.Failure.{Failure}
use Rattle.dz_fleet.specs.declared.due.Due.{Due}
use Rattle.dz_fleet.specs.declared.due.Due.TheVariants as due
use Rattle.dz_store.specs.declared.fault.StoreFault.{StoreFault}
use Rattle.dz_store.specs.declared.fault.StoreFault.TheVariants as faults
use Rattle.dz_report.specs.Lines.{also, end, job_line, failure_line, notify_line, verdict_lines}
use Rattle.dz_provision.specs.Journal.{journal}

-- what tells of no entry: a job, and that there is none; what ended a job by which nothing was taken; a NOTIFY; a
-- reply to a query, and that there is none; a zone that a store couldn't keep or forget
pub data Aside : Type 0 where
  handed : JobOf → Aside
  idle : Aside
  full : Aside
  refused : Name → TakeFault → Aside
  unapproved : Name → Standing → Aside
  stale : Name → ℕ → Aside
  starved : Name → Aside
  failed : Name → Failure → Aside
  heard : Name → Heard → Aside
  replied : Octets → Aside
  silent : Aside
  unkept : Name → StoreFault → Aside

-- why a store couldn't
abbrev pub fault_word : StoreFault → Octets
fault_word faults.DiskFault = codes "disk"
fault_word faults.Full = codes "full"
fault_word faults.Unfit = codes "unfit"
fault_word faults.OutOfMemory = codes "memory"

-- `unkept <zone> <word>`
abbrev pub unkept_text : Name → StoreFault → Octets
unkept_text zone fault = end (also (also (codes "unkept") (printed zone)) (fault_word fault))

abbrev pub text_of : Aside → Octets
text_of (handed job) = job_line job
text_of idle = codes "job idle\n"
text_of full = codes "job full\n"
text_of (refused zone fault) = verdict_lines zone (Refused fault)
text_of (unapproved zone standing) = verdict_lines zone (PolicyRefused standing)
text_of (stale zone position) = verdict_lines zone (Stale position)
text_of (starved zone) = verdict_lines zone OutOfMemory
text_of (failed zone failure) = failure_line zone failure
text_of (heard zone how) = notify_line zone how
text_of (replied octets) = codes "reply " ++ (encode_lower octets ++ (10 ∷ []))
text_of silent = codes "none\n"
text_of (unkept zone fault) = unkept_text zone fault

-- the lines of a call that asks for a job, and of one that ends a job: there are none where there is no job, and for
-- want of memory
abbrev pub due_lines : Due → Octets
due_lines (due.Job job) = job_line job
due_lines (due.Idle quiet) = []
due_lines (due.Full quiet) = []
due_lines due.OutOfMemory = []

abbrev pub settled_lines : Name → Verdict → Octets
settled_lines zone OutOfMemory = []
settled_lines zone verdict = verdict_lines zone verdict

-- what can be said beside events: that there is no job, a reply or none, and a zone that isn't kept
abbrev pub IsRemark : Aside → Type 0
IsRemark idle = ⊤
IsRemark full = ⊤
IsRemark (replied octets) = ⊤
IsRemark silent = ⊤
IsRemark (unkept zone fault) = ⊤
IsRemark aside = ⊥

abbrev pub CanBeSaid : Octets → Type 0
CanBeSaid line = (aside : Aside) × IsRemark aside × (line ≡ text_of aside)

-- a part of the log: the whole lines of an entry of the list, or a line beside them
pub data Part : Type 0 where
  listed : Octets → Part
  beside : Aside → Part

-- all parts, one after the other
abbrev pub written : List Part → Octets
written [] = []
written (listed text ∷ parts) = text ++ written parts
written (beside aside ∷ parts) = text_of aside ++ written parts

-- those of the list alone
abbrev pub told : List Part → List Octets
told [] = []
told (listed text ∷ parts) = text ∷ told parts
told (beside aside ∷ parts) = told parts

-- how many of the lines beside them tell of want of memory for a zone's transfer
abbrev pub wants : Aside → ℕ
wants (starved zone) = 1
wants aside = 0

abbrev pub starved_lines : List Part → ℕ
starved_lines [] = 0
starved_lines (listed text ∷ parts) = starved_lines parts
starved_lines (beside aside ∷ parts) = wants aside + starved_lines parts

-- a log of a list, with so many lines of want of memory: once the lines beside are left out, the texts of its entries
-- remain, each whole
unfoldable pub IsLog : List Entry → ℕ → Octets → Type 0
IsLog list count text =
    (parts : List Part) × (text ≡ written parts) × (told parts ≡ journal list) × (starved_lines parts ≡ count)

-- the beginning of one
unfoldable pub IsLogFront : List Entry → Octets → Type 0
IsLogFront list text = (whole : Octets) × (count : ℕ) × IsPrefix text whole × IsLog list count whole

-- what an output holds, if it tells: a log of the list, or, after a failed write, the beginning of one
abbrev pub IsLogged : List Entry → ℕ → Option Octets → Bool → Type 0
IsLogged list count held broken =
    (text : Octets) → held ≡ Some text → MatchBool broken (IsLogFront list text) (IsLog list count text)
