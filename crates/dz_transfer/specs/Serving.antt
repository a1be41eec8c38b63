-- Answer: what a transfer worker shows of all its dials.
use Rattle.std.specs.Prelude.{⊤, ◌≡◌, ◌≤◌, ◌<◌, ◌⊎◌, ◌+◌, ◌-◌, ◌^◌, ℕ, Bool, true, false, List, [], ◌∷◌, ◌++◌, length}
use Rattle.std.specs.Prelude.{take, option_to_list, Option}
use Rattle.dz_io.specs.Counts.{HasRisen, HasRisenBy}
use Rattle.dz_io.specs.Device.{Gains}
use Rattle.dz_io.specs.Links.{Dialled}
use Rattle.dz_history.specs.declared.entry.Entry.{Entry}
use Rattle.dz_job.specs.Job.{JobOf}
use Rattle.dz_provision.specs.Endings.{EndingOf}
use Rattle.dz_fetch.specs.Fetching.{links_of}
use Rattle.dz_transfer.specs.declared.report.Report.{Report}
use Rattle.dz_transfer.specs.declared.report.Report.TheVariants as report
use Rattle.dz_transfer.specs.declared.serve.Transfers.{Transfers}
use Rattle.dz_transfer.specs.declared.serve.TransferEnd.TheVariants as ends
use Rattle.dz_transfer.specs.Receipts.{IsDialFor}

-- a call that dialled: its job, its link where the dial came about, how the job ended if it did, the length of the
-- list that was seen then, and the report
pub record Dial : Type 0 where
  pub job : JobOf
  pub link : Option Dialled
  pub ending : Option EndingOf
  pub upto : ℕ
  pub answer : Report

-- the links, and how the jobs ended, one after the other
abbrev pub links_in : List Dial → List Dialled
links_in [] = []
links_in (d ∷ ds) = links_of d.link ++ links_in ds

abbrev pub endings_in : List Dial → List EndingOf
endings_in [] = []
endings_in (d ∷ ds) = option_to_list d.ending ++ endings_in ds

-- each dial has a report of its own, by a beginning of the list. These beginnings never shrink, and what a report
-- tells is no older than the beginning before it
abbrev pub IsServed : ℕ → List Entry → List Dial → Type 0
IsServed from list [] = from ≤ length list
IsServed from list (d ∷ ds) =
    (from ≤ d.upto) × (IsDialFor d.answer d.job d.link d.ending from (take d.upto list) × IsServed d.upto list ds)

-- how many dials were told as these: a fault of the link, which the count of faults covers; and the two that leave no
-- trace in the links, no job in flight and want of memory
abbrev pub link_fault : Report → ℕ
link_fault report.LinkFault = 1
link_fault r = 0

abbrev pub absent_of : Report → ℕ
absent_of (report.NotInFlight absent) = 1
absent_of r = 0

abbrev pub starved_of : Report → ℕ
starved_of report.OutOfMemory = 1
starved_of r = 0

abbrev pub sum_of : (Report → ℕ) → List Dial → ℕ
sum_of number [] = 0
sum_of number (d ∷ ds) = number d.answer + sum_of number ds

abbrev pub link_faults : List Dial → ℕ
link_faults dials = sum_of link_fault dials

-- a count is this number, as far as it can count
abbrev pub Counts : ℕ → ℕ → Type 0
Counts number count = ((count ≡ number) × (number < 2 ^ 64)) ⊎ ((count ≡ 2 ^ 64 - 1) × (2 ^ 64 - 1 ≤ number))

-- a dial shows in the links or in the count of faults, and without one neither has changed
abbrev pub DialsShow : Bool → List Dial → ℕ → ℕ → Type 0
DialsShow true dials before now = (0 < length (links_in dials)) ⊎ HasRisen before now
DialsShow false dials before now = (dials ≡ []) × (now ≡ before)

-- no report is that the log failed; and none but the last is
abbrev pub HaveNoLogFault : List Dial → Type 0
HaveNoLogFault [] = ⊤
HaveNoLogFault (d ∷ ds) = (d.answer ≡ report.LogFault → ⊥) × HaveNoLogFault ds

abbrev pub LogFaultIsLast : List Dial → Type 0
LogFaultIsLast [] = ⊤
LogFaultIsLast (d ∷ []) = ⊤
LogFaultIsLast (d ∷ e ∷ ds) = (d.answer ≡ report.LogFault → ⊥) × LogFaultIsLast (e ∷ ds)

-- what a transfer worker did, from a length of the seen list to a seen list: the links of these dials joined those
-- that came back to the dialer, its count of faults covers theirs, and its own counts and endings are those of the
-- dials. As many lines of want of memory were written as dials ended for want of memory. The log's fault is told of a
-- dial only where the worker ended by it
pub record IsTransfers (done : Transfers) (lines : ℕ) (from : ℕ) (list : List Entry)
    (before after : Option (List Dialled)) (faults now : ℕ) : Type 0 where
  pub dials : List Dial
  pub gains : Gains (links_in dials) before after
  pub served : IsServed from list dials
  pub endings : done.endings ≡ endings_in dials
  pub counted : HasRisenBy (link_faults dials) faults now
  pub absent : Counts (sum_of absent_of dials) done.absent
  pub starved : Counts (sum_of starved_of dials) done.starved
  pub noted : lines ≡ sum_of starved_of dials
  pub shown : DialsShow done.dialed dials faults now
  pub last : LogFaultIsLast dials
  pub stopped : done.end ≡ ends.Stopped → HaveNoLogFault dials
