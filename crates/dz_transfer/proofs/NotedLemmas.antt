-- Each call writes as many lines of want of memory as its dial ends for want of memory.
use Rattle.std.proofs.Common.{◌≡◌, ℕ, Bool, true, false, List, length, Option, None, Some, refl, arith, inl, inr}
use Rattle.dz_io.specs.Links.{Dialled}
use Rattle.dz_name.specs.Words.{Octets}
use Rattle.dz_history.specs.declared.entry.Entry.{Entry}
use Rattle.dz_job.specs.Job.{JobOf}
use Rattle.dz_job.specs.declared.verdict.Verdict.{Verdict}
use Rattle.dz_job.specs.declared.verdict.Verdict.TheVariants.{Published, Confirmed, Refused, PolicyRefused, Stale}
use Rattle.dz_job.specs.declared.verdict.Verdict.TheVariants.{OutOfMemory}
use Rattle.dz_provision.specs.Endings.{EndingOf, settling, starved_in}
use Rattle.dz_provision.specs.Receipts.{verdict_after}
use Rattle.dz_transfer.specs.declared.report.Report.{Report}
use Rattle.dz_transfer.specs.declared.report.Report.TheVariants as report
use Rattle.dz_transfer.specs.Receipts.{report_of, IsSettledOver, IsTaken, IsStale, Must, IsWorked, IsWork}
use Rattle.dz_transfer.specs.Serving.{starved_of, sum_of}
use Rattle.dz_transfer.proofs.StepLemmas.{dials_of}

-- of a job that was settled, by its verdict
settling_noted : (job : JobOf) (octets : Octets) (now : ℕ) (v : Verdict)
    → starved_in (Some (settling job octets now v)) ≡ starved_of (report_of v)
settling_noted job octets now (Published n serial aftermath) = refl
settling_noted job octets now (Confirmed n serial) = refl
settling_noted job octets now (Refused fault) = refl
settling_noted job octets now (PolicyRefused standing) = refl
settling_noted job octets now (Stale n) = refl
settling_noted job octets now OutOfMemory = refl

module _ (job : JobOf) (ending : Option EndingOf) (list : List Entry) where
  -- whose transfer was read over a link
  over_noted : (r : Report) (judge : List Entry) (link : Dialled) → IsSettledOver r job link ending judge
      → starved_in ending ≡ starved_of r
  over_noted r judge link s = rw (s.told.1, s.verdict)
      (settling_noted job s.read.octets s.told.0 (verdict_after judge job s.read.octets))

  linked_noted : (r : Report) (judge : List Entry) (link : Option Dialled)
      → Must link (λ l. IsSettledOver r job l ending judge) → starved_in ending ≡ starved_of r
  linked_noted r judge None s = absurd s
  linked_noted r judge (Some l) s = over_noted r judge l s

  taken_noted : (r : Report) (n from : ℕ) (link : Option Dialled)
      → Must link (λ l. IsTaken r n job l ending from list) → starved_in ending ≡ starved_of r
  taken_noted r n from None t = absurd t
  taken_noted r n from (Some l) t = over_noted r _ l t.settled

  -- which was stale
  stale_noted : (n from : ℕ) (link : Option Dialled) → IsStale n job link ending from list → starved_in ending ≡ 0
  stale_noted n from link s = elim s.told [
    | inl over ↦ linked_noted (report.Stale n) list link over
    | inr failed ↦ rw failed.1 refl
  ]

  -- and of any that was dialled for
  worked_noted : (r : Report) (from : ℕ) (link : Option Dialled) → IsWorked r job link ending from list
      → starved_in ending ≡ starved_of r
  worked_noted (report.Published n) from link w = taken_noted (report.Published n) n from link w
  worked_noted (report.Confirmed n) from link w = taken_noted (report.Confirmed n) n from link w
  worked_noted (report.Refused fault) from link w = linked_noted (report.Refused fault) list link w
  worked_noted (report.PolicyRefused standing) from link w =
      linked_noted (report.PolicyRefused standing) list link w
  worked_noted (report.Stale n) from link w = stale_noted n from link w
  worked_noted (report.NotInFlight absent) from link w = rw w.1 refl
  worked_noted report.LinkFault from link w = rw w.1 refl
  worked_noted report.LogFault from link w = rw w refl
  worked_noted report.OutOfMemory from link (inl starved) = rw starved.1 refl
  worked_noted report.OutOfMemory from link (inr failed) = rw failed.1 refl
  worked_noted (report.Idle q) from link w = absurd w
  worked_noted (report.Full q) from link w = absurd w

-- a call without a dial writes none
pub work_noted : (r : Report) (ending : Option EndingOf) (list later : List Entry)
    (before after : Option (List Dialled)) (faults now : ℕ) (dialed : Bool)
    (w : IsWork dialed r ending (length list) later before after faults now)
    → starved_in ending ≡ sum_of starved_of (dials_of r ending list later before after faults now dialed w)
work_noted r ending list later before after faults now true w =
    omega (arith, worked_noted w.job ending later r (length list) w.link w.dial.worked)
work_noted r ending list later before after faults now false w = rw w.1.0 refl
