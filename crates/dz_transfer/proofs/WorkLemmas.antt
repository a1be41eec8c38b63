-- How a job that was handed out, fetched and ended makes a report.
use Rattle.std.proofs.Common.{◌≡◌, ℕ, ◌≤◌, Bool, true, false, List, length, take, Option, None, Some, Result, Ok}
use Rattle.std.proofs.Common.{Err, refl, sym, ap, ◌∙◌, subst, arith, inl, inr}
use Rattle.std.specs.Prelude.{IsErr, IfSome}
use Rattle.std.proofs.Math.Seq.{take-length}
use mathlib.Core.List.{IsPrefix}
use Rattle.dz_io.specs.Device.{Tells}
use Rattle.dz_io.specs.Links.{Dialled}
use Rattle.dz_take.specs.Taken.{Taken}
use Rattle.dz_name.specs.Words.{Octets}
use Rattle.dz_history.specs.declared.entry.Entry.{Entry}
use Rattle.dz_history.specs.Ended.{ended}
use Rattle.dz_history.specs.Legal.{IsLegal}
use Rattle.dz_job.specs.Job.{JobOf, transfer_for}
use Rattle.dz_job.specs.declared.verdict.Verdict.{Verdict}
use Rattle.dz_job.specs.declared.verdict.Verdict.TheVariants.{Published, Confirmed, Refused, PolicyRefused, Stale}
use Rattle.dz_job.specs.declared.verdict.Verdict.TheVariants.{OutOfMemory}
use Rattle.dz_job.specs.declared.verdict.Failure.{Failure}
use Rattle.dz_job.specs.declared.verdict.Failure.TheVariants as failures
use Rattle.dz_fleet.specs.declared.due.Due.{Due}
use Rattle.dz_fleet.specs.declared.due.Due.TheVariants as due
use Rattle.dz_fleet.proofs.TakeLemmas.{tells}
use Rattle.dz_desk.proofs.PrefixLemmas.{prefix_length}
use Rattle.dz_provision.specs.declared.provisioner.LogFault.{LogFault}
use Rattle.dz_provision.specs.declared.provisioner.Unmade.{Unmade}
use Rattle.dz_provision.specs.declared.provisioner.Unmade.TheVariants as unmade
use Rattle.dz_provision.specs.Endings.{EndingOf, EndsAmong, settling, failing, settled_ending, failed_ending}
use Rattle.dz_provision.specs.Endings.{starved_ending}
use Rattle.dz_provision.specs.Receipts.{core_of, verdict_after, IsDueAt, WasDue, IsHandedAt, IsSettledAt, IsFailedAt}
use Rattle.dz_fetch.specs.Query.{query_of}
use Rattle.dz_fetch.specs.declared.fetched.Fetched.TheVariants as fetched
use Rattle.dz_fetch.specs.Fetching.{IsFetchedOver, IsDialledFor, IsFetched, IsFetch}
use Rattle.dz_transfer.specs.declared.report.Report.{Report}
use Rattle.dz_transfer.specs.declared.report.Report.TheVariants as report
use Rattle.dz_transfer.specs.Receipts.{report_of, settled_report, failed_report, unmade_report, IsSettledOver}
use Rattle.dz_transfer.specs.Receipts.{IsWorked, IsMadeFor, IsDialFor, HasDialled, IsQuiet, IsWork, LeavesDialer}
use Rattle.dz_transfer.specs.Receipts.{IsAtMoment}
use Rattle.dz_transfer.specs.inner.Marks.{is_busy, job_of, job_in}
use Rattle.dz_transfer.proofs.EndedLemmas.{ended_late}

-- ---- there was no job
unmet_due : (d : Due) (r : Report) (before list : List Entry) (now : ℕ) → Err r ≡ job_of d → IsPrefix before list
    → IsHandedAt (Ok d) list now → IsQuiet r (length before) list
unmet_due (due.Job job) r before list now is p h = absurd (cc is)
unmet_due (due.Idle q) r before list now is p h =
    let own : r ≡ report.Idle q = cc is in
    rw own ((omega (arith, h.0.0, prefix_length before list p), omega (arith, h.0.0)), (h.1.0, rw h.0.1 h.1.1))
unmet_due (due.Full q) r before list now is p h =
    let own : r ≡ report.Full q = cc is in
    rw own ((omega (arith, h.0.0, prefix_length before list p), omega (arith, h.0.0)), h.1)
unmet_due due.OutOfMemory r before list now is p h = let own : r ≡ report.OutOfMemory = cc is in rw own tt

unmet_quiet : (d : Result Due LogFault) (r : Report) (before list : List Entry) (now : ℕ) → Err r ≡ job_in d
    → IsPrefix before list → IsHandedAt d list now → IsQuiet r (length before) list
unmet_quiet (Ok d) r before list now is p h = unmet_due d r before list now is p h
unmet_quiet (Err fault) r before list now is p h = let own : r ≡ report.LogFault = cc is in rw own tt

pub unmet_work : (d : Result Due LogFault) (r : Report) (before list : List Entry) (now : ℕ)
    (links : Option (List Dialled)) (faults : ℕ) → Err r ≡ job_in d → IsPrefix before list → IsHandedAt d list now
    → IsWork false r None (length before) list links links faults faults
unmet_work d r before list now links faults is p h = (unmet_quiet d r before list now is p h, (refl, (refl, refl)))

unmet_at : (d : Due) (r : Report) (list : List Entry) (now : ℕ) (may : ℕ → Bool) → Err r ≡ job_of d
    → IsHandedAt (Ok d) list now → may now ≡ true → IsAtMoment r may
unmet_at (due.Job job) r list now may is h m = absurd (cc is)
unmet_at (due.Idle q) r list now may is h m = let own : r ≡ report.Idle q = cc is in rw (own, h.0.1) m
unmet_at (due.Full q) r list now may is h m = let own : r ≡ report.Full q = cc is in rw (own, h.0.1) m
unmet_at due.OutOfMemory r list now may is h m = let own : r ≡ report.OutOfMemory = cc is in rw own tt

pub unmet_moment : (d : Result Due LogFault) (r : Report) (list : List Entry) (now : ℕ) (may : ℕ → Bool)
    → Err r ≡ job_in d → IsHandedAt d list now → may now ≡ true → IsAtMoment r may
unmet_moment (Ok d) r list now may is h m = unmet_at d r list now may is h m
unmet_moment (Err fault) r list now may is h m = let own : r ≡ report.LogFault = cc is in rw own tt

unmet_of : {A : Type 0} (d : Due) (r : Report) → Err r ≡ job_of d → r ≡ report.LinkFault → A
unmet_of (due.Job job) r is fault = absurd (cc is)
unmet_of (due.Idle q) r is fault = absurd (cc (is, fault))
unmet_of (due.Full q) r is fault = absurd (cc (is, fault))
unmet_of due.OutOfMemory r is fault = absurd (cc (is, fault))

pub unmet_link : {A : Type 0} (d : Result Due LogFault) (r : Report) → Err r ≡ job_in d → r ≡ report.LinkFault → A
unmet_link (Ok d) r is fault = unmet_of d r is fault
unmet_link (Err f) r is fault = absurd (cc (is, fault))

unmet_fault : (d : Due) (r : Report) → Err r ≡ job_of d → r ≡ report.LogFault → ⊥
unmet_fault (due.Job job) r is fault = cc is
unmet_fault (due.Idle q) r is fault = cc (is, fault)
unmet_fault (due.Full q) r is fault = cc (is, fault)
unmet_fault due.OutOfMemory r is fault = cc (is, fault)

pub unmet_log : (d : Result Due LogFault) (r : Report) → Err r ≡ job_in d → r ≡ report.LogFault → IsErr d
unmet_log (Ok d) r is fault = absurd (unmet_fault d r is fault)
unmet_log (Err f) r is fault = refl

pub undialed_leaves : (r : Report) (links : Option (List Dialled)) (faults : ℕ)
    → LeavesDialer r links links faults faults
undialed_leaves (report.Idle q) links faults = (refl, refl)
undialed_leaves (report.Full q) links faults = (refl, refl)
undialed_leaves (report.Published n) links faults = tt
undialed_leaves (report.Confirmed n) links faults = tt
undialed_leaves (report.Refused fault) links faults = tt
undialed_leaves (report.PolicyRefused standing) links faults = tt
undialed_leaves (report.Stale n) links faults = tt
undialed_leaves (report.NotInFlight absent) links faults = tt
undialed_leaves report.LinkFault links faults = tt
undialed_leaves report.LogFault links faults = tt
undialed_leaves report.OutOfMemory links faults = tt

-- there was one
module _ (job : JobOf) (list : List Entry) (now : ℕ) where
  met_due : (d : Due) → Ok job ≡ job_of d → IsHandedAt (Ok d) list now → IsDueAt job list
  met_due (due.Job own) is h = let same : job ≡ own = cc is in rw same h.0
  met_due (due.Idle q) is h = absurd (cc is)
  met_due (due.Full q) is h = absurd (cc is)
  met_due due.OutOfMemory is h = absurd (cc is)

  pub met : (d : Result Due LogFault) → Ok job ≡ job_in d → IsHandedAt d list now → IsDueAt job list
  met (Ok d) is h = met_due d is h
  met (Err fault) is h = absurd (cc is)

-- ---- a job was handed out
module _ (job : JobOf) (list later : List Entry) (handed : IsDueAt job list) (p : IsPrefix list later)
    (legal : IsLegal later) where
  was_due : WasDue job (length list) later
  unfolding WasDue
  was_due = (list, omega arith, p, handed)

  late : (n : ℕ) → ended later job.flight.zone job.flight.incarnation ≡ Some n → length list ≤ n
  late n some = ended_late job.flight.zone job.flight.incarnation list later n p legal handed.unended some

  dialled_by : (r : Report) (ending : Option EndingOf) (link : Option Dialled) → IsMadeFor job link
      → IsWorked r job link ending (length list) later → IsDialFor r job link ending (length list) later
  dialled_by r ending link made w = record { due = was_due; made = made; worked = w }

  -- a job whose transfer was read
  front : (l : Dialled) (read : Taken) → l.peer ≡ job.flight.primary → IsFetchedOver job l read → IsDialledFor job l
  front l read peer over = record {
    peer = peer;
    written = (
      length (query_of job),
      subst (λ octets. Tells octets l.written) (sym (take-length (query_of job))) over.asked,
    );
  }

  stale_is : (n : ℕ) (octets : Octets) → Stale n ≡ verdict_after later job octets
      → ended later job.flight.zone job.flight.incarnation ≡ Some n
  unfolding verdict_after
  stale_is n octets is = (tells (core_of later) job octets).ended n (sym is)

  over_list : (l : Dialled) (read : Taken) (ending : Option EndingOf) (moment : ℕ) (v : Verdict) (judge : List Entry)
      → IsFetchedOver job l read → ending ≡ Some (settling job read.octets moment v)
      → v ≡ verdict_after judge job read.octets
      → IsSettledOver (report_of v) job l ending judge
  over_list l read ending moment v judge over told is = record {
    read = read;
    fetched = over;
    verdict = ap report_of is;
    told = (moment, told ∙ ap (λ w. Some (settling job read.octets moment w)) is);
  }

  settled_worked : (r : Result Verdict Unmade) (l : Dialled) (read : Taken) (ending : Option EndingOf) (moment : ℕ)
      → IsFetchedOver job l read → ending ≡ settled_ending job read.octets moment r
      → IsSettledAt r job read.octets (length list) later
      → IsWorked (settled_report r) job (Some l) ending (length list) later
  unfolding over_list
  settled_worked (Ok (Published n serial aftermath)) l read ending moment over told s = record {
    settled = over_list l read ending moment (Published n serial aftermath) (take n later) over told s.verdict;
    late = s.late;
    entry = s.entry;
  }
  settled_worked (Ok (Confirmed n serial)) l read ending moment over told s = record {
    settled = over_list l read ending moment (Confirmed n serial) (take n later) over told s.verdict;
    late = s.late;
    entry = s.entry;
  }
  settled_worked (Ok (Refused fault)) l read ending moment over told s =
      over_list l read ending moment (Refused fault) later over told s
  settled_worked (Ok (PolicyRefused shown)) l read ending moment over told s =
      over_list l read ending moment (PolicyRefused shown) later over told s
  settled_worked (Ok (Stale n)) l read ending moment over told s =
      let some = stale_is n read.octets s in
      record {
        late = late n some;
        end = some;
        told = inl (over_list l read ending moment (Stale n) later over told s);
      }
  settled_worked (Ok OutOfMemory) l read ending moment over told s = inl (moment, told)
  settled_worked (Err (unmade.NotInFlight absent)) l read ending moment over told s = (s, told)
  settled_worked (Err unmade.LogFault) l read ending moment over told s = told

  over_dial : (r : Result Verdict Unmade) (read : Taken) (ending : Option EndingOf)
      (moment : ℕ) (link : Option Dialled) → IsFetched (fetched.Finished read) job link
      → ending ≡ settled_ending job read.octets moment r
      → IsSettledAt r job read.octets (length list) later
      → IsDialFor (settled_report r) job link ending (length list) later
  over_dial r read ending moment None is told s = absurd is
  over_dial r read ending moment (Some l) is told s =
      dialled_by (settled_report r) ending (Some l) (front l read is.0 is.1)
      (settled_worked r l read ending moment is.1 told s)

  pub settled_work : (r : Result Verdict Unmade) (read : Taken) (ending : Option EndingOf)
      (moment : ℕ) (before now : Option (List Dialled)) (faults count : ℕ)
      → IsFetch (fetched.Finished read) job before now faults count
      → ending ≡ settled_ending job read.octets moment r → IsSettledAt r job read.octets (length list) later
      → HasDialled (settled_report r) ending (length list) later before now faults count
  settled_work r read ending moment before now faults count f told s = record {
    job = job;
    link = f.link;
    dial = over_dial r read ending moment f.link f.fetched told s;
    gains = f.gains;
    shown = f.shown;
  }

  -- a job that failed
  failed_worked : (r : Result Failure Unmade) (cause : Report)
      (ending : Option EndingOf) (moment : ℕ) (link : Option Dialled)
      → (ending ≡ Some (failing job moment failures.Failed) → IsWorked cause job link ending (length list) later)
      → ending ≡ failed_ending job moment r → IsFailedAt r job (length list) later
      → IsWorked (failed_report r cause) job link ending (length list) later
  failed_worked (Ok failures.Failed) cause ending moment link own told s = own told
  failed_worked (Ok (failures.Stale n)) cause ending moment link own told s =
      record { late = late n s; end = s; told = inr (moment, told) }
  failed_worked (Err (unmade.NotInFlight absent)) cause ending moment link own told s = (s, told)
  failed_worked (Err unmade.LogFault) cause ending moment link own told s = told

  -- a job that failed since its fetch ran out of memory
  starved_worked : (r : Result Failure Unmade) (ending : Option EndingOf) (moment : ℕ) (link : Option Dialled)
      → ending ≡ starved_ending job moment r → IsFailedAt r job (length list) later
      → IsWorked (failed_report r report.OutOfMemory) job link ending (length list) later
  starved_worked (Ok failures.Failed) ending moment link told s = inr (moment, told)
  starved_worked (Ok (failures.Stale n)) ending moment link told s =
      record { late = late n s; end = s; told = inr (moment, told) }
  starved_worked (Err (unmade.NotInFlight absent)) ending moment link told s = (s, told)
  starved_worked (Err unmade.LogFault) ending moment link told s = told

  fault_made : (link : Option Dialled) → IsFetched fetched.LinkFault job link → IsMadeFor job link
  fault_made None is = tt
  fault_made (Some l) is = is

  starved_made : (link : Option Dialled) → IsFetched fetched.OutOfMemory job link → IsMadeFor job link
  starved_made None is = absurd is
  starved_made (Some l) is = is

  pub fault_work : (r : Result Failure Unmade) (ending : Option EndingOf) (moment : ℕ)
      (before now : Option (List Dialled)) (faults count : ℕ) → IsFetch fetched.LinkFault job before now faults count
      → ending ≡ failed_ending job moment r → IsFailedAt r job (length list) later
      → HasDialled (failed_report r report.LinkFault) ending (length list) later before now faults count
  fault_work r ending moment before now faults count f told s = record {
    job = job;
    link = f.link;
    dial = dialled_by (failed_report r report.LinkFault) ending f.link (fault_made f.link f.fetched)
        (failed_worked r report.LinkFault ending moment f.link (λ own. (moment, own)) told s);
    gains = f.gains;
    shown = f.shown;
  }

  pub starved_work : (r : Result Failure Unmade) (ending : Option EndingOf) (moment : ℕ)
      (before now : Option (List Dialled)) (faults count : ℕ) → IsFetch fetched.OutOfMemory job before now faults count
      → ending ≡ starved_ending job moment r → IsFailedAt r job (length list) later
      → HasDialled (failed_report r report.OutOfMemory) ending (length list) later before now faults count
  starved_work r ending moment before now faults count f told s = record {
    job = job;
    link = f.link;
    dial = dialled_by (failed_report r report.OutOfMemory) ending f.link (starved_made f.link f.fetched)
        (starved_worked r ending moment f.link told s);
    gains = f.gains;
    shown = f.shown;
  }

-- ---- a job ends at one of these moments
settling_among : (may : ℕ → Bool) (job : JobOf) (octets : Octets) (now : ℕ) (v : Verdict) → may now ≡ true
    → EndsAmong may (settling job octets now v)
settling_among may job octets now (Published n serial aftermath) m = m
settling_among may job octets now (Confirmed n serial) m = m
settling_among may job octets now (Refused fault) m = m
settling_among may job octets now (PolicyRefused shown) m = m
settling_among may job octets now (Stale n) m = m
settling_among may job octets now OutOfMemory m = m

pub settled_among : (may : ℕ → Bool) (job : JobOf) (octets : Octets) (now : ℕ) (r : Result Verdict Unmade)
    (ending : Option EndingOf) → ending ≡ settled_ending job octets now r → may now ≡ true
    → IfSome ending (EndsAmong may)
settled_among may job octets now (Ok v) ending told m = rw told (settling_among may job octets now v m)
settled_among may job octets now (Err why) ending told m = rw told tt

pub failed_among : (may : ℕ → Bool) (job : JobOf) (now : ℕ) (r : Result Failure Unmade) (ending : Option EndingOf)
    → ending ≡ failed_ending job now r → may now ≡ true → IfSome ending (EndsAmong may)
failed_among may job now (Ok failure) ending told m = rw told m
failed_among may job now (Err why) ending told m = rw told tt

pub starved_among : (may : ℕ → Bool) (job : JobOf) (now : ℕ) (r : Result Failure Unmade) (ending : Option EndingOf)
    → ending ≡ starved_ending job now r → may now ≡ true → IfSome ending (EndsAmong may)
starved_among may job now (Ok failures.Failed) ending told m = rw told m
starved_among may job now (Ok (failures.Stale n)) ending told m = rw told m
starved_among may job now (Err why) ending told m = rw told tt

-- the transfer that was read is the job's
of_link : (read : Taken) (job : JobOf) (link : Option Dialled) → IsFetched (fetched.Finished read) job link
    → read.transfer ≡ transfer_for job
of_link read job None is = absurd is
of_link read job (Some l) is = is.1.is.transfer

pub read_transfer : (read : Taken) (job : JobOf) (before now : Option (List Dialled)) (faults count : ℕ)
    → IsFetch (fetched.Finished read) job before now faults count → read.transfer ≡ transfer_for job
read_transfer read job before now faults count f = of_link read job f.link f.fetched

-- ---- what a report can be
unmade_busy : (u : Unmade) → is_busy (unmade_report u) ≡ true
unmade_busy unmade.LogFault = refl
unmade_busy (unmade.NotInFlight absent) = refl

pub settled_busy : (r : Result Verdict Unmade) → is_busy (settled_report r) ≡ true
settled_busy (Ok (Published n serial aftermath)) = refl
settled_busy (Ok (Confirmed n serial)) = refl
settled_busy (Ok (Refused fault)) = refl
settled_busy (Ok (PolicyRefused standing)) = refl
settled_busy (Ok (Stale n)) = refl
settled_busy (Ok OutOfMemory) = refl
settled_busy (Err u) = unmade_busy u

pub failed_busy : (r : Result Failure Unmade) (cause : Report) → is_busy cause ≡ true
    → is_busy (failed_report r cause) ≡ true
failed_busy (Ok failures.Failed) cause busy = busy
failed_busy (Ok (failures.Stale n)) cause busy = refl
failed_busy (Err u) cause busy = unmade_busy u

pub busy_leaves : (r : Report) (before now : Option (List Dialled)) (faults count : ℕ) → is_busy r ≡ true
    → LeavesDialer r before now faults count
busy_leaves (report.Idle q) before now faults count busy = absurd (cc busy)
busy_leaves (report.Full q) before now faults count busy = absurd (cc busy)
busy_leaves (report.Published n) before now faults count busy = tt
busy_leaves (report.Confirmed n) before now faults count busy = tt
busy_leaves (report.Refused fault) before now faults count busy = tt
busy_leaves (report.PolicyRefused standing) before now faults count busy = tt
busy_leaves (report.Stale n) before now faults count busy = tt
busy_leaves (report.NotInFlight absent) before now faults count busy = tt
busy_leaves report.LinkFault before now faults count busy = tt
busy_leaves report.LogFault before now faults count busy = tt
busy_leaves report.OutOfMemory before now faults count busy = tt

pub busy_moment : (r : Report) (may : ℕ → Bool) → is_busy r ≡ true → IsAtMoment r may
busy_moment (report.Idle q) may busy = absurd (cc busy)
busy_moment (report.Full q) may busy = absurd (cc busy)
busy_moment (report.Published n) may busy = tt
busy_moment (report.Confirmed n) may busy = tt
busy_moment (report.Refused fault) may busy = tt
busy_moment (report.PolicyRefused standing) may busy = tt
busy_moment (report.Stale n) may busy = tt
busy_moment (report.NotInFlight absent) may busy = tt
busy_moment report.LinkFault may busy = tt
busy_moment report.LogFault may busy = tt
busy_moment report.OutOfMemory may busy = tt

-- a fault of a link comes from its fetch alone
unmade_link : (u : Unmade) → unmade_report u ≡ report.LinkFault → ⊥
unmade_link unmade.LogFault is = cc is
unmade_link (unmade.NotInFlight absent) is = cc is

pub settled_link : {A : Type 0} (r : Result Verdict Unmade) → settled_report r ≡ report.LinkFault → A
settled_link (Ok (Published n serial aftermath)) is = absurd (cc is)
settled_link (Ok (Confirmed n serial)) is = absurd (cc is)
settled_link (Ok (Refused fault)) is = absurd (cc is)
settled_link (Ok (PolicyRefused standing)) is = absurd (cc is)
settled_link (Ok (Stale n)) is = absurd (cc is)
settled_link (Ok OutOfMemory) is = absurd (cc is)
settled_link (Err u) is = absurd (unmade_link u is)

-- a link's fault is never told as want of memory
pub fault_memory : {A : Type 0} (r : Result Failure Unmade) → failed_report r report.LinkFault ≡ report.OutOfMemory → A
fault_memory (Ok failures.Failed) is = absurd (cc is)
fault_memory (Ok (failures.Stale n)) is = absurd (cc is)
fault_memory (Err unmade.LogFault) is = absurd (cc is)
fault_memory (Err (unmade.NotInFlight absent)) is = absurd (cc is)

pub starved_link : {A : Type 0} (r : Result Failure Unmade) → failed_report r report.OutOfMemory ≡ report.LinkFault → A
starved_link (Ok failures.Failed) is = absurd (cc is)
starved_link (Ok (failures.Stale n)) is = absurd (cc is)
starved_link (Err u) is = absurd (unmade_link u is)

-- a fault of the log comes from the lock
unmade_log : (u : Unmade) → unmade_report u ≡ report.LogFault → u ≡ unmade.LogFault
unmade_log unmade.LogFault is = refl
unmade_log (unmade.NotInFlight absent) is = absurd (cc is)

pub settled_log : (r : Result Verdict Unmade) → settled_report r ≡ report.LogFault → r ≡ Err unmade.LogFault
settled_log (Ok (Published n serial aftermath)) is = absurd (cc is)
settled_log (Ok (Confirmed n serial)) is = absurd (cc is)
settled_log (Ok (Refused fault)) is = absurd (cc is)
settled_log (Ok (PolicyRefused standing)) is = absurd (cc is)
settled_log (Ok (Stale n)) is = absurd (cc is)
settled_log (Ok OutOfMemory) is = absurd (cc is)
settled_log (Err u) is = ap Err (unmade_log u is)

pub failed_log : (r : Result Failure Unmade) (cause : Report) → (cause ≡ report.LogFault → ⊥)
    → failed_report r cause ≡ report.LogFault → r ≡ Err unmade.LogFault
failed_log (Ok failures.Failed) cause other is = absurd (other is)
failed_log (Ok (failures.Stale n)) cause other is = absurd (cc is)
failed_log (Err u) cause other is = ap Err (unmade_log u is)
