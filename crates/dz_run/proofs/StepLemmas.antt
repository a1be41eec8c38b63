-- How each event is taken, by what the provisioner's call leaves.
use Rattle.std.proofs.Common.{◌≡◌, ◌≢◌, ℕ, ◌+◌, false, [], ◌∷◌, ◌++◌, take, length, append_assoc, length-append, refl}
use Rattle.std.proofs.Common.{sym, ◌∙◌, ap, subst, arith, inl, inr, Option, None, Some, Result, Ok, Err}
use Rattle.std.specs.Prelude.{codes}
use Rattle.std.proofs.lemmas.List.{append-nil, take-append-le}
use Rattle.std.proofs.Math.Seq.{take-append-add}
use Rattle.dz_io.specs.Device.{Gains, GainsPrefix}
use Rattle.dz_script.specs.Script.{Turn, goes_on, turn_text, turn_state}
use Rattle.dz_io.specs.declared.peer.Peer.{Peer}
use Rattle.dz_script.specs.declared.script.TurnError.{TurnError}
use Rattle.dz_script.specs.declared.script.TurnError.TheVariants as stops
use Rattle.dz_name.specs.Words.{Name, Octets}
use Rattle.dz_notify.specs.Reply.{notify_reply_of}
use Rattle.dz_notify.specs.declared.notify.Heard.{Heard}
use Rattle.dz_notify.specs.declared.notify.Heard.TheVariants as heards
use Rattle.dz_job.specs.Job.{JobOf, transfer_for}
use Rattle.dz_job.specs.declared.verdict.Failure.{Failure}
use Rattle.dz_job.specs.declared.verdict.Verdict.{Verdict}
use Rattle.dz_job.specs.declared.verdict.Verdict.TheVariants.{Published, Confirmed, Refused, PolicyRefused, Stale}
use Rattle.dz_job.specs.declared.verdict.Verdict.TheVariants.{OutOfMemory}
use Rattle.dz_job.specs.Stream.{IsReadOf}
use Rattle.dz_report.specs.Lines.{job_line, verdict_lines, failure_line, notify_line}
use Rattle.dz_desk.specs.Seen.{Page}
use Rattle.dz_fleet.specs.declared.due.Due.{Due}
use Rattle.dz_fleet.specs.declared.due.Due.TheVariants as due
use Rattle.dz_fleet.specs.Quiet.{QuietOf}
use Rattle.dz_fleet.specs.Core.{Core, others, failed_core, failure_of, ended_of, heard_of, after_notify}
use Rattle.dz_fleet.specs.Answers.{IsDue, IsOffered}
use Rattle.dz_fleet.specs.Sound.{IsFlying}
use Rattle.dz_provision.specs.Held.{Held, Logs, Breaks, Stays, IsHandedOut, IsSettled, IsFailed, IsHeard, IsSaid}
use Rattle.dz_provision.specs.declared.provisioner.LogFault.{LogFault}
use Rattle.dz_provision.specs.declared.provisioner.Unmade.{Unmade}
use Rattle.dz_provision.specs.declared.provisioner.Unmade.TheVariants as unmades
use Rattle.dz_run.specs.Flight.{job_in}
use Rattle.dz_run.specs.Replaying.{State, running, IsListBefore, bad_line, job_turn, take_turn, fail_turn, notify_turn}
use Rattle.dz_run.specs.Replaying.{reply_text}
use Rattle.dz_run.specs.Taken.{Goes, Stops, IsTaken, IsMade, by_saying, by_failing, by_settling}
use Rattle.dz_run.specs.declared.answering.End.{End}
use Rattle.dz_run.specs.declared.events.Took.{Took}
use Rattle.dz_run.specs.declared.events.Took.TheVariants as took
use Rattle.dz_run.proofs.CoreLemmas.{failed_flight, offered_flight, taken_turn}
use Rattle.dz_desk.proofs.PrefixLemmas.{prefix_self}
use Rattle.dz_run.proofs.LeadLemmas.{list_same, by_list, due_core_list, failed_list, job_leads, take_leads}

-- ---- octets that were written
pub gains_none : (a : Option Octets) → Gains [] a a
gains_none None = refl
gains_none (Some text) = ap Some (sym (append-nil text))

gains_two : (one two : Octets) (a b c : Option Octets) → Gains one a b → Gains two b c → Gains (one ++ two) a c
gains_two one two None b c p q = cc (p, q)
gains_two one two (Some text) b c p q =
    let e : c ≡ Some ((text ++ one) ++ two) = cc (p, q) in e ∙ ap Some (append_assoc text one two)

pub prefix_none : (text : Octets) (a : Option Octets) → GainsPrefix text a a
prefix_none text a = (0, omega arith, gains_none a)

prefix_nothing : (text : Octets) (a b : Option Octets) → GainsPrefix [] a b → GainsPrefix text a b
prefix_nothing text a b p =
    let zero_one : p.0 ≡ 0 = omega (arith, p.1) in
    (0, omega arith, rw zero_one at p.2)

prefix_first : (one two : Octets) (a b : Option Octets) → GainsPrefix one a b → GainsPrefix (one ++ two) a b
prefix_first one two a b p = (
  p.0,
  omega (arith, p.1, length-append one two),
  subst (λ (l : Octets). Gains l a b) (sym (take-append-le p.0 one two p.1)) p.2,
)

prefix_second : (one two : Octets) (a b c : Option Octets) → Gains one a b → GainsPrefix two b c
    → GainsPrefix (one ++ two) a c
prefix_second one two a b c g p = (
  length one + p.0,
  omega (arith, p.1, length-append one two),
  subst
      (λ (l : Octets). Gains l a c) (sym (take-append-add one two p.0)) (gains_two one (take p.0 two) a b c g p.2),
)

-- ---- what a call leaves is how the event was taken
module _ (h k : Held) where
  goes : (text : Octets) (next : Core) → Logs h next text k → Goes (goes_on text (running next)) h k
  goes text next w = record {
    does = (text, ap (λ (c : Core). goes_on text (running c)) (sym w.core), w.written);
    faults = w.faults;
    failed = w.failed;
  }

  stops_writing : (turn : Turn State End) (next : Core) (lines : Octets) → Breaks h next lines k
      → GainsPrefix (turn_text turn) h.written k.written → IsListBefore (running k.core) (turn_state turn)
      → Stops turn stops.Write h k
  stops_writing turn next lines w part before =
      record { part = part; later = w.later; cause = λ is. w.faults; list = before }

  stops_starved : (turn : Turn State End) → k.written ≡ h.written → k.faults ≡ h.faults
      → IsListBefore (running k.core) (turn_state turn) → Stops turn stops.OutOfMemory h k
  stops_starved turn text count before = record {
    part = rw text (prefix_none (turn_text turn) h.written);
    later = omega (arith, count);
    cause = λ is. absurd (cc is);
    list = before;
  }

  unchanged : {A : Type 0} → h.failed ≡ false → Stays h k → A
  unchanged before stays = absurd (cc (before, stays.failed))

  pub said_taken : (line : Octets) (number : ℕ) (r : Result (Unit {0}) LogFault) → h.failed ≡ false → IsSaid h line r k
      → IsTaken (goes_on line (running h.core)) number h (by_saying r) k
  unfolding IsSaid IsTaken
  said_taken line number (Ok done) before w = goes line h.core w
  said_taken line number (Err fault) before (inl stays) = unchanged before stays
  said_taken line number (Err fault) before (inr w) =
      stops_writing (goes_on line (running h.core)) h.core line w w.written (list_same k.core h.core w.core)

  pub said_core : (line : Octets) (r : Result (Unit {0}) LogFault) → IsSaid h line r k → k.core ≡ h.core
  unfolding IsSaid
  said_core line (Ok done) w = w.core
  said_core line (Err fault) (inl stays) = ap (λ (x : Held). x.core) stays.same
  said_core line (Err fault) (inr w) = w.core

  -- ---- a NOTIFY
  notified_flight : (c : Core) (zone : Name) (how : Heard) → (after_notify c zone how).flight ≡ c.flight
  notified_flight c zone heards.Taken = refl
  notified_flight c zone heards.Stranger = refl
  notified_flight c zone heards.NotOurs = refl

  pub heard_flight : (peer : Peer) (zone : Name) (r : Result (Heard × Page) LogFault) → IsHeard h peer zone r k
      → k.core.flight ≡ h.core.flight
  unfolding IsHeard
  heard_flight peer zone (Ok r) w = ap (λ (c : Core). c.flight) w.1.core ∙ notified_flight h.core zone r.0
  heard_flight peer zone (Err fault) (inl stays) = ap (λ (x : Held). x.core.flight) stays.same
  heard_flight peer zone (Err fault) (inr w) =
      ap (λ (c : Core). c.flight) w.core ∙ notified_flight h.core zone (heard_of h.core peer zone)

  pub heard_open : (peer : Peer) (zone : Name) (r : Heard × Page) → IsHeard h peer zone (Ok r) k → k.failed ≡ false
  unfolding IsHeard
  heard_open peer zone r w = w.1.failed

  pub unheard_taken : (peer : Peer) (request : Octets) (zone : Name) (fault : LogFault) (number : ℕ) → h.failed ≡ false
      → IsHeard h peer zone (Err fault) k → IsTaken (notify_turn h.core peer request zone) number h (Err stops.Write) k
  unfolding IsHeard IsTaken
  unheard_taken peer request zone fault number before (inl stays) = unchanged before stays
  unheard_taken peer request zone fault number before (inr w) =
      let how = heard_of h.core peer zone in
      stops_writing (notify_turn h.core peer request zone) (after_notify h.core zone how) (notify_line zone how) w
      (prefix_first (notify_line zone how) (reply_text (notify_reply_of request how)) h.written k.written w.written)
      (list_same k.core _ w.core)

  -- ---- a job fails
  pub failed_made : (job : JobOf) (now : ℕ) (r : Result (Failure × Page) Unmade) → IsFlying h.core job
      → IsFailed h job now r k → IsMade r
  unfolding IsFailed
  failed_made job now (Ok r) fly w = tt
  failed_made job now (Err unmades.LogFault) fly w = tt
  failed_made job now (Err (unmades.NotInFlight absent)) fly w = w.none fly

  pub failing_flight : (job : JobOf) (now : ℕ) (r : Result (Failure × Page) Unmade) → h.failed ≡ false
      → IsFlying h.core job → IsFailed h job now r k → k.core.flight ≡ others h.core.flight job
  unfolding IsFailed
  failing_flight job now (Ok r) before fly w = ap (λ (c : Core). c.flight) w.1.1.core ∙ failed_flight h.core job now
  failing_flight job now (Err unmades.LogFault) before fly (inl stays) = unchanged before stays
  failing_flight job now (Err unmades.LogFault) before fly (inr w) =
      ap (λ (c : Core). c.flight) w.1.core ∙ failed_flight h.core job now
  failing_flight job now (Err (unmades.NotInFlight absent)) before fly w = absurd (w.none fly)

  fail_turn_is : (number now ticket : ℕ) (job : JobOf) → job_in h.core.flight ticket ≡ Some job
      → fail_turn h.core number now (job_in h.core.flight ticket) ≡ goes_on
      (failure_line job.flight.zone (failure_of (ended_of h.core job))) (running (failed_core h.core job now))
  fail_turn_is number now ticket job there = ap (λ (j : Option JobOf). fail_turn h.core number now j) there

  pub fail_taken : (number now ticket : ℕ) (job : JobOf) (r : Result (Failure × Page) Unmade) → h.failed ≡ false
      → job_in h.core.flight ticket ≡ Some job → IsFlying h.core job → IsFailed h job now r k
      → IsTaken (fail_turn h.core number now (job_in h.core.flight ticket)) number h (by_failing r) k
  unfolding IsFailed IsTaken
  fail_taken number now ticket job (Ok r) before there fly w =
      rw (fail_turn_is number now ticket job there, ← w.1.0)
      (goes (failure_line job.flight.zone r.0) (failed_core h.core job now) w.1.1)
  fail_taken number now ticket job (Err unmades.LogFault) before there fly (inl stays) = unchanged before stays
  fail_taken number now ticket job (Err unmades.LogFault) before there fly (inr w) =
      rw (fail_turn_is number now ticket job there) (stops_writing _ (failed_core h.core job now) (failure_line
      job.flight.zone (failure_of (ended_of h.core job))) w.1 w.1.written (list_same k.core _ w.1.core))
  fail_taken number now ticket job (Err (unmades.NotInFlight absent)) before there fly w = absurd (w.none fly)

  -- ---- a job ends with octets
  pub settled_made : (job : JobOf) (octets : Octets) (now : ℕ) (r : Result (Verdict × Page) Unmade)
      → IsFlying h.core job → IsSettled h job octets now r k → IsMade r
  unfolding IsSettled
  settled_made job octets now (Ok r) fly w = tt
  settled_made job octets now (Err unmades.LogFault) fly w = tt
  settled_made job octets now (Err (unmades.NotInFlight absent)) fly w = w.none fly

  pub settling_flight : (job : JobOf) (octets : Octets) (now : ℕ) (r : Result (Verdict × Page) Unmade)
      → h.failed ≡ false → IsFlying h.core job → IsSettled h job octets now r k
      → k.core.flight ≡ others h.core.flight job
  unfolding IsSettled
  settling_flight job octets now (Ok r) before fly w = offered_flight h.core k.core job octets now r.0 w.1.0
  settling_flight job octets now (Err unmades.LogFault) before fly (inl stays) = unchanged before stays
  settling_flight job octets now (Err unmades.LogFault) before fly (inr w) =
      offered_flight h.core k.core job octets now w.0 w.2.0
  settling_flight job octets now (Err (unmades.NotInFlight absent)) before fly w = absurd (w.none fly)

  take_turn_is : (number now ticket : ℕ) (octets read : Octets) (job : JobOf) (verdict : Verdict)
      → job_in h.core.flight ticket ≡ Some job → IsReadOf (transfer_for job) octets read
      → IsOffered h.core job read now verdict k.core → verdict ≢ OutOfMemory
      → take_turn h.core number now octets (job_in h.core.flight ticket)
      ≡ goes_on (verdict_lines job.flight.zone verdict) (running k.core)
  take_turn_is number now ticket octets read job verdict there is offered room =
      ap (λ (j : Option JobOf). take_turn h.core number now octets j) there ∙ taken_turn h.core k.core number now
      octets read job verdict (verdict_lines job.flight.zone verdict) is offered room refl

  took_so : (number now ticket : ℕ) (octets read : Octets) (job : JobOf) (verdict : Verdict)
      → job_in h.core.flight ticket ≡ Some job → IsReadOf (transfer_for job) octets read
      → IsOffered h.core job read now verdict k.core → verdict ≢ OutOfMemory
      → Logs h k.core (verdict_lines job.flight.zone verdict) k
      → Goes (take_turn h.core number now octets (job_in h.core.flight ticket)) h k
  took_so number now ticket octets read job verdict there is offered room w =
      rw (take_turn_is number now ticket octets read job verdict there is offered room)
      (goes (verdict_lines job.flight.zone verdict) k.core w)

  stopped_so : (number now ticket : ℕ) (octets read : Octets) (job : JobOf) (verdict : Verdict)
      → job_in h.core.flight ticket ≡ Some job → IsReadOf (transfer_for job) octets read
      → IsOffered h.core job read now verdict k.core → verdict ≢ OutOfMemory
      → Breaks h k.core (verdict_lines job.flight.zone verdict) k
      → Stops (take_turn h.core number now octets (job_in h.core.flight ticket)) stops.Write h k
  stopped_so number now ticket octets read job verdict there is offered room w =
      rw (take_turn_is number now ticket octets read job verdict there is offered room)
      (stops_writing (goes_on (verdict_lines job.flight.zone verdict) (running k.core)) k.core
      (verdict_lines job.flight.zone verdict) w w.written (prefix_self k.core.list))

  same_text : (a b : Option Octets) → Gains [] a b → b ≡ a
  same_text a b g = g ∙ sym (gains_none a)

  starved_so : (turn : Turn State End) → Logs h k.core [] k → IsListBefore (running k.core) (turn_state turn)
      → Stops turn stops.OutOfMemory h k
  starved_so turn w before = stops_starved turn (same_text h.written k.written w.written) w.faults before

  -- where memory runs out for a job's octets, the list stays
  take_starved : (number now : ℕ) (octets : Octets) (job : JobOf) (found : Option JobOf)
      → k.core ≡ failed_core h.core job now
      → IsListBefore (running k.core) (turn_state (take_turn h.core number now octets found))
  take_starved number now octets job found is =
      by_list h.core k.core (turn_state (take_turn h.core number now octets found))
      (failed_list h.core k.core job now is) (take_leads h.core number now octets found)

  -- a job that is asked for leaves the list
  job_stops : (now : ℕ) (answer : Due) → IsDue h.core now answer k.core
      → IsListBefore (running k.core) (turn_state (job_turn h.core now))
  job_stops now answer is = by_list h.core k.core (turn_state (job_turn h.core now))
      (due_core_list h.core k.core now answer is) (job_leads h.core now)

  pub take_taken : (number now ticket : ℕ) (octets read : Octets) (job : JobOf) (r : Result (Verdict × Page) Unmade)
      → h.failed ≡ false → job_in h.core.flight ticket ≡ Some job → IsReadOf (transfer_for job) octets read
      → IsFlying h.core job
      → IsSettled h job read now r k
      → IsTaken (take_turn h.core number now octets (job_in h.core.flight ticket)) number h (by_settling r) k
  unfolding IsSettled IsTaken
  take_taken number now ticket octets read job (Ok (Published p s a, told)) before there is fly w =
      took_so number now ticket octets read job (Published p s a) there is w.1.0 (λ e. cc e) w.1.1
  take_taken number now ticket octets read job (Ok (Confirmed p s, told)) before there is fly w =
      took_so number now ticket octets read job (Confirmed p s) there is w.1.0 (λ e. cc e) w.1.1
  take_taken number now ticket octets read job (Ok (Refused f, told)) before there is fly w =
      took_so number now ticket octets read job (Refused f) there is w.1.0 (λ e. cc e) w.1.1
  take_taken number now ticket octets read job (Ok (PolicyRefused d, told)) before there is fly w =
      took_so number now ticket octets read job (PolicyRefused d) there is w.1.0 (λ e. cc e) w.1.1
  take_taken number now ticket octets read job (Ok (Stale p, told)) before there is fly w =
      took_so number now ticket octets read job (Stale p) there is w.1.0 (λ e. cc e) w.1.1
  take_taken number now ticket octets read job (Ok (OutOfMemory, told)) before there is fly w =
      starved_so _ w.1.1 (take_starved number now octets job (job_in h.core.flight ticket) w.1.0)
  take_taken number now ticket octets read job (Err unmades.LogFault) before there is fly (inl stays) =
      unchanged before stays
  take_taken number now ticket octets read job
      (Err unmades.LogFault) before there is fly (inr (Published p s a, own, w)) =
      stopped_so number now ticket octets read job (Published p s a) there is w.0 (λ e. cc e) w.1
  take_taken number now ticket octets read job
      (Err unmades.LogFault) before there is fly (inr (Confirmed p s, own, w)) =
      stopped_so number now ticket octets read job (Confirmed p s) there is w.0 (λ e. cc e) w.1
  take_taken number now ticket octets read job (Err unmades.LogFault) before there is fly (inr (Refused f, own, w)) =
      stopped_so number now ticket octets read job (Refused f) there is w.0 (λ e. cc e) w.1
  take_taken number now ticket octets read job
      (Err unmades.LogFault) before there is fly (inr (PolicyRefused d, own, w)) =
      stopped_so number now ticket octets read job (PolicyRefused d) there is w.0 (λ e. cc e) w.1
  take_taken number now ticket octets read job (Err unmades.LogFault) before there is fly (inr (Stale p, own, w)) =
      stopped_so number now ticket octets read job (Stale p) there is w.0 (λ e. cc e) w.1
  take_taken number now ticket octets read job (Err unmades.LogFault) before there is fly (inr (OutOfMemory, own, w)) =
      stops_writing _ k.core [] w.1 (prefix_nothing _ h.written k.written w.1.written)
      (take_starved number now octets job (job_in h.core.flight ticket) w.0)
  take_taken number now ticket octets read job (Err (unmades.NotInFlight absent)) before there is fly w =
      absurd (w.none fly)

  -- ---- a job is asked for
  pub unhanded_failed : (now : ℕ) (fault : LogFault) → h.failed ≡ false → IsHandedOut h now (Err fault) k
      → k.failed ≡ false → ⊥
  unfolding IsHandedOut
  unhanded_failed now fault before (inl stays) still = unchanged before stays
  unhanded_failed now fault before (inr (answer, due, w)) still = cc (w.failed, still)

  pub unhanded_taken : (now : ℕ) (fault : LogFault) (number : ℕ) → h.failed ≡ false → IsHandedOut h now (Err fault) k
      → IsTaken (job_turn h.core now) number h (Err stops.Write) k
  unfolding IsHandedOut IsTaken
  unhanded_taken now fault number before (inl stays) = unchanged before stays
  unhanded_taken now fault number before (inr (due.Job job, is, w)) = stops_writing (job_turn h.core now) k.core
      (job_line job) w (rw (← is.0) w.written) (job_stops now (due.Job job) is)
  unhanded_taken now fault number before (inr (due.Idle quiet, is, w)) = stops_writing (job_turn h.core now) k.core []
      w (prefix_nothing _ h.written k.written w.written) (job_stops now (due.Idle quiet) is)
  unhanded_taken now fault number before (inr (due.Full quiet, is, w)) = stops_writing (job_turn h.core now) k.core []
      w (prefix_nothing _ h.written k.written w.written) (job_stops now (due.Full quiet) is)
  unhanded_taken now fault number before (inr (due.OutOfMemory, is, w)) = stops_writing (job_turn h.core now) k.core []
      w (prefix_nothing _ h.written k.written w.written) (job_stops now due.OutOfMemory is)

  pub handed_taken : (now : ℕ) (job : JobOf) (number : ℕ) → IsHandedOut h now (Ok (due.Job job)) k
      → IsTaken (job_turn h.core now) number h (Ok took.Done) k
  unfolding IsHandedOut IsTaken
  handed_taken now job number w =
      let turn : job_turn h.core now ≡ goes_on (job_line job) (running k.core) = rw (← w.0.0, w.0.1) refl in
      rw turn (goes (job_line job) k.core w.1)

  pub handed_flight : (now : ℕ) (job : JobOf) → IsHandedOut h now (Ok (due.Job job)) k
      → k.core.flight ≡ h.core.flight ++ job ∷ []
  unfolding IsHandedOut
  handed_flight now job w = ap (λ (c : Core). c.flight) w.0.1

  pub starving_taken : (now number : ℕ) → IsHandedOut h now (Ok due.OutOfMemory) k
      → IsTaken (job_turn h.core now) number h (Err stops.OutOfMemory) k
  unfolding IsHandedOut IsTaken
  starving_taken now number w = starved_so (job_turn h.core now) w.1 (job_stops now due.OutOfMemory w.0)

  pub idle_flight : (now : ℕ) (quiet : QuietOf) → IsHandedOut h now (Ok (due.Idle quiet)) k
      → k.core.flight ≡ h.core.flight
  unfolding IsHandedOut
  idle_flight now quiet w = ap (λ (c : Core). c.flight) w.0.1

  pub full_flight : (now : ℕ) (quiet : QuietOf) → IsHandedOut h now (Ok (due.Full quiet)) k
      → k.core.flight ≡ h.core.flight
  unfolding IsHandedOut
  full_flight now quiet w = ap (λ (c : Core). c.flight) w.0.1

  pub starving_flight : (now : ℕ) → IsHandedOut h now (Ok due.OutOfMemory) k → k.core.flight ≡ h.core.flight
  unfolding IsHandedOut
  starving_flight now w = ap (λ (c : Core). c.flight) w.0

  pub handed_open : (now : ℕ) (answer : Due) → IsHandedOut h now (Ok answer) k → k.failed ≡ false
  unfolding IsHandedOut
  handed_open now answer w = w.1.failed

-- a call writes one part of a text, and what follows the other
then_taken : (h k l : Held) (turn : Turn State End) (first line : Octets) (number : ℕ) (r : Result Took TurnError)
    → turn ≡ goes_on (first ++ line) (running k.core) → Gains first h.written k.written → k.faults ≡ h.faults
    → IsTaken (goes_on line (running k.core)) number k r l → IsTaken turn number h r l
unfolding IsTaken
then_taken h k l turn first line number (Ok took.Done) is written faults w =
    let same : goes_on line (running k.core) ≡ goes_on w.does.0 (running l.core) = w.does.1 in
    let text : line ≡ w.does.0 = cc same in
    let core : running k.core ≡ running l.core = cc same in
    record {
      does = (
        first ++ line,
        is ∙ ap (λ (x : State). goes_on (first ++ line) x) core,
        gains_two first line h.written k.written l.written written (rw text w.does.2),
      );
      faults = w.faults ∙ faults;
      failed = w.failed;
    }
then_taken h k l turn first line number (Ok took.Bad) is written faults w = absurd (cc (w.0))
then_taken h k l turn first line number (Err error) is written faults w = record {
  part = rw is (prefix_second first line h.written k.written l.written written w.part);
  later = omega (arith, w.later, faults);
  cause = λ e. rw (← faults) (w.cause e);
  list = rw is w.list;
}

pub idle_then : (h k l : Held) (now number : ℕ) (quiet : QuietOf) (r : Result Took TurnError)
    → IsHandedOut h now (Ok (due.Idle quiet)) k → IsTaken (goes_on (codes "job idle\n") (running k.core)) number k r l
    → IsTaken (job_turn h.core now) number h r l
unfolding IsHandedOut
idle_then h k l now number quiet r w taken =
    let turn : job_turn h.core now ≡ goes_on ([] ++ codes "job idle\n") (running k.core) = rw (← w.0.0, w.0.1) refl in
    then_taken h k l (job_turn h.core now) [] (codes "job idle\n") number r turn w.1.written w.1.faults taken

pub full_then : (h k l : Held) (now number : ℕ) (quiet : QuietOf) (r : Result Took TurnError)
    → IsHandedOut h now (Ok (due.Full quiet)) k → IsTaken (goes_on (codes "job full\n") (running k.core)) number k r l
    → IsTaken (job_turn h.core now) number h r l
unfolding IsHandedOut
full_then h k l now number quiet r w taken =
    let turn : job_turn h.core now ≡ goes_on ([] ++ codes "job full\n") (running k.core) = rw (← w.0.0, w.0.1) refl in
    then_taken h k l (job_turn h.core now) [] (codes "job full\n") number r turn w.1.written w.1.faults taken

pub heard_then : (h k l : Held) (peer : Peer) (request : Octets) (zone : Name) (how : Heard) (told : Page) (number : ℕ)
    (r : Result Took TurnError) → IsHeard h peer zone (Ok (how, told)) k
    → IsTaken (goes_on (reply_text (notify_reply_of request how)) (running k.core)) number k r l
    → IsTaken (notify_turn h.core peer request zone) number h r l
unfolding IsHeard
heard_then h k l peer request zone how told number r w taken =
    let turn : notify_turn h.core peer request zone
    ≡ goes_on (notify_line zone how ++ reply_text (notify_reply_of request how)) (running k.core) =
    rw (← w.0, w.1.core) refl in
    then_taken h k l (notify_turn h.core peer request zone) (notify_line zone how)
    (reply_text (notify_reply_of request how)) number r turn w.1.written w.1.faults taken

-- ---- memory runs out before anything was done, and a bad line
pub wanting : (h : Held) (turn : Turn State End) (number : ℕ) → IsListBefore (running h.core) (turn_state turn)
    → IsTaken turn number h (Err stops.OutOfMemory) h
unfolding IsTaken
wanting h turn number before = stops_starved h h turn refl refl before

pub bad_taken : (h : Held) (turn : Turn State End) (number : ℕ) → turn ≡ bad_line (running h.core) number
    → IsTaken turn number h (Ok took.Bad) h
unfolding IsTaken
bad_taken h turn number is = (is, refl)

-- a turn that says nothing
pub silent_taken : (h : Held) (turn : Turn State End) (number : ℕ) → h.failed ≡ false
    → turn ≡ goes_on [] (running h.core) → IsTaken turn number h (Ok took.Done) h
unfolding IsTaken
silent_taken h turn number before is = record { does = ([], is, gains_none h.written); faults = refl; failed = before }
