-- What events leave of the jobs in flight, and what they say.
use Rattle.std.proofs.Common.{◌≡◌, ◌≢◌, ℕ, Bool, true, false, length, take, arith, refl, sym, ◌∙◌, ap, subst, Option}
use Rattle.std.proofs.Common.{Some, None, IsSome, Result, Ok, Err}
use Rattle.std.specs.Prelude.{if◌then◌else◌, slice_get, IfOk}
use Rattle.std.proofs.lemmas.List.{take_all}
use Rattle.dz_name.specs.Words.{Name, Octets}
use Rattle.dz_message.specs.Frame.{messages_in}
use Rattle.dz_take.specs.Outcome.{decided, or_incomplete, outcome}
use Rattle.dz_take.specs.Transfer.{Decision, refused}
use Rattle.dz_take.specs.declared.outcome.TakeFault.TheVariants.{Incomplete}
use Rattle.dz_history.specs.Signed.{tsig_in}
use Rattle.dz_history.specs.State.{key_at}
use Rattle.dz_job.specs.Job.{JobOf, transfer_for}
use Rattle.dz_job.specs.declared.verdict.Verdict.{Verdict}
use Rattle.dz_job.specs.declared.verdict.Verdict.TheVariants.{Published, Confirmed, Refused, PolicyRefused, Stale}
use Rattle.dz_job.specs.declared.verdict.Verdict.TheVariants.{OutOfMemory}
use Rattle.dz_fleet.specs.Core.{Core, ended_of, failure_of, others, after_failure, after_refusal, is_old_serial}
use Rattle.dz_fleet.specs.Core.{after_success, screened, state_of, tsig_of, verdict_from, verdict_of, used_of}
use Rattle.dz_fleet.specs.Core.{after_end, after_verdict, settled, failed_core}
use Rattle.dz_fleet.specs.Answers.{IsOffered}
use Rattle.dz_job.specs.declared.verdict.Failure.{Failure}
use Rattle.dz_fleet.proofs.TakeLemmas.{screened_refused}
use Rattle.dz_job.specs.Stream.{IsReadOf}
use Rattle.dz_report.specs.Lines.{verdict_lines, failure_line}
use Rattle.dz_script.specs.Script.{Turn, goes_on, ends}
use Rattle.std.specs.declared.alloc.AllocError.{AllocError}
use Rattle.dz_run.specs.Answering.{bad, turn_from}
use Rattle.dz_run.specs.Flight.{job_in}
use Rattle.dz_run.specs.Replaying.{State, running, take_turn, fail_turn}
use Rattle.dz_run.specs.declared.answering.End.{End}
use Rattle.dz_run.specs.declared.answering.End.TheVariants.{BadInput}
use Rattle.dz_run.specs.declared.answering.Saying.{Saying}

-- ---- which jobs stay in flight
end_flight : (c : Core) (job : JobOf) (now : ℕ) (position : Option ℕ)
    → (after_end c job now position).flight ≡ others c.flight job
end_flight c job now (Some position) = refl
end_flight c job now None = refl

pub failed_flight : (c : Core) (job : JobOf) (now : ℕ) → (failed_core c job now).flight ≡ others c.flight job
failed_flight c job now = end_flight c job now (ended_of c job)

either_flight : (c : Core) (job : JobOf) (now : ℕ) (b : Bool)
    → (if b then after_failure c job now else after_refusal c job now).flight ≡ others c.flight job
either_flight c job now true = refl
either_flight c job now false = refl

verdict_flight : (c : Core) (job : JobOf) (octets : Octets) (now : ℕ) (verdict : Verdict)
    → (after_verdict c job octets now verdict).flight ≡ others c.flight job
unfolding after_success
verdict_flight c job octets now (Published position serial aftermath) = refl
verdict_flight c job octets now (Confirmed position serial) = refl
verdict_flight c job octets now (Refused fault) = either_flight c job now (is_old_serial fault)
verdict_flight c job octets now (PolicyRefused standing) = refl
verdict_flight c job octets now (Stale position) = refl
verdict_flight c job octets now OutOfMemory = failed_flight c job now

settled_flight : (c d : Core) (job : JobOf) (octets : Octets) (now : ℕ) → d ≡ settled c job octets now
    → d.flight ≡ others c.flight job
settled_flight c d job octets now is =
    ap (λ (d : Core). d.flight) is ∙ verdict_flight c job (used_of job octets) now (verdict_of c job octets)

pub offered_flight : (c d : Core) (job : JobOf) (octets : Octets) (now : ℕ) (verdict : Verdict)
    → IsOffered c job octets now verdict d → d.flight ≡ others c.flight job
offered_flight c d job octets now OutOfMemory is = ap (λ (d : Core). d.flight) is ∙ failed_flight c job now
offered_flight c d job octets now (Published position serial aftermath) is = settled_flight c d job octets now is.1
offered_flight c d job octets now (Confirmed position serial) is = settled_flight c d job octets now is.1
offered_flight c d job octets now (Refused fault) is = settled_flight c d job octets now is.1
offered_flight c d job octets now (PolicyRefused standing) is = settled_flight c d job octets now is.1
offered_flight c d job octets now (Stale position) is = settled_flight c d job octets now is.1

-- ---- what was read of a job's octets has the same end as all of them
refused_same : (c : Core) (job : JobOf) (a b : Octets) (now : ℕ) (position : Option ℕ)
    → after_verdict c job a now (verdict_from c job (refused Incomplete) position)
    ≡ after_verdict c job b now (verdict_from c job (refused Incomplete) position)
refused_same c job a b now (Some position) = refl
refused_same c job a b now None = refl

verdict_by : (c : Core) (job : JobOf) (a b : Octets) → tsig_of c job a ≡ tsig_of c job b
    → outcome (transfer_for job) a ≡ outcome (transfer_for job) b → verdict_of c job a ≡ verdict_of c job b
unfolding verdict_of
verdict_by c job a b same is = λ i. verdict_from c job (screened (same i) (is i)) (ended_of c job)

used_same : (job : JobOf) (octets read : Octets) → IsReadOf (transfer_for job) octets read
    → IsSome (decided (transfer_for job) (messages_in octets)) → used_of job read ≡ used_of job octets
used_same job octets read is some =
    let all : used_of job read ≡ read = ap (λ n. take n read) is.all ∙ take_all (length read) read (omega arith) in
    all ∙ is.used some

tsig_same : (c : Core) (job : JobOf) (octets read : Octets) → IsReadOf (transfer_for job) octets read
    → IsSome (decided (transfer_for job) (messages_in octets)) → tsig_of c job read ≡ tsig_of c job octets
unfolding tsig_of
tsig_same c job octets read is some =
    ap (λ (o : Octets). tsig_in (key_at (state_of c) job.flight.zone) (transfer_for job) o job.flight.moment)
    (used_same job octets read is some)

verdict_incomplete : (c : Core) (job : JobOf) (octets : Octets) → outcome (transfer_for job) octets
    ≡ refused Incomplete → verdict_of c job octets ≡ verdict_from c job (refused Incomplete) (ended_of c job)
unfolding verdict_of
verdict_incomplete c job octets is =
    ap (λ (d : Decision). verdict_from c job (screened (tsig_of c job octets) d) (ended_of c job)) is
    ∙ ap (λ (d : Decision). verdict_from c job d (ended_of c job)) (screened_refused (tsig_of c job octets) Incomplete)

none_incomplete : (job : JobOf) (octets : Octets) → decided (transfer_for job) (messages_in octets) ≡ None
    → outcome (transfer_for job) octets ≡ refused Incomplete
none_incomplete job octets none = ap or_incomplete none

same_by : (c : Core) (job : JobOf) (octets read : Octets) (decision : Option Decision)
    → IsReadOf (transfer_for job) octets read → decided (transfer_for job) (messages_in octets) ≡ decision
    → verdict_of c job read ≡ verdict_of c job octets
same_by c job octets read (Some decision) is decides =
    verdict_by c job read octets (tsig_same c job octets read is (rw decides refl)) is.outcome
same_by c job octets read None is none =
    let incomplete = none_incomplete job octets none in
    verdict_incomplete c job read (is.outcome ∙ incomplete) ∙ sym (verdict_incomplete c job octets incomplete)

verdict_same : (c : Core) (job : JobOf) (octets read : Octets) → IsReadOf (transfer_for job) octets read
    → verdict_of c job read ≡ verdict_of c job octets
verdict_same c job octets read is = same_by c job octets read (decided (transfer_for job) (messages_in octets)) is refl

settled_by : (c : Core) (job : JobOf) (octets read : Octets) (now : ℕ) (decision : Option Decision)
    → IsReadOf (transfer_for job) octets read → decided (transfer_for job) (messages_in octets) ≡ decision
    → settled c job read now ≡ settled c job octets now
settled_by c job octets read now (Some decision) is decides =
    let some : IsSome (decided (transfer_for job) (messages_in octets)) = rw decides refl in
    ap (λ (v : Verdict). after_verdict c job (used_of job read) now v) (verdict_same c job octets read is)
    ∙ ap (λ (o : Octets). after_verdict c job o now (verdict_of c job octets)) (used_same job octets read is some)
settled_by c job octets read now None is none =
    let incomplete = verdict_incomplete c job octets (none_incomplete job octets none) in
    ap (λ (v : Verdict). after_verdict c job (used_of job read) now v) (verdict_same c job octets read is ∙ incomplete)
    ∙ refused_same c job (used_of job read) (used_of job octets) now (ended_of c job)
    ∙ ap (λ (v : Verdict). after_verdict c job (used_of job octets) now v) (sym incomplete)

-- ---- what is said, and what is left
abbrev told : Octets → Core → Turn State End
told text c = goes_on text (running c)

taken_so : (c d : Core) (number now : ℕ) (octets read : Octets) (job : JobOf) (verdict : Verdict) (text : Octets)
    → IsReadOf (transfer_for job) octets read → (verdict ≡ verdict_of c job read) × (d ≡ settled c job read now)
    → text ≡ verdict_lines job.flight.zone verdict
    → take_turn c number now octets (Some job) ≡ goes_on text (running d)
taken_so c d number now octets read job verdict text is so said =
    let same : settled c job octets now ≡ d =
    sym (settled_by c job octets read now (decided (transfer_for job) (messages_in octets)) is refl) ∙ sym so.1 in
    let lines : verdict_lines job.flight.zone (verdict_of c job octets) ≡ text =
    ap (verdict_lines job.flight.zone) (sym (verdict_same c job octets read is) ∙ sym so.0) ∙ sym said in
    ap (λ (t : Octets). told t (settled c job octets now)) lines ∙ ap (λ (d : Core). told text d) same

pub taken_turn : (c d : Core) (number now : ℕ) (octets read : Octets) (job : JobOf) (verdict : Verdict) (text : Octets)
    → IsReadOf (transfer_for job) octets read → IsOffered c job read now verdict d → verdict ≢ OutOfMemory
    → text ≡ verdict_lines job.flight.zone verdict
    → take_turn c number now octets (Some job) ≡ goes_on text (running d)
taken_turn c d number now octets read job OutOfMemory text is so room said = absurd (room refl)
taken_turn c d number now octets read job (Published position serial aftermath) text is so room said =
    taken_so c d number now octets read job (Published position serial aftermath) text is so said
taken_turn c d number now octets read job (Confirmed position serial) text is so room said =
    taken_so c d number now octets read job (Confirmed position serial) text is so said
taken_turn c d number now octets read job (Refused fault) text is so room said =
    taken_so c d number now octets read job (Refused fault) text is so said
taken_turn c d number now octets read job (PolicyRefused standing) text is so room said =
    taken_so c d number now octets read job (PolicyRefused standing) text is so said
taken_turn c d number now octets read job (Stale position) text is so room said =
    taken_so c d number now octets read job (Stale position) text is so said

pub take_said : (c d : Core) (number now ticket : ℕ) (octets read : Octets) (job : JobOf) (zone : Name)
    (verdict : Verdict) (r : Result Saying AllocError) → job_in c.flight ticket ≡ Some job → zone ≡ job.flight.zone
    → IsReadOf (transfer_for job) octets read → IsOffered c job read now verdict d → IfOk r
    (λ s. verdict ≢ OutOfMemory) → IfOk r (λ s. (s.text.items ≡ verdict_lines zone verdict) × (s.ending ≡ None))
    → IfOk r
    (λ s. take_turn c number now octets (job_in c.flight ticket) ≡ turn_from s.text.items s.ending (running d))
take_said c d number now ticket octets read job zone verdict (Err error) there own is so room said = tt
take_said c d number now ticket octets read job zone verdict (Ok s) there own is so room said =
    ap (λ (j : Option JobOf). take_turn c number now octets j) there
    ∙ taken_turn c d number now octets read job verdict s.text.items is so room
    (said.0 ∙ ap (λ (z : Name). verdict_lines z verdict) own)
    ∙ ap (λ (e : Option End). turn_from {E = End} s.text.items e (running d)) (sym said.1)

pub fail_said : (c d : Core) (number now ticket : ℕ) (job : JobOf) (zone : Name) (failure : Failure) (text : Octets)
    (r : Result Saying AllocError) → job_in c.flight ticket ≡ Some job → zone ≡ job.flight.zone
    → failure ≡ failure_of (ended_of c job) → d ≡ failed_core c job now → text ≡ failure_line zone failure
    → IfOk r (λ s. (s.text.items ≡ text) × (s.ending ≡ None))
    → IfOk r (λ s. fail_turn c number now (job_in c.flight ticket) ≡ turn_from s.text.items s.ending (running d))
fail_said c d number now ticket job zone failure text (Err error) there own so left line said = tt
fail_said c d number now ticket job zone failure text (Ok s) there own so left line said =
    let line : failure_line job.flight.zone (failure_of (ended_of c job)) ≡ s.text.items =
    ap (λ (z : Name). failure_line z (failure_of (ended_of c job))) (sym own)
    ∙ ap (λ (f : Failure). failure_line zone f) (sym so) ∙ sym line ∙ sym said.0 in
    ap (λ (j : Option JobOf). fail_turn c number now j) there
    ∙ ap (λ (t : Octets). told t (failed_core c job now)) line ∙ ap (λ (d : Core). told s.text.items d) (sym left)
    ∙ ap (λ (e : Option End). turn_from {E = End} s.text.items e (running d)) (sym said.1)

-- a line that is bad
pub bad_said : (number : ℕ) (state : State) (turn : Turn State End) (r : Result Saying AllocError)
    → turn ≡ ends (bad number) state BadInput → IfOk r (λ s. (s.text.items ≡ bad number) × (s.ending ≡ Some BadInput))
    → IfOk r (λ s. turn ≡ turn_from s.text.items s.ending state)
bad_said number state turn (Err error) is said = tt
bad_said number state turn (Ok s) is said = is ∙ (rw (said.0, said.1) refl)

-- ---- the job at a place
pub at_job : (P : Core → JobOf → Type 0) (c d : Core) (place : ℕ) (job : JobOf) → c ≡ d → slice_get c.flight place
    ≡ Some job → P c job → (other : JobOf) → slice_get d.flight place ≡ Some other → P d other
at_job P c d place job same there p other e =
    let again : slice_get c.flight place ≡ Some other = ap (λ (x : Core). slice_get x.flight place) same ∙ e in
    let two : Some job ≡ Some other = sym there ∙ again in
    let one : job ≡ other = cc in
    subst (λ (x : Core). P x other) same (subst (λ (j : JobOf). P c j) one p)
