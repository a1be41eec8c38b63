-- Events whose lines were all written.
use Rattle.std.proofs.Common.{◌≡◌, ◌+◌, ℕ, List, true, false, Result, Ok, Err, refl, sym, subst, arith}
use Rattle.dz_history.specs.declared.entry.Entry.{Entry}
use Rattle.dz_fleet.specs.Core.{Core}
use Rattle.std.specs.Prelude.{IfOk, OnOk, MatchResult}
use Rattle.dz_io.specs.declared.peer.Peer.{Peer}
use Rattle.dz_name.specs.Words.{Name, Octets}
use Rattle.dz_notify.specs.declared.notify.Heard.{Heard}
use Rattle.dz_job.specs.Job.{JobOf}
use Rattle.dz_job.specs.declared.verdict.Verdict.{Verdict}
use Rattle.dz_job.specs.declared.verdict.Verdict.TheVariants.{Published, Confirmed, Refused, PolicyRefused, Stale}
use Rattle.dz_job.specs.declared.verdict.Verdict.TheVariants.{OutOfMemory}
use Rattle.dz_job.specs.declared.verdict.Failure.{Failure}
use Rattle.dz_job.specs.declared.verdict.Failure.TheVariants as failures
use Rattle.dz_desk.specs.Seen.{Page}
use Rattle.dz_desk.specs.declared.ear.Hearing.TheVariants as hearing
use Rattle.dz_provision.specs.declared.provisioner.LogFault.{LogFault}
use Rattle.dz_provision.specs.declared.provisioner.Unmade.{Unmade}
use Rattle.dz_provision.specs.declared.provisioner.Unmade.TheVariants as unmade
use Rattle.dz_provision.specs.inner.Ready.{is_want}
use Rattle.dz_provision.specs.Witness.{WitnessOf, IsWitnessOf}
use Rattle.dz_provision.specs.Held.{Held, IsSettled, IsFailed, IsHeard, Starves, IsSettledAloud, IsFailedAloud}
use Rattle.dz_provision.specs.Held.{IsStarvedAloud, IsHeardAloud}
use Rattle.dz_provision.specs.Endings.{settled_ending, starved_ending, starved_in}

-- a verdict that isn't want of memory, and want of memory whose line was said
module _ (h : Held) (job : JobOf) (octets : Octets) (now : ℕ) where
  pub aloud : (v : Verdict) (note : Page) (k : Held) → is_want v ≡ false → IsSettled h job octets now (Ok (v, note)) k
      → IsSettledAloud h job octets now v k
  unfolding IsSettledAloud
  aloud OutOfMemory note k other is = absurd (cc other)
  aloud (Published n serial aftermath) note k other is = (note, is)
  aloud (Confirmed n serial) note k other is = (note, is)
  aloud (Refused fault) note k other is = (note, is)
  aloud (PolicyRefused standing) note k other is = (note, is)
  aloud (Stale n) note k other is = (note, is)

  want_is : (v : Verdict) → is_want v ≡ true → v ≡ OutOfMemory
  want_is OutOfMemory is = refl
  want_is (Published n serial aftermath) is = absurd (cc is)
  want_is (Confirmed n serial) is = absurd (cc is)
  want_is (Refused fault) is = absurd (cc is)
  want_is (PolicyRefused standing) is = absurd (cc is)
  want_is (Stale n) is = absurd (cc is)

  starved : (r : Result Verdict Unmade) (note : Page) (between k : Held)
      → IsSettled h job octets now (Ok (OutOfMemory, note)) between
      → MatchResult r (λ v. v ≡ OutOfMemory) (λ u. u ≡ unmade.LogFault)
      → OnOk r (Starves between job.flight.zone k)
      → IfOk r (λ v. IsSettledAloud h job octets now v k)
  unfolding IsSettledAloud
  starved (Ok v) note between k is want said = rw want (between, note, is, said)
  starved (Err u) note between k is want said = tt

  pub aloud_starved : (v : Verdict) (r : Result Verdict Unmade) (note : Page) (between k : Held)
      → is_want v ≡ true → IsSettled h job octets now (Ok (v, note)) between
      → MatchResult r (λ v. v ≡ OutOfMemory) (λ u. u ≡ unmade.LogFault)
      → OnOk r (Starves between job.flight.zone k)
      → IfOk r (λ v. IsSettledAloud h job octets now v k)
  aloud_starved v r note between k wants is =
      starved r note between k (subst (λ w. IsSettled h job octets now (Ok (w, note)) between) (want_is v wants) is)

-- ---- what the share counts of a job that ended
-- its verdict isn't want of memory
pub uncounted : (job : JobOf) (octets : Octets) (now : ℕ) (v : Verdict) → is_want v ≡ false
    → starved_in (settled_ending job octets now (Ok v)) ≡ 0
uncounted job octets now OutOfMemory other = absurd (cc other)
uncounted job octets now (Published n serial aftermath) other = refl
uncounted job octets now (Confirmed n serial) other = refl
uncounted job octets now (Refused fault) other = refl
uncounted job octets now (PolicyRefused standing) other = refl
uncounted job octets now (Stale n) other = refl

-- it is, and its line was said, or couldn't be written
pub counted : (r : Result Verdict Unmade) (job : JobOf) (octets : Octets) (now before after : ℕ)
    → MatchResult r (λ v. v ≡ OutOfMemory) (λ u. u ≡ unmade.LogFault)
    → MatchResult r (λ v. after ≡ before + 1) (λ u. after ≡ before)
    → after ≡ before + starved_in (settled_ending job octets now r)
counted (Ok v) job octets now before after want is = rw want is
counted (Err u) job octets now before after want is = omega (arith, is)

-- the same of a job that failed for want of memory
pub counted_failed : (r : Result Failure Unmade) (job : JobOf) (now before after : ℕ)
    → MatchResult r (λ f. f ≡ failures.Failed) (λ u. u ≡ unmade.LogFault)
    → MatchResult r (λ f. after ≡ before + 1) (λ u. after ≡ before)
    → after ≡ before + starved_in (starved_ending job now r)
counted_failed (Ok f) job now before after want is = rw want is
counted_failed (Err u) job now before after want is = omega (arith, is)

-- ---- jobs that failed
pub failed_aloud : (h k : Held) (job : JobOf) (now : ℕ) (f : Failure) (note : Page)
    → IsFailed h job now (Ok (f, note)) k → IsFailedAloud h job now f k
unfolding IsFailedAloud
failed_aloud h k job now f note is = (note, is)

-- a job that failed for want of memory: it is stale, or its second line was said
pub stale_aloud : (h k : Held) (job : JobOf) (now : ℕ) (f : Failure) (n : ℕ) → f ≡ failures.Stale n
    → IsFailedAloud h job now f k → IsStarvedAloud h job now (failures.Stale n) k
unfolding IsStarvedAloud
stale_aloud h k job now f n stale is = subst (λ x. IsFailedAloud h job now x k) stale is

pub failed_starved : (h between k : Held) (job : JobOf) (now : ℕ) (f : Failure) (r : Result Failure Unmade)
    → f ≡ failures.Failed → IsFailedAloud h job now f between
    → MatchResult r (λ g. g ≡ failures.Failed) (λ u. u ≡ unmade.LogFault)
    → OnOk r (Starves between job.flight.zone k)
    → IfOk r (λ g. IsStarvedAloud h job now g k)
unfolding IsStarvedAloud
failed_starved h between k job now f (Ok g) own is want said =
    rw want (between, subst (λ x. IsFailedAloud h job now x between) own is, said)
failed_starved h between k job now f (Err u) own is want said = tt

pub heard_aloud : {W : Type 0} → (h k : Held) (peer : Peer) (zone : Name) (how : Heard) (witness : W) (note : Page)
    → IsHeard h peer zone (Ok (how, note)) k
    → IsHeardAloud h peer zone (hearing.Heard how witness) k
unfolding IsHeardAloud
heard_aloud h k peer zone how witness note is = (note, is)

pub fault_aloud : (W : Type 0) (h k : Held) (peer : Peer) (zone : Name) (fault : LogFault)
    → IsHeard h peer zone (Err fault) k → IsHeardAloud {W = W} h peer zone hearing.LogFault k
unfolding IsHeardAloud
fault_aloud W h k peer zone fault is = (fault, is)

-- the cores before and after a NOTIFY that was heard after a list show how it was heard
pub heard_witness : (h k : Held) (peer : Peer) (zone : Name) (how : Heard) (note : Page) (entries : List Entry)
    (w : WitnessOf) (before after : Core) → IsHeard h peer zone (Ok (how, note)) k
    → entries ≡ h.core.list → w ≡ record { before = before; after = after } → before ≡ h.core → after ≡ k.core
    → IsWitnessOf w entries peer zone how
unfolding IsHeard
heard_witness h k peer zone how note entries w before after is list w_is before_is after_is =
    rw (w_is, before_is, after_is) (record { list = sym list; heard = is.0; after = is.1.core })
