-- What a call makes of what is under the lock, by what its write leaves.
use Rattle.std.proofs.Common.{◌≡◌, ℕ, ◌+◌, ◌-◌, ◌<◌, ◌≤◌, ◌^◌, true, false, List, [], ◌∷◌, length, arith, Option, None}
use Rattle.std.proofs.Common.{Some, Result, Ok, Err, refl, sym, ap, subst, ◌∙◌, inl, inr, ◌++◌}
use Rattle.std.specs.Prelude.{MatchBool, IsErr, IfOk, OnErr}
use Rattle.std.proofs.lemmas.List.{append-nil, length-append}
use Rattle.dz_io.specs.Counts.{HasRisen}
use Rattle.dz_io.specs.Device.{Gains}
use Rattle.dz_io.specs.declared.peer.Peer.{Peer}
use Rattle.dz_name.specs.Words.{Name, Octets}
use Rattle.dz_notify.specs.declared.notify.Heard.{Heard}
use Rattle.dz_history.specs.declared.entry.Entry.{Entry}
use Rattle.dz_job.specs.Job.{JobOf}
use Rattle.dz_job.specs.declared.verdict.Verdict.{Verdict}
use Rattle.dz_job.specs.declared.verdict.Verdict.TheVariants.{OutOfMemory}
use Rattle.dz_job.specs.declared.verdict.Failure.{Failure}
use Rattle.dz_fleet.specs.declared.due.Due.{Due}
use Rattle.dz_fleet.specs.Core.{Core, failed_core, failure_of, ended_of, heard_of, after_notify}
use Rattle.dz_fleet.specs.Answers.{IsDue, IsOffered}
use Rattle.dz_fleet.specs.Sound.{IsSound, IsAmong, IsFlying}
use Rattle.dz_job.specs.declared.flight.Flight.{Flight}
use Rattle.dz_fleet.specs.Absence.{AbsentOf, absent_of}
use Rattle.dz_history.specs.Heard.{heard_at}
use Rattle.dz_desk.specs.Seen.{Book, Page}
use Rattle.dz_report.specs.Lines.{failure_line, notify_line, verdict_lines}
use Rattle.dz_provision.specs.Log.{IsLogged, due_lines, settled_lines}
use Rattle.dz_provision.specs.Held.{Held, Logs, Breaks, Stays, IsNone, IsHandedOut, IsSettled, IsFailed, IsHeard}
use Rattle.dz_provision.specs.Held.{IsSaid, Starves, Notes}
use Rattle.dz_provision.specs.inner.Writing.{Log, IsWritten, answered, ended}
use Rattle.dz_provision.specs.inner.Ready.{IsStarved}
use Rattle.dz_provision.specs.declared.provisioner.LogFault.{LogFault}
use Rattle.dz_provision.specs.declared.provisioner.Unmade.TheVariants as unmade
use Rattle.dz_provision.proofs.LogLemmas.{JoinsBy, Joins, joins_starved, logged_on, logged_off, risen}

abbrev pub in_log : Held → Log
in_log h = record { written = h.written; faults = h.faults; failed = h.failed }

-- ---- the facts of the lock
pub record Agrees (list : List Entry) (count : ℕ) (b : Log) : Type 0 where
  pub logged : IsLogged list count b.written b.failed
  pub cause : MatchBool b.failed (HasRisen 0 b.faults) (b.faults ≡ 0)

-- once the lines are written
pub agrees_with : {count : ℕ} (list later : List Entry) (next : ℕ → ℕ) (lines : Octets) (done : Unit {0}) (a b : Log)
    → a.failed ≡ false → Agrees list count a → JoinsBy next list lines later → IsWritten lines (Ok done) a b
    → Agrees later (next count) b
unfolding IsWritten
agrees_with {count} list later next lines done a b before ok joins w =
    let failed : b.failed ≡ false = w.1.1 ∙ before in
    let log : IsLogged list count a.written false = subst (IsLogged list count a.written) before ok.logged in
    let none : a.faults ≡ 0 = let c = ok.cause in rw before at c in
    record {
      logged =
          subst (IsLogged later (next count) b.written) (sym failed)
          (logged_on list later next count lines a.written b.written joins log w.0);
      cause = subst (λ x. MatchBool x (HasRisen 0 b.faults) (b.faults ≡ 0)) (sym failed) (w.1.0 ∙ none);
    }

-- where the write has failed, the count is what it was
pub agrees_off : {count : ℕ} (list later : List Entry) (next : ℕ → ℕ) (lines : Octets) (fault : LogFault) (a b : Log)
    → a.failed ≡ false → Agrees list count a → JoinsBy next list lines later → IsWritten lines (Err fault) a b
    → Agrees later count b
unfolding IsWritten
agrees_off {count} list later next lines fault a b before ok joins w =
    let log : IsLogged list count a.written false = subst (IsLogged list count a.written) before ok.logged in
    let none : a.faults ≡ 0 = let c = ok.cause in rw before at c in
    record {
      logged =
          subst (IsLogged later count b.written) (sym w.1.1.1)
          (logged_off list later next count lines a.written b.written joins log w.0);
      cause = subst (λ x. MatchBool x (HasRisen 0 b.faults) (b.faults ≡ 0)) (sym w.1.1.1)
          (risen a.faults b.faults none w.1.1.0);
    }

-- lines that tell of no want of memory
pub agrees : {count : ℕ} (list later : List Entry) (lines : Octets) (r : Result (Unit {0}) LogFault) (a b : Log)
    → a.failed ≡ false → Agrees list count a → Joins list lines later → IsWritten lines r a b
    → Agrees later count b
agrees list later lines (Ok done) a b before ok joins w =
    agrees_with list later (λ n. n) lines done a b before ok joins w
agrees list later lines (Err fault) a b before ok joins w =
    agrees_off list later (λ n. n) lines fault a b before ok joins w

-- the line of want of memory, written and counted
pub agrees_starved : {count : ℕ} (list : List Entry) (zone : Name) (done : Unit {0}) (a b : Log) → a.failed ≡ false
    → Agrees list count a → IsWritten (verdict_lines zone OutOfMemory) (Ok done) a b → Agrees list (count + 1) b
agrees_starved list zone done a b before ok w =
    agrees_with list list (λ n. n + 1) (verdict_lines zone OutOfMemory) done a b before ok (joins_starved list zone) w

-- the same where the write has failed
pub agrees_unstarved : {count : ℕ} (list : List Entry) (zone : Name) (fault : LogFault) (a b : Log)
    → a.failed ≡ false → Agrees list count a → IsWritten (verdict_lines zone OutOfMemory) (Err fault) a b
    → Agrees list count b
agrees_unstarved list zone fault a b before ok w =
    agrees_off list list (λ n. n + 1) (verdict_lines zone OutOfMemory) fault a b before ok (joins_starved list zone) w

-- a list that has begun stays so
pub still_begun : (list later : List Entry) → later ≡ list → 0 < length list → 0 < length later
still_begun list later same some = rw same some

pub begun_with : (list later : List Entry) (e : Entry) → later ≡ list ++ e ∷ [] → 0 < length later
begun_with list later e is = omega (arith, ap length is, length-append list (e ∷ []))

-- what holds of each answer
pub always_ok : {T E : Type 0} (P : T → Type 0) (r : Result T E) → ((t : T) → P t) → IfOk r P
always_ok P (Ok t) each = each t
always_ok P (Err e) each = tt

-- what an answer tells where its line was written
pub told_so : {T : Type 0} (P : T → Type 0) (r : Result (Unit {0}) LogFault) (how : T) → P how
    → IfOk (answered r how) P
told_so P (Ok done) how p = p
told_so P (Err fault) how p = tt

-- ---- the calls
module _ (h k : Held) (before : h.failed ≡ false) (counts : k.starved ≡ h.starved) where
  logs : (next : Core) (lines : Octets) (done : Unit {0}) → k.core ≡ next
      → IsWritten lines (Ok done) (in_log h) (in_log k) → Logs h next lines k
  unfolding IsWritten
  logs next lines done is w =
      record {
        core = is;
        written = w.0;
        faults = w.1.0;
        before = before;
        failed = w.1.1 ∙ before;
        starved = counts;
      }

  breaks : (next : Core) (lines : Octets) (fault : LogFault) → k.core ≡ next
      → IsWritten lines (Err fault) (in_log h) (in_log k) → Breaks h next lines k
  unfolding IsWritten
  breaks next lines fault is w =
      record {
        core = is;
        written = w.0;
        later = w.1.0;
        faults = w.1.1.0;
        before = before;
        failed = w.1.1.1;
        starved = counts;
      }

  pub handed_so : (now : ℕ) (answer : Due) (r : Result (Unit {0}) LogFault) → IsDue h.core now answer k.core
      → IsWritten (due_lines answer) r (in_log h) (in_log k) → IsHandedOut h now (answered r answer) k
  unfolding IsHandedOut
  handed_so now answer (Ok done) due w = (due, logs k.core (due_lines answer) done refl w)
  handed_so now answer (Err fault) due w = inr (answer, due, breaks k.core (due_lines answer) fault refl w)

  pub heard_so : (peer : Peer) (zone : Name) (how : Heard) (told : Page) (r : Result (Unit {0}) LogFault)
      → how ≡ heard_of h.core peer zone → k.core ≡ after_notify h.core zone how
      → IsWritten (notify_line zone how) r (in_log h) (in_log k)
      → IsHeard h peer zone (answered r (how, told)) k
  unfolding IsHeard
  heard_so peer zone how told (Ok done) is core w =
      (is, logs (after_notify h.core zone how) (notify_line zone how) done core w)
  heard_so peer zone how told (Err fault) is core w =
      inr (subst (λ x. Breaks h (after_notify h.core zone x) (notify_line zone x) k) is
      (breaks (after_notify h.core zone how) (notify_line zone how) fault core w))

  pub failed_so : (job : JobOf) (now : ℕ) (failure : Failure) (told : Page) (r : Result (Unit {0}) LogFault)
      → IsFlying h.core job → failure ≡ failure_of (ended_of h.core job) → k.core ≡ failed_core h.core job now
      → IsWritten (failure_line job.flight.zone failure) r (in_log h) (in_log k)
      → IsFailed h job now (ended r (failure, told)) k
  unfolding IsFailed
  failed_so job now failure told (Ok done) fly is core w =
      (fly, (is, logs (failed_core h.core job now) (failure_line job.flight.zone failure) done core w))
  failed_so job now failure told (Err fault) fly is core w =
      inr (
        fly,
        subst (λ x. Breaks h (failed_core h.core job now) (failure_line job.flight.zone x) k) is
            (breaks (failed_core h.core job now) (failure_line job.flight.zone failure) fault core w),
      )

  pub settled_so : (job : JobOf) (octets : Octets) (now : ℕ) (verdict : Verdict) (told : Page)
      (r : Result (Unit {0}) LogFault) → IsFlying h.core job → IsOffered h.core job octets now verdict k.core
      → IsWritten (settled_lines job.flight.zone verdict) r (in_log h) (in_log k)
      → IsSettled h job octets now (ended r (verdict, told)) k
  unfolding IsSettled
  settled_so job octets now verdict told (Ok done) fly is w =
      (fly, (is, logs k.core (settled_lines job.flight.zone verdict) done refl w))
  settled_so job octets now verdict told (Err fault) fly is w =
      inr (verdict, fly, (is, breaks k.core (settled_lines job.flight.zone verdict) fault refl w))

  pub said_so : (line : Octets) (r : Result (Unit {0}) LogFault) → k.core ≡ h.core
      → IsWritten line r (in_log h) (in_log k) → IsSaid h line r k
  unfolding IsSaid
  said_so line (Ok done) is w = logs h.core line done is w
  said_so line (Err fault) is w = inr (breaks h.core line fault is w)

-- a write that has failed
pub write_failed : (lines : Octets) (fault : LogFault) (a b : Log) → IsWritten lines (Err fault) a b → b.failed ≡ true
unfolding IsWritten
write_failed lines fault a b w = w.1.1.1

-- what holds of each error
pub on_err : {T E : Type 0} {P : Type 0} (r : Result T E) → P → OnErr r P
on_err (Ok answer) p = tt
on_err (Err error) p = p

-- want of memory whose line was written and counted
pub starves_so : (h k : Held) (zone : Name) (done : Unit {0}) → h.failed ≡ false → k.core ≡ h.core
    → k.starved ≡ h.starved + 1 → IsWritten (verdict_lines zone OutOfMemory) (Ok done) (in_log h) (in_log k)
    → Starves h zone k
unfolding IsWritten
starves_so h k zone done before is counts w = record {
  core = is;
  written = w.0;
  faults = w.1.0;
  before = before;
  failed = w.1.1 ∙ before;
  starved = counts;
}

-- ---- calls that write nothing
gains_none : (a : Option Octets) → Gains [] a a
gains_none None = refl
gains_none (Some text) = ap Some (sym (append-nil text))

pub quiet_so : (h k : Held) (now : ℕ) (answer : Due) → h.failed ≡ false → IsDue h.core now answer k.core
    → due_lines answer ≡ [] → k ≡ record h { core = k.core } → IsHandedOut h now (Ok answer) k
unfolding IsHandedOut
quiet_so h k now answer before due none same = (
  due,
  record {
    core = refl;
    written = rw (none, ap (λ (x : Held). x.written) same) (gains_none h.written);
    faults = ap (λ (x : Held). x.faults) same;
    before = before;
    failed = ap (λ (x : Held). x.failed) same ∙ before;
    starved = ap (λ (x : Held). x.starved) same;
  },
)

pub starved_so : (h k : Held) (job : JobOf) (octets : Octets) (now : ℕ) (verdict : Verdict) (told : Page) → h.failed
    ≡ false → IsFlying h.core job → IsStarved h job now verdict k → IsSettled h job octets now (Ok (verdict, told)) k
unfolding IsSettled
starved_so h k job octets now verdict told before fly starved =
    let core : k.core ≡ failed_core h.core job now = ap (λ (x : Held). x.core) starved.rest in
    rw starved.verdict (
      fly,
      (
        core,
        record {
          core = refl;
          written = rw (ap (λ (x : Held). x.written) starved.rest) (gains_none h.written);
          faults = ap (λ (x : Held). x.faults) starved.rest;
          before = before;
          failed = ap (λ (x : Held). x.failed) starved.rest ∙ before;
          starved = ap (λ (x : Held). x.starved) starved.rest;
        },
      ),
    )

-- ---- calls that make nothing
module _ (h : Held) (was : h.failed ≡ true) where
  stays : Stays h h
  stays = record { same = refl; failed = was }

  pub unhanded : (now : ℕ) (fault : LogFault) → IsHandedOut h now (Err fault) h
  unfolding IsHandedOut
  unhanded now fault = inl stays

  pub unheard : (peer : Peer) (zone : Name) (fault : LogFault) → IsHeard h peer zone (Err fault) h
  unfolding IsHeard
  unheard peer zone fault = inl stays

  pub unfailed : (job : JobOf) (now : ℕ) → IsFailed h job now (Err unmade.LogFault) h
  unfolding IsFailed
  unfailed job now = inl stays

  pub unsettled : (job : JobOf) (octets : Octets) (now : ℕ) → IsSettled h job octets now (Err unmade.LogFault) h
  unfolding IsSettled
  unsettled job octets now = inl stays

  pub unsaid : (line : Octets) (fault : LogFault) → IsSaid h line (Err fault) h
  unfolding IsSaid
  unsaid line fault = inl stays

module _ (h : Held) (job : JobOf) (now : ℕ) (absent : AbsentOf) (before : h.failed ≡ false)
    (why : absent ≡ absent_of h.core job) (none : IsFlying h.core job → ⊥) where
  is_none : IsNone h job absent h
  is_none = record { same = refl; before = before; why = why; none = none }

  pub failed_none : IsFailed h job now (Err (unmade.NotInFlight absent)) h
  unfolding IsFailed
  failed_none = is_none

  pub settled_none : (octets : Octets) → IsSettled h job octets now (Err (unmade.NotInFlight absent)) h
  unfolding IsSettled
  settled_none octets = is_none

-- ---- notes
pub note_so : {T : Type 0} (publisher : Book) (list : List Entry) (r : Result (Unit {0}) LogFault) (how : T)
    (told : Page) → told.list ≡ list → told.book ≡ publisher → Notes publisher list (ended r (how, told))
note_so publisher list (Ok done) how told same own = (same, own)
note_so publisher list (Err fault) how told same own = tt

-- ---- what a reading knows that has seen the list
pub heard_seen : (h k : Held) (peer : Peer) (zone : Name) (r : Heard × Page) (list : List Entry) → list ≡ h.core.list
    → IsHeard h peer zone (Ok r) k → r.0 ≡ heard_at list peer zone
unfolding IsHeard
heard_seen h k peer zone r list same heard = rw same heard.0

-- ---- a core with a job in flight has room for one more entry
room_by : (flight : Flight) (jobs : List JobOf) (n : ℕ) → IsAmong flight jobs → n + length jobs ≤ 2 ^ 64 - 1
    → n < 2 ^ 64 - 1
unfolding IsAmong
room_by flight [] n among h = absurd among
room_by flight (j ∷ jobs) n among h = omega (arith, h)

pub room : (c : Core) (job : JobOf) → IsSound c → IsAmong job.flight c.flight → length c.list < 2 ^ 64 - 1
room c job ok among = room_by job.flight c.flight (length c.list) among (omega (arith, ok.drawn, ok.most))

-- an answer that tells of a fault shows that the output has failed
pub risen_so : {T : Type 0} (lines : Octets) (r : Result (Unit {0}) LogFault) (a b : Log) (how : T) → a.failed ≡ false
    → MatchBool a.failed (HasRisen 0 a.faults) (a.faults ≡ 0) → IsWritten lines r a b → IsErr (answered r how)
    → HasRisen 0 b.faults
unfolding IsWritten
risen_so lines (Ok done) a b how before cause w err = absurd (cc err)
risen_so lines (Err fault) a b how before cause w err = risen a.faults b.faults (rw before at cause) w.1.1.0
