-- Zones that have their turns, and what a store told of them.
use Rattle.std.proofs.Common.{◌≡◌, ◌≢◌, ◌⊎◌, ℕ, zero, suc, ◌+◌, ◌<◌, ◌≤◌, ◌^◌, Bool, true, false, List, length}
use Rattle.std.proofs.Common.{take, Option, Some, None, Ok, Err, refl, sym, ap, subst, ◌∙◌, arith, inl, inr, ⊎_elim}
use Rattle.std.specs.Prelude.{◌&&◌, not, is_some, nat_lt, option_map, option_and_then, slice_get, IsSome, IfSome}
use Rattle.std.specs.Prelude.{if◌then◌else◌}
use Rattle.std.specs.Option.{option_map_or}
use Rattle.std.proofs.lemmas.Bool.{and_parts, cases_Bool, false≢true, lt-ltb, le-ltb}
use Rattle.std.proofs.lemmas.Bool.Decides.{nat_tests}
use Rattle.std.proofs.lemmas.List.{take_all}
use Rattle.std.proofs.lemmas.Option.{same_Some}
use Rattle.std.specs.Str.{bytes_eq}
use Rattle.dz_io.specs.Counts.{HasRisen}
use Rattle.dz_name.specs.Words.{Name, Octets}
use Rattle.dz_disk.specs.Disk.{IsQuiet}
use Rattle.dz_message.specs.Frame.{messages_in}
use Rattle.dz_zone.specs.Version.{Zone}
use Rattle.dz_take.specs.Outcome.{decided, or_incomplete, outcome}
use Rattle.dz_take.specs.Transfer.{Decision, refused}
use Rattle.dz_take.specs.declared.outcome.TakeFault.TheVariants.{Incomplete}
use Rattle.dz_job.specs.Stream.{IsReadOf}
use Rattle.dz_outward.specs.Stream.{is_fit}
use Rattle.dz_store.specs.Kept.{KeptZone, payload_of}
use Rattle.dz_store.specs.Payload.{Head, head_of, version_in, kept_with, is_written_of, if_written, kept_of}
use Rattle.dz_store.specs.Store.{StoreOf, counting, kept}
use Rattle.dz_history.specs.Signed.{tsig_in}
use Rattle.dz_history.specs.State.{State, key_at}
use Rattle.dz_history.specs.Places.{Seat, seats}
use Rattle.dz_job.specs.Job.{JobOf, transfer_for}
use Rattle.dz_job.specs.declared.verdict.Verdict.{Verdict}
use Rattle.dz_job.specs.declared.verdict.Verdict.TheVariants.{Published, Confirmed, Refused, PolicyRefused, Stale}
use Rattle.dz_job.specs.declared.verdict.Verdict.TheVariants.{OutOfMemory}
use Rattle.dz_job.specs.declared.verdict.Failure.{Failure}
use Rattle.dz_desk.specs.Seen.{Page}
use Rattle.dz_fleet.specs.declared.due.Due.TheVariants as due
use Rattle.dz_fleet.specs.Core.{Core, state_of, due_of, after_due, ended_of, used_of, screened, tsig_of, verdict_from}
use Rattle.dz_fleet.specs.Core.{verdict_of, after_verdict, settled, failed_core}
use Rattle.dz_fleet.specs.Answers.{IsOffered}
use Rattle.dz_fleet.specs.Sound.{IsFlying}
use Rattle.dz_fleet.proofs.TakeLemmas.{screened_refused}
use Rattle.dz_restore.specs.Restoring.{home_at, is_home, may_return, moment_of, ended_with, after_turn, restore_one}
use Rattle.dz_restore.specs.Restoring.{told, restore_seat, restore_at, restore_from, restored}
use Rattle.dz_provision.specs.Held.{Held, IsHandedOut, IsSettled, IsFailed}
use Rattle.dz_provision.specs.declared.provisioner.Unmade.{Unmade}
use Rattle.dz_provision.specs.declared.provisioner.Unmade.TheVariants as unmade
use Rattle.dz_provision.specs.inner.Told.{HasStopped, StopsLater, HadTurn, HadTurns}

-- ---- calls of a disk that read alone
pub quiet_none : {D : Type 0} (file : D → Option (List ℕ)) (may_leave : D → List ℕ → Type 0) (clock : D → ℕ)
    (left_from : D → ℕ → List ℕ → Type 0) (d : D)
    → ((c : List ℕ) → left_from d (clock d) c → may_leave d c) → IsQuiet file may_leave clock left_from d d
quiet_none file may_leave clock left_from d now = record {
  same = refl;
  crash = λ c left. left;
  leaves = record { later = omega arith; each = now; longer = λ t c le left. inl left };
}

pub quiet_both : {D : Type 0} (file : D → Option (List ℕ)) (may_leave : D → List ℕ → Type 0) (clock : D → ℕ)
    (left_from : D → ℕ → List ℕ → Type 0) (a b d : D)
    → IsQuiet file may_leave clock left_from a b → IsQuiet file may_leave clock left_from b d
    → IsQuiet file may_leave clock left_from a d
quiet_both file may_leave clock left_from a b d first second = record {
  same = second.same ∙ first.same;
  crash = λ c left. first.crash c (second.crash c left);
  leaves = record {
    later = omega (arith, first.leaves.later, second.leaves.later);
    each = λ c left. ⊎_elim (first.leaves.each c) (first.crash c)
        (second.leaves.longer (clock a) c first.leaves.later left);
    longer = λ t c le left. ⊎_elim (first.leaves.longer t c le) (λ may. inr (first.crash c may))
        (second.leaves.longer t c (omega (arith, le, first.leaves.later)) left);
  };
}

-- ---- what is kept was refreshed at a moment below 2^40
written_small : (k : KeptZone) (payload : Octets) → is_written_of k payload ≡ true → k.refreshed < 2 ^ 40
unfolding is_written_of
written_small k payload h =
    let t = (and_parts (nat_lt k.refreshed (2 ^ 40)) (is_fit k.version && bytes_eq payload (payload_of k)) h).0 in
    grind (arith, nat_tests)

if_small : (k out : KeptZone) (payload : Octets) (b : Bool) → is_written_of k payload ≡ b
    → (if b then Some k else None) ≡ Some out → out.refreshed < 2 ^ 40
if_small k out payload true w is =
    subst (λ (x : KeptZone). x.refreshed < 2 ^ 40) (same_Some k out is) (written_small k payload w)
if_small k out payload false w is = absurd (cc)

version_small : (payload : Octets) (head : Head) (o : Option Zone) (out : KeptZone)
    → option_and_then (λ version. if_written payload (kept_with head version)) o ≡ Some out → out.refreshed < 2 ^ 40
version_small payload head None out is = absurd (cc)
version_small payload head (Some version) out is =
    if_small (kept_with head version) out payload (is_written_of (kept_with head version) payload) refl is

head_small : (payload : Octets) (o : Option Head) (out : KeptZone)
    → option_and_then (λ (head : Head). option_and_then (λ version. if_written payload (kept_with head version))
    (version_in head.zone head.stream)) o ≡ Some out → out.refreshed < 2 ^ 40
head_small payload None out is = absurd (cc)
head_small payload (Some head) out is = version_small payload head (version_in head.zone head.stream) out is

payload_small : (payload : Octets) (out : KeptZone) → kept_of payload ≡ Some out → out.refreshed < 2 ^ 40
unfolding kept_of
payload_small payload out is = head_small payload (head_of payload) out is

counting_small : (o : Option Octets) (out : KeptZone) → option_and_then kept_of o ≡ Some out → out.refreshed < 2 ^ 40
counting_small None out is = absurd (cc)
counting_small (Some payload) out is = payload_small payload out is

pub kept_small : (zone : Name) (list : List Octets) (k : KeptZone) → Some k ≡ kept zone list → k.refreshed < 2 ^ 40
kept_small zone list k is = counting_small (counting zone list) k (sym is)

-- what may be given back can be sent
pub returns_fit : (s : State) (job : JobOf) (k : KeptZone) → may_return s job k ≡ true → is_fit k.version ≡ true
unfolding may_return
returns_fit s job k may =
    let rest = (and_parts (option_map_or (is_home k) (home_at s job.flight.zone) false)
    (not (is_some job.key) && is_fit k.version) may).1 in
    (and_parts (not (is_some job.key)) (is_fit k.version) rest).1

-- ---- what was read of a stream has the same end as all of it
refused_same : (c : Core) (job : JobOf) (a b : Octets) (now : ℕ) (position : Option ℕ)
    → after_verdict c job a now (verdict_from c job (refused Incomplete) position)
    ≡ after_verdict c job b now (verdict_from c job (refused Incomplete) position)
refused_same c job a b now (Some position) = refl
refused_same c job a b now None = refl

used_same : (job : JobOf) (octets read : Octets) → IsReadOf (transfer_for job) octets read
    → IsSome (decided (transfer_for job) (messages_in octets)) → used_of job read ≡ used_of job octets
used_same job octets read is some =
    let all : used_of job read ≡ read = ap (λ n. take n read) is.all ∙ take_all (length read) read (omega arith) in
    all ∙ is.used some

tsig_same : (c : Core) (job : JobOf) (octets read : Octets) → IsReadOf (transfer_for job) octets read
    → IsSome (decided (transfer_for job) (messages_in octets)) → tsig_of c job read ≡ tsig_of c job octets
unfolding tsig_of
tsig_same c job octets read is some =
    ap (λ (o : Octets). tsig_in (key_at (state_of c) job.flight.zone) (transfer_for job) o job.flight.moment)
    (used_same job octets read is some)

verdict_by : (c : Core) (job : JobOf) (a b : Octets) → tsig_of c job a ≡ tsig_of c job b
    → outcome (transfer_for job) a ≡ outcome (transfer_for job) b → verdict_of c job a ≡ verdict_of c job b
unfolding verdict_of
verdict_by c job a b same is = λ i. verdict_from c job (screened (same i) (is i)) (ended_of c job)

verdict_incomplete : (c : Core) (job : JobOf) (octets : Octets) → outcome (transfer_for job) octets
    ≡ refused Incomplete → verdict_of c job octets ≡ verdict_from c job (refused Incomplete) (ended_of c job)
unfolding verdict_of
verdict_incomplete c job octets is =
    ap (λ (d : Decision). verdict_from c job (screened (tsig_of c job octets) d) (ended_of c job)) is
    ∙ ap (λ (d : Decision). verdict_from c job d (ended_of c job)) (screened_refused (tsig_of c job octets) Incomplete)

settled_by : (c : Core) (job : JobOf) (octets read : Octets) (now : ℕ) (decision : Option Decision)
    → IsReadOf (transfer_for job) octets read → decided (transfer_for job) (messages_in octets) ≡ decision
    → settled c job read now ≡ settled c job octets now
settled_by c job octets read now (Some decision) is decides =
    let some : IsSome (decided (transfer_for job) (messages_in octets)) = rw decides refl in
    ap (λ (v : Verdict). after_verdict c job (used_of job read) now v)
    (verdict_by c job read octets (tsig_same c job octets read is some) is.outcome)
    ∙ ap (λ (o : Octets). after_verdict c job o now (verdict_of c job octets)) (used_same job octets read is some)
settled_by c job octets read now None is none =
    let incomplete : outcome (transfer_for job) octets ≡ refused Incomplete = ap or_incomplete none in
    ap (λ (v : Verdict). after_verdict c job (used_of job read) now v)
    (verdict_incomplete c job read (is.outcome ∙ incomplete))
    ∙ refused_same c job (used_of job read) (used_of job octets) now (ended_of c job)
    ∙ ap (λ (v : Verdict). after_verdict c job (used_of job octets) now v)
    (sym (verdict_incomplete c job octets incomplete))

pub settled_same : (c : Core) (job : JobOf) (octets read : Octets) (now : ℕ) → IsReadOf (transfer_for job) octets read
    → settled c job read now ≡ settled c job octets now
settled_same c job octets read now is =
    settled_by c job octets read now (decided (transfer_for job) (messages_in octets)) is refl

-- ---- the core after calls under the lock
offered_core : (c d : Core) (job : JobOf) (octets : Octets) (now : ℕ) (v : Verdict) → v ≢ OutOfMemory
    → IsOffered c job octets now v d → d ≡ settled c job octets now
offered_core c d job octets now OutOfMemory room is = absurd (room refl)
offered_core c d job octets now (Published position serial aftermath) room is = is.1
offered_core c d job octets now (Confirmed position serial) room is = is.1
offered_core c d job octets now (Refused fault) room is = is.1
offered_core c d job octets now (PolicyRefused standing) room is = is.1
offered_core c d job octets now (Stale position) room is = is.1

module _ (h k : Held) (job : JobOf) (now : ℕ) where
  pub settled_core : (octets : Octets) (v : Verdict) (told : Page) → v ≢ OutOfMemory
      → IsSettled h job octets now (Ok (v, told)) k → k.core ≡ settled h.core job octets now
  unfolding IsSettled
  settled_core octets v told room is = offered_core h.core k.core job octets now v room is.1.0

  pub settled_there : {A : Type 0} (octets : Octets) (u : Unmade) → u ≢ unmade.LogFault → IsFlying h.core job
      → IsSettled h job octets now (Err u) k → A
  unfolding IsSettled
  settled_there octets unmade.LogFault other fly is = absurd (other refl)
  settled_there octets (unmade.NotInFlight absent) other fly is = absurd (is.none fly)

  pub ended_core : (f : Failure) (told : Page) → IsFailed h job now (Ok (f, told)) k
      → k.core ≡ failed_core h.core job now
  unfolding IsFailed
  ended_core f told is = is.1.1.core

  pub failed_there : {A : Type 0} (u : Unmade) → u ≢ unmade.LogFault → IsFlying h.core job
      → IsFailed h job now (Err u) k → A
  unfolding IsFailed
  failed_there unmade.LogFault other fly is = absurd (other refl)
  failed_there (unmade.NotInFlight absent) other fly is = absurd (is.none fly)

module _ (h k : Held) (now : ℕ) where
  -- the job that is handed out is the core's
  pub handed_core : (job : JobOf) → IsHandedOut h now (Ok (due.Job job)) k
      → (due_of h.core now ≡ due.Job job) × (k.core ≡ after_due h.core (due.Job job))
  unfolding IsHandedOut
  handed_core job is = (sym is.0.0, is.0.1)

  -- with it the zone has its turn
  pub turned : (tale : Option KeptZone) (job : JobOf) (d : Core) → moment_of tale ≡ now
      → IsHandedOut h now (Ok (due.Job job)) k → d ≡ ended_with k.core job tale → d ≡ restore_one tale h.core
  unfolding restore_one
  turned tale job d moment is ends =
      let made = handed_core job is in
      ends ∙ ap (λ (x : Core). ended_with x job tale) made.1
      ∙ ap (after_turn h.core tale) (sym made.0) ∙ ap (λ n. after_turn h.core tale (due_of h.core n)) (sym moment)

  pub turned_idle : (tale : Option KeptZone) (quiet : Rattle.dz_fleet.specs.Quiet.QuietOf) → moment_of tale ≡ now
      → IsHandedOut h now (Ok (due.Idle quiet)) k → k.core ≡ restore_one tale h.core
  unfolding restore_one IsHandedOut
  turned_idle tale quiet moment is =
      is.0.1 ∙ ap (after_turn h.core tale) is.0.0 ∙ ap (λ n. after_turn h.core tale (due_of h.core n)) (sym moment)

  pub turned_full : (tale : Option KeptZone) (quiet : Rattle.dz_fleet.specs.Quiet.QuietOf) → moment_of tale ≡ now
      → IsHandedOut h now (Ok (due.Full quiet)) k → k.core ≡ restore_one tale h.core
  unfolding restore_one IsHandedOut
  turned_full tale quiet moment is =
      is.0.1 ∙ ap (after_turn h.core tale) is.0.0 ∙ ap (λ n. after_turn h.core tale (due_of h.core n)) (sym moment)

-- ---- a place
no_zone : (o : Option Seat) → None ≡ option_map (λ s. s.zone) o → o ≡ None
no_zone None is = refl
no_zone (Some seat) is = absurd (cc)

turn_none : (list : List Octets) (b : Bool) (place : ℕ) (c : Core) → slice_get (seats (state_of c)) place ≡ None
    → HadTurn list b b place c c
turn_none list false place c none = inl (refl, (refl, ap (restore_seat (λ zone. kept zone list) c) (sym none)))
turn_none list true place c none = inr (refl, ap (restore_seat (λ zone. None) c) (sym none))

pub had_none : (list : List Octets) (b : Bool) (place : ℕ) (c : Core)
    → None ≡ option_map (λ s. s.zone) (slice_get (seats (state_of c)) place) → HadTurn list b b place c c
had_none list b place c none = turn_none list b place c (no_zone (slice_get (seats (state_of c)) place) none)

seat_turn : (tells : Name → Option KeptZone) (zone : Name) (tale : Option KeptZone) (c d : Core) (o : Option Seat)
    → Some zone ≡ option_map (λ s. s.zone) o → tale ≡ tells zone → d ≡ restore_one tale c → d ≡ restore_seat tells c o
seat_turn tells zone tale c d None is told ends = absurd (cc)
seat_turn tells zone tale c d (Some seat) is told ends =
    let same : zone ≡ seat.zone = same_Some zone seat.zone is in
    ends ∙ ap (λ t. restore_one t c) (told ∙ ap tells same)

pub had_turn : (list : List Octets) (before after : Bool) (place : ℕ) (c d : Core) (zone : Name)
    (tale : Option KeptZone) → Some zone ≡ option_map (λ s. s.zone) (slice_get (seats (state_of c)) place)
    → ((before ≡ false) × ((after ≡ false) × (tale ≡ kept zone list))) ⊎ ((after ≡ true) × (tale ≡ None))
    → d ≡ restore_one tale c → HadTurn list before after place c d
had_turn list before after place c d zone tale is (inl w) ends =
    inl (w.0, (w.1.0, seat_turn (λ z. kept z list) zone tale c d (slice_get (seats (state_of c)) place) is w.1.1 ends))
had_turn list before after place c d zone tale is (inr w) ends =
    inr (w.0, seat_turn (λ z. None) zone tale c d (slice_get (seats (state_of c)) place) is w.1 ends)

-- ---- places, one after another
pub none_had : (list : List Octets) (has_failed : Bool) (stop : Option ℕ) (first : ℕ) (c : Core)
    → HasStopped has_failed stop first → HadTurns list has_failed stop first 0 c c
unfolding restore_from
none_had list has_failed stop first c stopped = record {
  later = stop;
  stopped = subst (HasStopped has_failed stop) (let e : first ≡ first + 0 = omega arith in e) stopped;
  stops = inl refl;
  core = refl;
}

-- where the disk failed later on, each place before tells the same
agree : (list : List Octets) (stop place : ℕ) → place < stop → told (Some stop) list place ≡ told None list place
agree list stop place lt = λ i zone. (ap (λ b. if b then kept zone list else None) (lt-ltb place stop lt)) i

alike : (a b : ℕ → Name → Option KeptZone) (first n : ℕ) (c : Core)
    → ((place : ℕ) → first ≤ place → place < first + n → a place ≡ b place)
    → restore_from a first n c ≡ restore_from b first n c
unfolding restore_from
alike a b first zero c same = refl
alike a b first (suc n) c same =
    let d = restore_from a first n c in
    ap (λ tells. restore_seat tells d (slice_get (seats (state_of d)) (first + n)))
    (same (first + n) (omega arith) (omega arith))
    ∙ ap (restore_at b (first + n)) (alike a b first n c (λ place le lt. same place le (omega (arith, lt))))

-- from there on it tells nothing
silent : (list : List Octets) (stop place : ℕ) → stop ≤ place → told (Some stop) list place ≡ (λ zone. None)
silent list stop place le = λ i zone. (ap (λ b. if b then kept zone list else None) (le-ltb place stop le)) i

one_more : (tells : ℕ → Name → Option KeptZone) (now : Name → Option KeptZone) (first n : ℕ) (c d e : Core)
    → d ≡ restore_from tells first n c → tells (first + n) ≡ now
    → e ≡ restore_seat now d (slice_get (seats (state_of d)) (first + n))
    → e ≡ restore_from tells first (suc n) c
unfolding restore_from
one_more tells now first n c d e is same ends =
    ends ∙ ap (λ t. restore_seat t d (slice_get (seats (state_of d)) (first + n))) (sym same)
    ∙ ap (restore_at tells (first + n)) is

module _ (list : List Octets) (first n : ℕ) (c d e : Core) where
  -- it tells still
  more_told : (later : Option ℕ) → false ≡ is_some later → d ≡ restore_from (told later list) first n c
      → e ≡ restore_seat (λ zone. kept zone list) d (slice_get (seats (state_of d)) (first + n))
      → (later ≡ None) × (e ≡ restore_from (told None list) first (suc n) c)
  more_told None none is ends = (refl, one_more (told None list) (λ zone. kept zone list) first n c d e is refl ends)
  more_told (Some stop) none is ends = absurd (false≢true none)

  -- it tells no more, from this place on or from an earlier one on
  more_silent : (stop later : Option ℕ) → IfSome later (λ m. m ≤ first + n)
      → StopsLater stop later first → d ≡ restore_from (told later list) first n c
      → e ≡ restore_seat (λ zone. None) d (slice_get (seats (state_of d)) (first + n))
      → HadTurns list true stop first (suc n) c e
  more_silent stop (Some m) before stops is ends = record {
    later = Some m;
    stopped = record { failed = refl; before = omega (arith, before) };
    stops = stops;
    core = one_more (told (Some m) list) (λ zone. None) first n c d e is (silent list m (first + n) before) ends;
  }
  more_silent None None before stops is ends = record {
    later = Some (first + n);
    stopped = record { failed = refl; before = omega arith };
    stops = inr (refl, omega arith);
    core = one_more (told (Some (first + n)) list) (λ zone. None) first n c d e
        (is ∙ alike (told None list) (told (Some (first + n)) list) first n c
        (λ place le lt. sym (agree list (first + n) place lt)))
        (silent list (first + n) (first + n) (omega arith)) ends;
  }
  more_silent (Some m) None before (inl same) is ends = absurd (cc same)
  more_silent (Some m) None before (inr later) is ends = absurd (cc later.0)

  pub had_more : (was now : Bool) (stop : Option ℕ) → HadTurns list was stop first n c d
      → HadTurn list was now (first + n) d e → HadTurns list now stop first (n + 1) c e
  had_more was now stop turns (inl w) =
      let m = more_told turns.later (sym w.0 ∙ turns.stopped.failed) turns.core w.1.1 in
      subst (λ i. HadTurns list now stop first i c e) (let s : suc n ≡ n + 1 = omega arith in s)
      (record {
        later = None;
        stopped = record { failed = w.1.0; before = tt };
        stops = subst (λ l. StopsLater stop l first) m.0 turns.stops;
        core = m.1;
      })
  had_more was now stop turns (inr w) =
      subst (λ i. HadTurns list now stop first i c e) (let s : suc n ≡ n + 1 = omega arith in s)
      (subst (λ b. HadTurns list b stop first (suc n) c e) (sym w.0)
      (more_silent stop turns.later turns.stopped.before turns.stops turns.core w.1))

-- ---- the catalogs, and then the members
pub begin : (b : Bool) → (stop : Option ℕ) × HasStopped b stop 0
begin false = (None, record { failed = refl; before = tt })
begin true = (Some 0, record { failed = refl; before = omega arith })

-- where it stopped later, the first ones were told the same
alike_later : (list : List Octets) (stop later : Option ℕ) (n : ℕ) (c : Core) → StopsLater stop later n
    → restore_from (told stop list) 0 n c ≡ restore_from (told later list) 0 n c
alike_later list stop later n c (inl same) = ap (λ s. restore_from (told s list) 0 n c) (sym same)
alike_later list None (Some m) n c (inr w) = alike (told None list) (told (Some m) list) 0 n c
    (λ place le lt. sym (agree list m place (omega (arith, lt, w.1))))
alike_later list (Some s) later n c (inr w) = absurd (cc w.0)
alike_later list None None n c (inr w) = refl

pub had_all : (list : List Octets) (was now : Bool) (stop : Option ℕ) (n m : ℕ) (c d e : Core)
    (first : HadTurns list was stop 0 n c d) → n ≡ length (state_of c).fold.config
    → m ≡ length (state_of d).fold.members
    → HadTurns list now first.later n m d e
    → (later : Option ℕ) × (now ≡ is_some later) × (e ≡ restored (told later list) c)
had_all list was now stop n m c d e first config members second =
    let both : d ≡ restore_from (told second.later list) 0 n c =
    first.core ∙ alike_later list first.later second.later n c second.stops in (
      second.later,
      second.stopped.failed,
      second.core ∙ ap (λ j. restore_from (told second.later list) n j d) members
          ∙ ap (λ x. restore_from (told second.later list) n (length (state_of x).fold.members) x) both
          ∙ ap (λ i. let x = restore_from (told second.later list) 0 i c in
          restore_from (told second.later list) i (length (state_of x).fold.members) x) config,
    )

-- ---- the disk failed
risen_on : (before middle now : ℕ) → middle ≡ before → HasRisen middle now → HasRisen before now
risen_on before middle now same rose = subst (λ n. HasRisen n now) same rose

module _ {D : Type 0} (faults : D → ℕ) (a b c : StoreOf D) (stuck : b.has_failed ≡ true → c ≡ b) where
  -- in the first calls or in the later ones
  pub fails_on : (b.has_failed ≡ true → (a.has_failed ≡ true) ⊎ HasRisen (faults a.disk) (faults b.disk))
      → (b.has_failed ≡ false → faults b.disk ≡ faults a.disk)
      → (c.has_failed ≡ true → (b.has_failed ≡ true) ⊎ HasRisen (faults b.disk) (faults c.disk)) → c.has_failed ≡ true
      → (a.has_failed ≡ true) ⊎ HasRisen (faults a.disk) (faults c.disk)
  fails_on first steady second failed = elim (cases_Bool b.has_failed) [
    | inl t ↦ subst (λ (x : StoreOf D). (a.has_failed ≡ true) ⊎ HasRisen (faults a.disk) (faults x.disk))
        (sym (stuck t)) (first t)
    | inr f ↦ ⊎_elim (λ t. absurd (false≢true (sym f ∙ t)))
        (λ rose. inr (risen_on (faults a.disk) (faults b.disk) (faults c.disk) (steady f) rose)) (second failed)
  ]

  -- in none of them
  pub steady_on : (b.has_failed ≡ false → faults b.disk ≡ faults a.disk)
      → (c.has_failed ≡ false → faults c.disk ≡ faults b.disk) → c.has_failed ≡ false → faults c.disk ≡ faults a.disk
  steady_on first second works = elim (cases_Bool b.has_failed) [
    | inl t ↦ absurd (false≢true (sym works ∙ ap (λ (x : StoreOf D). x.has_failed) (stuck t) ∙ t))
    | inr f ↦ second works ∙ first f
  ]

  -- before all of them
  pub stuck_on : (a.has_failed ≡ true → b ≡ a) → a.has_failed ≡ true → c ≡ a
  stuck_on first failed = let same = first failed in stuck (ap (λ (x : StoreOf D). x.has_failed) same ∙ failed) ∙ same
