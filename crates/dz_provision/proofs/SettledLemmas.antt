-- What a list tells of a job that ended.
use Rattle.std.proofs.Common.{◌≡◌, ℕ, ◌≤◌, Bool, true, false, List, [], ◌∷◌, ◌++◌, length, take, Option, Some, None}
use Rattle.std.proofs.Common.{Result, Ok, Err, refl, sym, ap, subst, ◌∙◌, arith, append_assoc, inl, inr}
use Rattle.std.specs.Prelude.{⊤, slice_get, IfOk, MatchResult}
use Rattle.std.proofs.lemmas.Bool.{cases_Bool}
use Rattle.std.proofs.Math.Seq.{take-length}
use Rattle.std.proofs.lemmas.List.{take-append-le}
use mathlib.Core.List.{IsPrefix}
use Rattle.dz_name.specs.Words.{Octets}
use Rattle.dz_zone.specs.Version.{Zone}
use Rattle.dz_take.specs.Outcome.{outcome, octets_used}
use Rattle.dz_take.specs.Transfer.{Decision, up_to_date, new, refused}
use Rattle.dz_history.specs.declared.entry.Entry.{Entry}
use Rattle.dz_history.specs.State.{policy_at}
use Rattle.dz_desk.proofs.PrefixLemmas.{prefix_get, prefix_length}
use Rattle.dz_job.specs.Job.{JobOf, transfer_for}
use Rattle.dz_job.specs.declared.verdict.Verdict.{Verdict}
use Rattle.dz_job.specs.declared.verdict.Verdict.TheVariants.{Published, Confirmed, Refused, PolicyRefused, Stale}
use Rattle.dz_job.specs.declared.verdict.Verdict.TheVariants.{OutOfMemory}
use Rattle.dz_job.specs.declared.verdict.Failure.{Failure}
use Rattle.dz_job.specs.declared.verdict.Failure.TheVariants as failures
use Rattle.dz_fleet.specs.Core.{Core, state_of, ended_of, entry_for, failure_of, is_accepted, screened, tsig_of}
use Rattle.dz_fleet.specs.Core.{verdict_from, verdict_of, settled}
use Rattle.dz_fleet.specs.Answers.{IsOffered}
use Rattle.dz_fleet.specs.Absence.{AbsentOf}
use Rattle.dz_fleet.specs.Weighing.{is_taken}
use Rattle.dz_fleet.proofs.SettleLemmas.{settled_by}
use Rattle.dz_provision.specs.declared.provisioner.Unmade.{Unmade}
use Rattle.dz_provision.specs.declared.provisioner.Unmade.TheVariants as unmade
use Rattle.dz_desk.specs.Seen.{Page}
use Rattle.dz_provision.specs.Held.{Held, IsSettled, IsFailed}
use Rattle.dz_provision.specs.Keeping.{IsLastVerdict}
use Rattle.dz_provision.specs.Receipts.{core_of, verdict_after, IsJoined, IsSettledAt, IsFailedAt}
use Rattle.dz_provision.proofs.TakenLemmas.{list_after}

-- ---- lists
get_last : {A : Type 0} (xs : List A) (x : A) → slice_get (xs ++ x ∷ []) (length xs) ≡ Some x
get_last [] x = refl
get_last (y ∷ ys) x = get_last ys x

take_front : {A : Type 0} (xs ys : List A) → IsPrefix xs ys → take (length xs) ys ≡ xs
take_front xs ys p =
    ap (take (length xs)) (sym p.1) ∙ (take-append-le (length xs) xs p.0 (omega arith) ∙ take-length xs)

front_more : {A : Type 0} (xs more ys : List A) → IsPrefix (xs ++ more) ys → take (length xs) ys ≡ xs
front_more xs more ys p = take_front xs ys (more ++ p.0, sym (append_assoc xs more p.0) ∙ p.1)

-- ---- the verdict hangs on the list alone
same_from : (c : Core) (job : JobOf) (d : Decision) (o : Option ℕ)
    → verdict_from c job d o ≡ verdict_from (core_of c.list) job d o
same_from c job d (Some position) = refl
same_from c job up_to_date None = refl
same_from c job (refused fault) None = refl
same_from c job (new zone) None = refl

same_verdict : (c : Core) (job : JobOf) (octets : Octets) → verdict_of c job octets ≡ verdict_after c.list job octets
unfolding verdict_of verdict_after tsig_of
same_verdict c job octets =
    same_from c job (screened (tsig_of c job octets) (outcome (transfer_for job) octets)) (ended_of c job)

-- ---- a transfer that is taken is the next entry
abbrev IsNext : ℕ → Verdict → Type 0
IsNext count (Published n serial aftermath) = n ≡ count
IsNext count (Confirmed n serial) = n ≡ count
IsNext count verdict = ⊤

next_if : (c : Core) (job : JobOf) (zone : Zone) (b : Bool) → is_accepted (policy_at (state_of c) job.flight.zone) zone
    ≡ b → IsNext (length c.list) (verdict_from c job (new zone) None)
next_if c job zone true e = rw e refl
next_if c job zone false e = rw e tt

next_from : (c : Core) (job : JobOf) (d : Decision) (o : Option ℕ) → IsNext (length c.list) (verdict_from c job d o)
next_from c job d (Some position) = tt
next_from c job up_to_date None = refl
next_from c job (refused fault) None = tt
next_from c job (new zone) None = next_if c job zone (is_accepted (policy_at (state_of c) job.flight.zone) zone) refl

next_is : (c : Core) (job : JobOf) (octets : Octets) → IsNext (length c.list) (verdict_of c job octets)
unfolding verdict_of
next_is c job octets =
    next_from c job (screened (tsig_of c job octets) (outcome (transfer_for job) octets)) (ended_of c job)

module _ (c : Core) (job : JobOf) (octets : Octets) (now : ℕ)
    (used : octets_used (transfer_for job) octets ≡ length octets) where
  list_then : is_taken (verdict_of c job octets) ≡ true
      → (settled c job octets now).list ≡ c.list ++ entry_for job octets ∷ []
  list_then takes = ap (λ (d : Core). d.list) (settled_by c job octets used now (verdict_of c job octets) refl)
      ∙ list_after c job octets now (verdict_of c job octets) takes

  joined : (v : Verdict) (n : ℕ) (d : Core) (later : List Entry) → n ≡ length c.list → v ≡ verdict_of c job octets
      → is_taken v ≡ true → d ≡ settled c job octets now → IsPrefix d.list later
      → IsJoined v n job octets (length c.list) later
  joined v n d later at is takes ends p =
      let own : d.list ≡ c.list ++ entry_for job octets ∷ [] =
      ap (λ (x : Core). x.list) ends ∙ list_then (rw is at takes) in
      let q = subst (λ (l : List Entry). IsPrefix l later) own p in
      record {
        late = omega (arith, at);
        entry = rw at (prefix_get (c.list ++ entry_for job octets ∷ []) later (length c.list) (entry_for job octets) q
            (get_last c.list (entry_for job octets)));
        verdict = is ∙ (same_verdict c job octets ∙ ap (λ l. verdict_after l job octets)
            (sym (ap (λ k. take k later) at ∙ front_more c.list (entry_for job octets ∷ []) later q)));
      }

  -- it is taken, and a reading then sees the list; or it isn't, and no entry joins
  pub taken_at : (v : Verdict) (d : Core) (later : List Entry) → is_taken v ≡ true → IsOffered c job octets now v d
      → IsPrefix d.list later → IsSettledAt (Ok v) job octets (length c.list) later
  taken_at (Published n serial aftermath) d later takes is p =
      joined (Published n serial aftermath) n d later (let next = next_is c job octets in
      rw (← is.0) at next) is.0 refl is.1 p
  taken_at (Confirmed n serial) d later takes is p =
      joined (Confirmed n serial) n d later (let next = next_is c job octets in rw (← is.0) at next) is.0 refl is.1 p
  taken_at (Refused fault) d later takes is p = absurd (cc takes)
  taken_at (PolicyRefused standing) d later takes is p = absurd (cc takes)
  taken_at (Stale n) d later takes is p = absurd (cc takes)
  taken_at OutOfMemory d later takes is p = absurd (cc takes)

  pub untaken_at : (v : Verdict) (d : Core) (from : ℕ) → is_taken v ≡ false → IsOffered c job octets now v d
      → IsSettledAt (Ok v) job octets from c.list
  untaken_at (Published n serial aftermath) d from none is = absurd (cc none)
  untaken_at (Confirmed n serial) d from none is = absurd (cc none)
  untaken_at (Refused fault) d from none is = is.0 ∙ same_verdict c job octets
  untaken_at (PolicyRefused standing) d from none is = is.0 ∙ same_verdict c job octets
  untaken_at (Stale n) d from none is = is.0 ∙ same_verdict c job octets
  untaken_at OutOfMemory d from none is = tt

  -- the verdict of one that is taken is that of the last entry
  last_by : (v : Verdict) (d : Core) → v ≡ verdict_of c job octets → is_taken v ≡ true → d ≡ settled c job octets now
      → IsLastVerdict d.list v
  last_by v d is takes ends = record {
    before = c.list;
    job = job;
    octets = octets;
    are = ap (λ (x : Core). x.list) ends ∙ list_then (rw is at takes);
    own = is ∙ same_verdict c job octets;
    taken = takes;
  }

  pub last_at : (v : Verdict) (d : Core) → is_taken v ≡ true → IsOffered c job octets now v d → IsLastVerdict d.list v
  last_at (Published n serial aftermath) d takes is = last_by (Published n serial aftermath) d is.0 refl is.1
  last_at (Confirmed n serial) d takes is = last_by (Confirmed n serial) d is.0 refl is.1
  last_at (Refused fault) d takes is = absurd (cc takes)
  last_at (PolicyRefused standing) d takes is = absurd (cc takes)
  last_at (Stale n) d takes is = absurd (cc takes)
  last_at OutOfMemory d takes is = absurd (cc takes)

-- ---- what a call under the lock answers
module _ (h k : Held) (job : JobOf) (now : ℕ) where
  pub settled_ok : (octets : Octets) (v : Verdict) (told : Page) (list later : List Entry)
      → octets_used (transfer_for job) octets ≡ length octets → list ≡ h.core.list
      → IsSettled h job octets now (Ok (v, told)) k
      → told.list ≡ k.core.list → (is_taken v ≡ true → IsPrefix told.list later) → (is_taken v ≡ false → later ≡ list)
      → IsSettledAt (Ok v) job octets (length list) later
  unfolding IsSettled
  settled_ok octets v told list later used same is note taken untaken = elim (cases_Bool (is_taken v)) [
    | inl t ↦ rw same (taken_at h.core job octets now used v k.core later t is.1.0 (rw (← note) (taken t)))
    | inr f ↦ rw (untaken f ∙ same) (untaken_at h.core job octets now used v k.core (length list) f is.1.0)
  ]

  pub settled_last : (octets : Octets) (v : Verdict) (told : Page) → octets_used (transfer_for job) octets
      ≡ length octets → IsSettled h job octets now (Ok (v, told)) k → is_taken v ≡ true → IsLastVerdict k.core.list v
  unfolding IsSettled
  settled_last octets v told used is takes = last_at h.core job octets now used v k.core takes is.1.0

  pub settled_err : (octets : Octets) (u : Unmade) (list : List Entry) → list ≡ h.core.list
      → IsSettled h job octets now (Err u) k → IsSettledAt (Err u) job octets (length list) list
  unfolding IsSettled
  settled_err octets unmade.LogFault list same is = tt
  settled_err octets (unmade.NotInFlight absent) list same is = (
    omega (arith, ap (λ (a : AbsentOf). a.count) is.why, ap length same),
    omega (arith, ap (λ (a : AbsentOf). a.count) is.why, ap length same),
  )

  failed_by : (o : Option ℕ) → ended_of h.core job ≡ o
      → IsFailedAt (Ok (failure_of o)) job (length h.core.list) h.core.list
  failed_by None e = e
  failed_by (Some n) e = e

  pub failed_ok : (f : Failure) (told : Page) → IsFailed h job now (Ok (f, told)) k
      → IsFailedAt (Ok f) job (length h.core.list) h.core.list
  unfolding IsFailed
  failed_ok f told is = subst (λ x. IsFailedAt (Ok x) job (length h.core.list) h.core.list) (sym is.1.0)
      (failed_by (ended_of h.core job) refl)

  pub failed_err : (u : Unmade) → IsFailed h job now (Err u) k
      → IsFailedAt (Err u) job (length h.core.list) h.core.list
  unfolding IsFailed
  failed_err unmade.LogFault is = tt
  failed_err (unmade.NotInFlight absent) is =
      (omega (arith, ap (λ (a : AbsentOf). a.count) is.why), omega (arith, ap (λ (a : AbsentOf). a.count) is.why))

-- want of memory that was said
pub starved_at : (r : Result Verdict Unmade) (job : JobOf) (octets : Octets) (from : ℕ) (list : List Entry)
    → MatchResult r (λ v. v ≡ OutOfMemory) (λ u. u ≡ unmade.LogFault) → IsSettledAt r job octets from list
starved_at (Ok v) job octets from list is = rw is tt
starved_at (Err u) job octets from list is = rw is tt

pub starved_last : (r : Result Verdict Unmade) (list : List Entry) → MatchResult r (λ v. v ≡ OutOfMemory)
    (λ u. u ≡ unmade.LogFault) → IfOk r (λ v. is_taken v ≡ true → IsLastVerdict list v)
starved_last (Ok v) list is = λ takes. absurd (let e : is_taken OutOfMemory ≡ true = rw is at takes in cc e)
starved_last (Err u) list is = tt

-- the same of a job that failed, which is then said to have failed
pub failed_at : (r : Result Failure Unmade) (f : Failure) (job : JobOf) (from : ℕ) (list : List Entry)
    → f ≡ failures.Failed → IsFailedAt (Ok f) job from list
    → MatchResult r (λ g. g ≡ failures.Failed) (λ u. u ≡ unmade.LogFault)
    → IsFailedAt r job from list
failed_at (Ok g) f job from list own s is = subst (λ x. IsFailedAt (Ok x) job from list) (own ∙ sym is) s
failed_at (Err u) f job from list own s is = rw is tt

-- ---- an answer holds after a shorter list too
pub settled_sooner : (r : Result Verdict Unmade) (job : JobOf) (octets : Octets) (less from : ℕ) (list : List Entry)
    → less ≤ from → IsSettledAt r job octets from list → IsSettledAt r job octets less list
settled_sooner (Ok (Published n serial aftermath)) job octets less from list le s =
    record { late = omega (arith, le, s.late); entry = s.entry; verdict = s.verdict }
settled_sooner (Ok (Confirmed n serial)) job octets less from list le s =
    record { late = omega (arith, le, s.late); entry = s.entry; verdict = s.verdict }
settled_sooner (Ok (Refused fault)) job octets less from list le s = s
settled_sooner (Ok (PolicyRefused standing)) job octets less from list le s = s
settled_sooner (Ok (Stale n)) job octets less from list le s = s
settled_sooner (Ok OutOfMemory) job octets less from list le s = tt
settled_sooner (Err (unmade.NotInFlight absent)) job octets less from list le s = (omega (arith, le, s.0), s.1)
settled_sooner (Err unmade.LogFault) job octets less from list le s = tt

pub failed_sooner : (r : Result Failure Unmade) (job : JobOf) (less from : ℕ) (list : List Entry) → less ≤ from
    → IsFailedAt r job from list → IsFailedAt r job less list
failed_sooner (Ok (failures.Stale n)) job less from list le s = s
failed_sooner (Ok failures.Failed) job less from list le s = s
failed_sooner (Err (unmade.NotInFlight absent)) job less from list le s = (omega (arith, le, s.0), s.1)
failed_sooner (Err unmade.LogFault) job less from list le s = tt

-- the same with the lists, of which one begins the other
pub settled_front : (r : Result Verdict Unmade) (job : JobOf) (octets : Octets) (front list later : List Entry)
    → IsPrefix front list → IsSettledAt r job octets (length list) later
    → IsSettledAt r job octets (length front) later
settled_front r job octets front list later p s =
    settled_sooner r job octets (length front) (length list) later (prefix_length front list p) s

pub failed_front : (r : Result Failure Unmade) (job : JobOf) (front list : List Entry) → IsPrefix front list
    → IsFailedAt r job (length list) list → IsFailedAt r job (length front) list
failed_front r job front list p s =
    failed_sooner r job (length front) (length list) list (prefix_length front list p) s
