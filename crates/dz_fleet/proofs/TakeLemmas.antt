-- A transfer that is taken, and the verdict of one.
use Rattle.std.proofs.Common.{◌≡◌, ℕ, ◌+◌, ◌^◌, ◌<◌, ◌≤◌, Bool, true, false, List, [], ◌∷◌, take, length, refl, sym}
use Rattle.std.proofs.Common.{◌∙◌, ap, subst, arith, Some, None}
use Rattle.std.specs.Prelude.{Option, is_some, ◌==◌, IsSome, if◌then◌else◌}
use Rattle.std.specs.Option.{option_map_or}
use Rattle.dz_zone.specs.Version.{Zone}
use Rattle.dz_zonemd.specs.Standing.{standing}
use Rattle.dz_settings.specs.declared.config.Policy.{Policy}
use Rattle.dz_take.specs.Taken.{CanAsk}
use Rattle.dz_take.specs.Outcome.{outcome, octets_used}
use Rattle.dz_take.specs.Transfer.{Decision, up_to_date, new, refused}
use Rattle.dz_history.specs.declared.aftermath.Aftermath.{Aftermath}
use Rattle.dz_history.specs.declared.aftermath.Aftermath.TheVariants.{Member}
use Rattle.dz_history.specs.State.{State, stands, held_at, key_at, policy_at, incarnation_at}
use Rattle.dz_history.specs.Signed.{tsig_in}
use Rattle.dz_take.specs.declared.outcome.TakeFault.{TakeFault}
use Rattle.dz_take.specs.declared.outcome.TakeFault.TheVariants.{Tsig}
use Rattle.dz_tsig.specs.declared.fault.TsigFault.{TsigFault}
use Rattle.dz_fleet.specs.inner.Judging.{Stands}
use Rattle.std.proofs.Math.Seq.{take-length}
use Rattle.dz_history.specs.After.{step, taken, transfer_of, decision_of, aftermath_of}
use Rattle.dz_history.specs.Legal.{IsApproved, CanFollow}
use Rattle.dz_history.proofs.ListLemmas.{count_is}
use Rattle.dz_history.proofs.StateLemmas.{same_alone}
use Rattle.dz_job.specs.Job.{JobOf, IsJob, transfer_for, taken_for, serial_in}
use Rattle.dz_job.specs.declared.verdict.Verdict.{Verdict}
use Rattle.dz_job.specs.declared.verdict.Verdict.TheVariants.{Published, Confirmed, Refused, PolicyRefused, Stale}
use Rattle.dz_job.specs.declared.verdict.Verdict.TheVariants.{OutOfMemory}
use Rattle.dz_fleet.specs.Core.{Core, state_of, ended_of, entry_for, is_accepted, screened, tsig_of, used_of}
use Rattle.dz_fleet.specs.Core.{verdict_from, verdict_of}
use Rattle.dz_fleet.specs.Weighing.{renewed_for, is_taken, aftermath_in}
use Rattle.dz_fleet.specs.Sound.{IsAmong, IsSound, IsFlying}
use Rattle.dz_fleet.proofs.SoundLemmas.{among_stands}

-- ---- an incarnation that is current is the only one
some_of : (o : Option ℕ) (i : ℕ) → option_map_or (λ j. j == i) o false ≡ true → IsSome o
some_of None i h = absurd (cc)
some_of (Some j) i h = refl

pub stands_some : (s : State) (zone : List (List ℕ)) (i : ℕ) → stands s zone i ≡ true → IsSome (incarnation_at s zone)
stands_some s zone i h = some_of (incarnation_at s zone) i h

-- ---- the transfer of a job is that of its entry
pub transfer_is : (s : State) (job : JobOf) (octets : List ℕ) → job.held ≡ held_at s job.flight.zone
    → transfer_of s (taken_for job octets) ≡ transfer_for job
transfer_is s job octets e = rw (← e) refl

pub decision_is : (s : State) (job : JobOf) (octets : List ℕ) → job.held ≡ held_at s job.flight.zone
    → decision_of s (taken_for job octets) ≡ outcome (transfer_for job) octets
unfolding decision_of
decision_is s job octets e = ap (λ t. outcome t octets) (transfer_is s job octets e)

pub step_is : (s : State) (job : JobOf) (octets : List ℕ) → job.held ≡ held_at s job.flight.zone
    → taken s job.flight.zone job.flight.moment (outcome (transfer_for job) octets) ≡ step s (entry_for job octets)
unfolding step
step_is s job octets e = ap (taken s job.flight.zone job.flight.moment) (sym (decision_is s job octets e))

pub aftermath_is : (c : Core) (job : JobOf) (octets : List ℕ) → job.held ≡ held_at (state_of c) job.flight.zone
    → aftermath_in c job octets ≡ aftermath_of (state_of c) job.flight.zone (outcome (transfer_for job) octets)
unfolding aftermath_in
aftermath_is c job octets e = ap (aftermath_of (state_of c) job.flight.zone) (decision_is (state_of c) job octets e)

-- ---- there is room for an entry
among_some : (job : JobOf) (jobs : List JobOf) → IsAmong job.flight jobs → 1 ≤ length jobs
unfolding IsAmong
among_some job [] a = absurd a
among_some job (j ∷ js) a = omega arith

pub room_more : (c : Core) (job : JobOf) → IsSound c → IsAmong job.flight c.flight → length c.list + 1 < 2 ^ 64
room_more c job ok among = omega (arith, among_some job c.flight among, ok.drawn, ok.most)

-- ---- verdicts
pub verdict_is : (c : Core) (job : JobOf) (octets : List ℕ) (t : Option TsigFault) (d : Decision) (o : Option ℕ)
    → tsig_of c job octets ≡ t → outcome (transfer_for job) octets ≡ d → ended_of c job ≡ o
    → verdict_of c job octets ≡ verdict_from c job (screened t d) o
unfolding verdict_of
verdict_is c job octets t d o s e f = rw (s, e, f) refl

pub screened_refused : (t : Option TsigFault) (fault : TakeFault) → screened t (refused fault) ≡ refused fault
screened_refused None fault = refl
screened_refused (Some f) fault = refl

-- what is refused for its own sake
pub verdict_refused : (c : Core) (job : JobOf) (octets : List ℕ) (fault : TakeFault)
    → outcome (transfer_for job) octets ≡ refused fault → ended_of c job ≡ None
    → verdict_of c job octets ≡ Refused fault
verdict_refused c job octets fault e f = verdict_is c job octets (tsig_of c job octets) (refused fault) None refl e f
    ∙ ap (λ d. verdict_from c job d None) (screened_refused (tsig_of c job octets) fault)

-- what is refused for its signatures
screened_stands : (f : TsigFault) (d : Decision) → Stands d → screened (Some f) d ≡ refused (Tsig f)
screened_stands f up_to_date s = refl
screened_stands f (new zone) s = refl
screened_stands f (refused fault) s = absurd s

pub verdict_unsigned : (c : Core) (job : JobOf) (octets : List ℕ) (f : TsigFault)
    → Stands (outcome (transfer_for job) octets) → tsig_of c job octets ≡ Some f → ended_of c job ≡ None
    → verdict_of c job octets ≡ Refused (Tsig f)
verdict_unsigned c job octets f s e g =
    verdict_is c job octets (Some f) (outcome (transfer_for job) octets) None e refl g
    ∙ ap (λ d. verdict_from c job d None) (screened_stands f (outcome (transfer_for job) octets) s)

pub verdict_new : (c : Core) (job : JobOf) (octets : List ℕ) (zone : Zone)
    → tsig_of c job octets ≡ None → outcome (transfer_for job) octets ≡ new zone → ended_of c job ≡ None
    → is_accepted (policy_at (state_of c) job.flight.zone) zone ≡ true
    → verdict_of c job octets
    ≡ Published (length c.list) (serial_in (Some zone)) (aftermath_of (state_of c) job.flight.zone (new zone))
verdict_new c job octets zone t e f g = verdict_is c job octets None (new zone) None t e f ∙ rw g refl

pub verdict_policy : (c : Core) (job : JobOf) (octets : List ℕ) (zone : Zone)
    → tsig_of c job octets ≡ None → outcome (transfer_for job) octets ≡ new zone → ended_of c job ≡ None
    → is_accepted (policy_at (state_of c) job.flight.zone) zone ≡ false
    → verdict_of c job octets ≡ PolicyRefused (standing zone.apex zone.records)
verdict_policy c job octets zone t e f g = verdict_is c job octets None (new zone) None t e f ∙ rw g refl

pub there_where_taken : (c : Core) (job : JobOf) (octets : List ℕ) (v : Verdict)
    → is_some (renewed_for c job octets v) ≡ is_taken v
there_where_taken c job octets (Published position serial aftermath) = refl
there_where_taken c job octets (Confirmed position serial) = refl
there_where_taken c job octets (Refused fault) = refl
there_where_taken c job octets (PolicyRefused standing) = refl
there_where_taken c job octets (Stale position) = refl
there_where_taken c job octets OutOfMemory = refl

-- a transfer may join the list: it is approved, and signed where it is to be
pub record MayJoin (c : Core) (job : JobOf) (octets : List ℕ) : Type 0 where
  pub approved : IsApproved (policy_at (state_of c) job.flight.zone) (outcome (transfer_for job) octets)
  pub signed : tsig_of c job octets ≡ None

-- what a verdict tells
pub record Tells (c : Core) (job : JobOf) (octets : List ℕ) (v : Verdict) : Type 0 where
  pub standing : ((n : ℕ) → v ≡ Stale n → ⊥) → ended_of c job ≡ None
  pub ended : (n : ℕ) → v ≡ Stale n → ended_of c job ≡ Some n
  pub memory : v ≡ OutOfMemory → ⊥
  pub approved : is_taken v ≡ true → MayJoin c job octets
  pub published : (p s : ℕ) (a : Aftermath) → v ≡ Published p s a
      → a ≡ aftermath_of (state_of c) job.flight.zone (outcome (transfer_for job) octets)
  pub confirmed : (p s : ℕ) → v ≡ Confirmed p s
      → Member ≡ aftermath_of (state_of c) job.flight.zone (outcome (transfer_for job) octets)

approved_by : (policy : Option Policy) (zone : Zone) → is_accepted policy zone ≡ true → IsApproved policy (new zone)
approved_by None zone h = absurd (cc)
approved_by (Some p) zone h = h

tells_new : (c : Core) (job : JobOf) (octets : List ℕ) (zone : Zone) (b : Bool)
    → tsig_of c job octets ≡ None → outcome (transfer_for job) octets ≡ new zone → ended_of c job ≡ None
    → is_accepted (policy_at (state_of c) job.flight.zone) zone ≡ b
    → Tells c job octets (if b then Published (length c.list) (serial_in (Some zone))
    (aftermath_of (state_of c) job.flight.zone (new zone)) else PolicyRefused (standing zone.apex zone.records))
tells_new c job octets zone true t e f g = record {
  standing = λ h. f;
  ended = λ n h. absurd (cc);
  memory = λ h. absurd (cc);
  approved = λ h. record { approved = rw e (approved_by (policy_at (state_of c) job.flight.zone) zone g); signed = t };
  published = λ p s a h. rw e (let same : aftermath_of (state_of c) job.flight.zone (new zone) ≡ a = cc in sym same);
  confirmed = λ p s h. absurd (cc);
}
tells_new c job octets zone false t e f g = record {
  standing = λ h. f;
  ended = λ n h. absurd (cc);
  memory = λ h. absurd (cc);
  approved = λ h. absurd (cc);
  published = λ p s a h. absurd (cc);
  confirmed = λ p s h. absurd (cc);
}

tells_from : (c : Core) (job : JobOf) (octets : List ℕ) (d : Decision) (o : Option ℕ) → tsig_of c job octets ≡ None
    → outcome (transfer_for job) octets ≡ d → ended_of c job ≡ o → Tells c job octets (verdict_from c job d o)
tells_from c job octets d (Some n) t e f = record {
  standing = λ h. absurd (h n refl);
  ended = λ m h. f ∙ (let same : n ≡ m = cc in ap Some same);
  memory = λ h. absurd (cc);
  approved = λ h. absurd (cc);
  published = λ p s a h. absurd (cc);
  confirmed = λ p s h. absurd (cc);
}
tells_from c job octets up_to_date None t e f = record {
  standing = λ h. f;
  ended = λ n h. absurd (cc);
  memory = λ h. absurd (cc);
  approved = λ h. record { approved = rw e tt; signed = t };
  published = λ p s a h. absurd (cc);
  confirmed = λ p s h. rw e (sym (same_alone (state_of c) job.flight.zone));
}
tells_from c job octets (refused fault) None t e f = record {
  standing = λ h. f;
  ended = λ n h. absurd (cc);
  memory = λ h. absurd (cc);
  approved = λ h. absurd (cc);
  published = λ p s a h. absurd (cc);
  confirmed = λ p s h. absurd (cc);
}
tells_from c job octets (new zone) None t e f =
    tells_new c job octets zone (is_accepted (policy_at (state_of c) job.flight.zone) zone) t e f refl

-- a verdict of a transfer that is refused
tells_refused : (c : Core) (job : JobOf) (octets : List ℕ) (fault : TakeFault) (o : Option ℕ) → ended_of c job ≡ o
    → Tells c job octets (verdict_from c job (refused fault) o)
tells_refused c job octets fault (Some n) f = record {
  standing = λ h. absurd (h n refl);
  ended = λ m h. f ∙ (let same : n ≡ m = cc in ap Some same);
  memory = λ h. absurd (cc);
  approved = λ h. absurd (cc);
  published = λ p s a h. absurd (cc);
  confirmed = λ p s h. absurd (cc);
}
tells_refused c job octets fault None f = record {
  standing = λ h. f;
  ended = λ n h. absurd (cc);
  memory = λ h. absurd (cc);
  approved = λ h. absurd (cc);
  published = λ p s a h. absurd (cc);
  confirmed = λ p s h. absurd (cc);
}

tells_by : (c : Core) (job : JobOf) (octets : List ℕ) (t : Option TsigFault) (d : Decision) → tsig_of c job octets ≡ t
    → outcome (transfer_for job) octets ≡ d → Tells c job octets (verdict_from c job (screened t d) (ended_of c job))
tells_by c job octets None d s e = tells_from c job octets d (ended_of c job) s e refl
tells_by c job octets (Some f) (refused fault) s e = tells_refused c job octets fault (ended_of c job) refl
tells_by c job octets (Some f) up_to_date s e = tells_refused c job octets (Tsig f) (ended_of c job) refl
tells_by c job octets (Some f) (new zone) s e = tells_refused c job octets (Tsig f) (ended_of c job) refl

pub tells : (c : Core) (job : JobOf) (octets : List ℕ) → Tells c job octets (verdict_of c job octets)
unfolding verdict_of
tells c job octets = tells_by c job octets (tsig_of c job octets) (outcome (transfer_for job) octets) refl refl

-- ---- a transfer that is taken can follow
signed_is : (c : Core) (job : JobOf) (octets : List ℕ) → octets_used (transfer_for job) octets ≡ length octets
    → job.held ≡ held_at (state_of c) job.flight.zone → tsig_of c job octets ≡ None
    → tsig_in (key_at (state_of c) job.flight.zone)
    (transfer_of (state_of c) (taken_for job octets)) octets job.flight.moment ≡ None
unfolding tsig_of
signed_is c job octets used held none =
    let all : used_of job octets ≡ octets = ap (λ n. take n octets) used ∙ take-length octets in
    rw (transfer_is (state_of c) job octets held)
    (ap (λ o. tsig_in (key_at (state_of c) job.flight.zone) (transfer_for job) o job.flight.moment) (sym all) ∙ none)

pub follows : (c : Core) (job : JobOf) (octets : List ℕ) → IsSound c → IsFlying c job → IsJob job
    → ended_of c job ≡ None → octets_used (transfer_for job) octets ≡ length octets
    → MayJoin c job octets → CanFollow (state_of c) (entry_for job octets)
follows c job octets ok fly valid none used joins =
    let stood = among_stands c job ok fly.there none in
    let held = fly.held stood in (
      omega (arith, count_is c.list ok.legal, ok.begun),
      record {
        stands = stood;
        asks = subst (CanAsk job.flight.ask) held valid.asks;
        used = rw (transfer_is (state_of c) job octets held) used;
        moment = valid.moment;
        approved = rw (decision_is (state_of c) job octets held) joins.approved;
        signed = signed_is c job octets used held joins.signed;
      },
    )

pub taken_step : (h s : State) (job : JobOf) (octets : List ℕ) → h ≡ s → job.held ≡ held_at s job.flight.zone
    → taken h job.flight.zone job.flight.moment (outcome (transfer_for job) octets) ≡ step s (entry_for job octets)
taken_step h s job octets same e = rw same (step_is s job octets e)
