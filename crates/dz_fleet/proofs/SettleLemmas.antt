-- What a verdict makes of the core, by cases.
use Rattle.std.proofs.Common.{◌≡◌, ℕ, Bool, true, false, List, length, refl, sym, ◌∙◌, ap, Some, None}
use Rattle.std.specs.Prelude.{not, IsSome, if◌then◌else◌}
use Rattle.std.specs.Option.{option_and_then}
use Rattle.std.proofs.Math.Seq.{take-length}
use Rattle.dz_record.specs.Record.{soa_of}
use Rattle.dz_record.specs.declared.rr.Soa.{Soa}
use Rattle.dz_zone.specs.Version.{Zone, apex_soa}
use Rattle.dz_take.specs.declared.outcome.TakeFault.{TakeFault}
use Rattle.dz_take.specs.Outcome.{octets_used}
use Rattle.dz_zonemd.specs.declared.acceptance.Standing.{Standing}
use Rattle.dz_history.specs.declared.aftermath.Aftermath.{Aftermath}
use Rattle.dz_history.specs.declared.aftermath.Aftermath.TheVariants.{Member}
use Rattle.dz_history.specs.State.{held_at}
use Rattle.dz_job.specs.Job.{JobOf, transfer_for, serial_in}
use Rattle.dz_job.specs.declared.verdict.Verdict.{Verdict}
use Rattle.dz_job.specs.declared.verdict.Verdict.TheVariants.{Published, Confirmed, Refused, PolicyRefused, Stale}
use Rattle.dz_job.specs.declared.verdict.Verdict.TheVariants.{OutOfMemory}
use Rattle.dz_fleet.specs.Core.{Core, state_of, ended_of, landed, used_of, verdict_of, after_verdict, settled}
use Rattle.dz_fleet.specs.Core.{is_old_serial, after_failure, after_refusal, after_success}
use Rattle.dz_fleet.specs.Weighing.{aftermath_in}
use Rattle.dz_fleet.proofs.TakeLemmas.{tells, aftermath_is}

pub serial_new : (zone : Zone) (soa : Soa) → Some soa ≡ option_and_then soa_of (apex_soa zone)
    → soa.serial ≡ serial_in (Some zone)
serial_new zone soa e = rw (← e) refl

used_all : (job : JobOf) (octets : List ℕ) → octets_used (transfer_for job) octets ≡ length octets
    → used_of job octets ≡ octets
used_all job octets e = rw e (take-length octets)

module _ (c : Core) (job : JobOf) (octets : List ℕ)
    (used : octets_used (transfer_for job) octets ≡ length octets) where
  pub settled_by : (now : ℕ) (v : Verdict) → verdict_of c job octets ≡ v
      → settled c job octets now ≡ after_verdict c job octets now v
  settled_by now v e = rw (used_all job octets used, e) refl

  pub standing_by : (v : Verdict) → verdict_of c job octets ≡ v → ((n : ℕ) → v ≡ Stale n → ⊥) → ended_of c job ≡ None
  standing_by v e f = (tells c job octets).standing (λ n h. f n (sym e ∙ h))

  pub published_aftermath : (p s : ℕ) (a : Aftermath) → verdict_of c job octets ≡ Published p s a
      → job.held ≡ held_at (state_of c) job.flight.zone → a ≡ aftermath_in c job octets
  published_aftermath p s a e held = (tells c job octets).published p s a e ∙ sym (aftermath_is c job octets held)

  pub confirmed_aftermath : (p s : ℕ) → verdict_of c job octets ≡ Confirmed p s
      → job.held ≡ held_at (state_of c) job.flight.zone → Member ≡ aftermath_in c job octets
  confirmed_aftermath p s e held = (tells c job octets).confirmed p s e ∙ sym (aftermath_is c job octets held)

  pub settled_published : (now p s : ℕ) (a : Aftermath) → verdict_of c job octets ≡ Published p s a
      → job.held ≡ held_at (state_of c) job.flight.zone
      → after_success c job octets (aftermath_in c job octets) ≡ settled c job octets now
  settled_published now p s a e held = ap (after_success c job octets) (sym (published_aftermath p s a e held))
      ∙ sym (settled_by now (Published p s a) e)

  pub settled_confirmed : (now p s : ℕ) → verdict_of c job octets ≡ Confirmed p s
      → job.held ≡ held_at (state_of c) job.flight.zone
      → after_success c job octets (aftermath_in c job octets) ≡ settled c job octets now
  settled_confirmed now p s e held = ap (after_success c job octets) (sym (confirmed_aftermath p s e held))
      ∙ sym (settled_by now (Confirmed p s) e)

  old_turned : (now : ℕ) (b : Bool) → (if not b then after_refusal c job now else after_failure c job now)
      ≡ (if b then after_failure c job now else after_refusal c job now)
  old_turned now true = refl
  old_turned now false = refl

  pub settled_refused : (now : ℕ) (fault : TakeFault) → verdict_of c job octets ≡ Refused fault
      → (if not (is_old_serial fault) then after_refusal c job now else after_failure c job now)
      ≡ settled c job octets now
  settled_refused now fault e = old_turned now (is_old_serial fault) ∙ sym (settled_by now (Refused fault) e)

  pub settled_policy : (now : ℕ) (standing : Standing) → verdict_of c job octets ≡ PolicyRefused standing
      → after_refusal c job now ≡ settled c job octets now
  settled_policy now standing e = sym (settled_by now (PolicyRefused standing) e)

  pub settled_stale : (now n : ℕ) → verdict_of c job octets ≡ Stale n → landed c job ≡ settled c job octets now
  settled_stale now n e = sym (settled_by now (Stale n) e)

  pub stale_some : (n : ℕ) → verdict_of c job octets ≡ Stale n → IsSome (ended_of c job)
  stale_some n e = rw ((tells c job octets).ended n e) refl

  pub never_memory : {A : Type 0} → verdict_of c job octets ≡ OutOfMemory → A
  never_memory e = absurd ((tells c job octets).memory e)
