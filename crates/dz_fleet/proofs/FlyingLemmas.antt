-- A job in flight is this core's.
use Rattle.std.proofs.Common.{◌≡◌, ℕ, List, [], ◌∷◌, subst, inl, inr, Some, ap}
use Rattle.std.specs.Prelude.{slice_get, zero, suc}
use Rattle.std.specs.List.{AllByRecursion}
use Rattle.dz_job.specs.Job.{JobOf}
use Rattle.dz_fleet.specs.Core.{Core}
use Rattle.dz_fleet.specs.Sound.{IsAmong, IsSent, IsSound, IsFlying}

pub among_at : (jobs : List JobOf) (place : ℕ) (job : JobOf) → slice_get jobs place ≡ Some job
    → IsAmong job.flight jobs
unfolding IsAmong
among_at [] place job e = absurd (cc)
among_at (j ∷ js) zero job e = inl (let s : j ≡ job = cc in ap (λ (x : JobOf). x.flight) s)
among_at (j ∷ js) (suc k) job e = inr (among_at js k job e)

pub all_at : {X : Type 0} (P : X → Type 0) (xs : List X) (place : ℕ) (x : X) → AllByRecursion P xs
    → slice_get xs place ≡ Some x → P x
all_at P [] place x h e = absurd (cc)
all_at P (y ∷ ys) zero x h e = let s : y ≡ x = cc in subst P s h.0
all_at P (y ∷ ys) (suc k) x h e = all_at P ys k x h.1 e

pub flies : (c : Core) (place : ℕ) (job : JobOf) → IsSound c → slice_get c.flight place ≡ Some job → IsFlying c job
flies c place job ok e = record {
  there = among_at c.flight place job e;
  given = (all_at (IsSent c.list c.tickets) c.flight place job ok.sent e).given;
  held = (all_at (IsSent c.list c.tickets) c.flight place job ok.sent e).held;
}
