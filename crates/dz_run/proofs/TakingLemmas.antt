-- What comes of the transfer of the first line.
use Rattle.std.proofs.Common.{◌≡◌, subst, sym}
use Rattle.dz_take.specs.Fit.{Fits}
use Rattle.dz_take.specs.Outcome.{outcome}
use Rattle.dz_take.specs.Taken.{Taken}
use Rattle.dz_take.specs.Transfer.{Transfer, Decision}
use Rattle.dz_take.proofs.FitLemmas.{outcomes_fit}

-- what came of a transfer fits it
pub outcome_fits : (taken : Taken) (transfer : Transfer) (decision : Decision) → taken.transfer ≡ transfer
    → decision ≡ outcome taken.transfer taken.octets → Fits transfer decision
outcome_fits taken transfer decision t e = subst (λ d. Fits transfer d) (sym e)
    (subst (λ x. Fits x (outcome taken.transfer taken.octets)) t (outcomes_fit taken.transfer taken.octets))
