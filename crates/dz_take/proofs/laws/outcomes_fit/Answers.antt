use Rattle.dz_take.proofs.FitLemmas as fits
use Rattle.dz_take.proofs.laws.outcomes_fit.Goals as goal

pub returns : goal.returns
returns c = fits.outcomes_fit
