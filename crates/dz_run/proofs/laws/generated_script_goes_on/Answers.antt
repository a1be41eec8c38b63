use Rattle.dz_run.proofs.RehearsalLemmas.{goes_on}
use Rattle.dz_run.proofs.laws.generated_script_goes_on.Goals as goal

pub returns : goal.returns
returns c = goes_on c.args.number
