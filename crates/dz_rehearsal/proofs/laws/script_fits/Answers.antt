use Rattle.dz_rehearsal.proofs.SizeLemmas.{script_size}
use Rattle.dz_rehearsal.proofs.laws.script_fits.Goals as goal

pub returns : goal.returns
returns c few = script_size c.args.number few
