use Rattle.dz_gen.proofs.ReadingLemmas.{script_read}
use Rattle.dz_gen.proofs.laws.is_readable.Goals as goal

pub returns : goal.returns
returns c = script_read c.args.number
