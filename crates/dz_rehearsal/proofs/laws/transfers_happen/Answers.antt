use Rattle.dz_rehearsal.proofs.ScriptLemmas.{transfers_happen}
use Rattle.dz_rehearsal.proofs.laws.transfers_happen.Goals as goal

pub returns : goal.returns
returns c = transfers_happen c.args.number
