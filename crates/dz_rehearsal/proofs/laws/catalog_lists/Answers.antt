use Rattle.dz_rehearsal.proofs.ListsLemmas.{lists}
use Rattle.dz_rehearsal.proofs.laws.catalog_lists.Goals as goal

pub returns : goal.returns
returns c = lists c.args.number
