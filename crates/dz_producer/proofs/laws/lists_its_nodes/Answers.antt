use Rattle.dz_producer.proofs.ListingLemmas as law
use Rattle.dz_producer.proofs.laws.lists_its_nodes.Goals as goal

pub returns : goal.returns
returns c = law.lists_its_nodes
