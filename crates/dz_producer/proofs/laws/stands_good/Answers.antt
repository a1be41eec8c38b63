use Rattle.dz_producer.proofs.StandingLemmas as law
use Rattle.dz_producer.proofs.laws.stands_good.Goals as goal

pub returns : goal.returns
returns c = law.stands_good
