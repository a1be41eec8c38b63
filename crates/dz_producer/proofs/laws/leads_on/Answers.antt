use Rattle.dz_producer.proofs.LeadingLemmas as law
use Rattle.dz_producer.proofs.laws.leads_on.Goals as goal

pub returns : goal.returns
returns c = law.leads_on
