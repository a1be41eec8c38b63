use Rattle.dz_member.proofs.LawLemmas.{stays_without, clash_stays}
use Rattle.dz_member.proofs.laws.stays.Goals as goal

pub returns-clause-without : goal.returns-clause-without
returns-clause-without c = stays_without

pub returns-clause-clash : goal.returns-clause-clash
returns-clause-clash c = clash_stays
