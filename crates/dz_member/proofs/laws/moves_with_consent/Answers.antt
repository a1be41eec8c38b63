use Rattle.dz_member.proofs.LawLemmas.{moves_with_consent}
use Rattle.dz_member.proofs.laws.moves_with_consent.Goals as goal

pub returns : goal.returns
returns c = moves_with_consent
