use Rattle.dz_member.proofs.LawLemmas.{held_once}
use Rattle.dz_member.proofs.laws.held_once.Goals as goal

pub returns : goal.returns
returns c = held_once
