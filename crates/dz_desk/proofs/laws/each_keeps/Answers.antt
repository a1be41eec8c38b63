use Rattle.dz_desk.proofs.laws.each_keeps.Goals as goal
use Rattle.dz_desk.proofs.KindLemmas.{each_keeps}

pub returns : goal.returns
returns c = each_keeps
