use Rattle.dz_take.proofs.LawLemmas.{messages_tell}
use Rattle.dz_take.proofs.laws.messages_decide.Goals as goal

pub returns : goal.returns
returns c = messages_tell
