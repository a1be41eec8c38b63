use Rattle.dz_message.proofs.FrameLemmas.{is_cut}
use Rattle.dz_message.proofs.laws.each_is_cut.Goals as goal

pub returns : goal.returns
returns c = is_cut
