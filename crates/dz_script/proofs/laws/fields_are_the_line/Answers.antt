use Rattle.dz_script.proofs.LawLemmas.{is_cut}
use Rattle.dz_script.proofs.laws.fields_are_the_line.Goals as goal

pub returns : goal.returns
returns c = is_cut
