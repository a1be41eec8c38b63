use Rattle.dz_disk.proofs.SeveralLemmas.{some_of_them}
use Rattle.dz_disk.proofs.laws.several_join.Goals as goal

pub returns : goal.returns
returns c = λ reads list due before file fits are is left. some_of_them reads list due before file fits are is left
