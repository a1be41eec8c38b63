use Rattle.dz_take.proofs.LawLemmas.{stands_tells, kind_stands}
use Rattle.dz_take.proofs.laws.form_decides.Goals as goal

pub returns : goal.returns
returns c = record { decides = stands_tells; stands = kind_stands }
