use Rattle.dz_tsig.proofs.PassLemmas.{signed_have_none}
use Rattle.dz_tsig.proofs.laws.signed_has_no_fault.Goals as goal

pub returns : goal.returns
returns c = λ key mac moment ms is small plain short. signed_have_none key is moment small mac ms plain short
