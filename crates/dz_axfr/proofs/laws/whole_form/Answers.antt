use Rattle.dz_axfr.proofs.WholeLemmas.{whole_stands}
use Rattle.dz_axfr.proofs.laws.whole_form.Goals as goal

pub returns-clause-stands : goal.returns-clause-stands
returns-clause-stands c = whole_stands
