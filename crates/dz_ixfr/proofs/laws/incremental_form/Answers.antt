use Rattle.dz_ixfr.proofs.Amids.{form_stands, form_stands_once}
use Rattle.dz_ixfr.proofs.laws.incremental_form.Goals as goal

pub returns-clause-stands : goal.returns-clause-stands
returns-clause-stands c = form_stands

pub returns-clause-once : goal.returns-clause-once
returns-clause-once c = form_stands_once
