use Rattle.dz_member.proofs.AgainLemmas.{changes_once}
use Rattle.dz_member.proofs.laws.changes_once.Goals as goal

pub returns : goal.returns
returns c = changes_once
