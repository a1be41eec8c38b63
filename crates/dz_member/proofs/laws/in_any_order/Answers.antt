use Rattle.dz_member.proofs.AnyOrderLemmas.{in_any_order}
use Rattle.dz_member.proofs.laws.in_any_order.Goals as goal

pub returns : goal.returns
returns c = in_any_order
