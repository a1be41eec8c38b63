use Rattle.dz_member.proofs.KeptLemmas.{zones_rise}
use Rattle.dz_member.proofs.fold.Fold.shared_members.Goals as goal

pub returns-clause-order : goal.returns-clause-order
returns-clause-order c = zones_rise _ _ c.self.invariant.fold.rises
