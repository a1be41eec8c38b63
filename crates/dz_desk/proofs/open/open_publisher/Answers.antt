use Rattle.std.proofs.Common.{rules}
use Rattle.dz_desk.proofs.RuleLemmas.{shows}
use Rattle.dz_desk.proofs.open.open_publisher.Goals as goal

pub publish_as-writer-requires : goal.publish_as-writer-requires
publish_as-writer-requires g c next is = shows _ _ _ next (search rules)
