use Rattle.std.proofs.Common.{refl, arith}
use Rattle.dz_member.proofs.PlaceLemmas.{none_behind}
use Rattle.dz_member.proofs.walk.behind.Goals.{else-taken-via-then-taken+else-at-nodes, else-taken-via-else-taken}
use Rattle.dz_member.proofs.walk.behind.Goals as goal

pub returns-else-taken : goal.returns-else-taken
returns-else-taken c = elim c.else-taken.branch [
  | else-taken-via-then-taken+else-at-nodes w ↦
      none_behind c.args.nodes.now c.args.at _ (omega (arith, w.if-at-nodes.false))
  | else-taken-via-else-taken w ↦ rw w.if-taken.false refl
]
