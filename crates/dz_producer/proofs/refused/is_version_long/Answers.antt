use Rattle.std.proofs.Common.{[], ◌∷◌, ap, arith, length}
use Rattle.dz_producer.proofs.SizeLemmas.{long_child}
use Rattle.dz_producer.proofs.refused.is_version_long.Goals as goal

pub returns : goal.returns
returns c = long_child (118 ∷ 101 ∷ 114 ∷ 115 ∷ 105 ∷ 111 ∷ 110 ∷ []) c.args.apex.now _
    (omega (arith, ap length c.wire.ensures.wire))
