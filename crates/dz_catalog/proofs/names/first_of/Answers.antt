use Rattle.std.proofs.Common.{arith, ap, length, [], ◌∙◌}
use Rattle.dz_name.proofs.PartLemmas.{first_is}
use Rattle.dz_catalog.proofs.names.first_of.Goals as goal

pub split_at-requires : goal.split_at-requires
split_at-requires c = omega (arith, ap length (c.piece.ensures.piece []))

pub returns-else-is_root : goal.returns-else-is_root
returns-else-is_root c =
    c.«new».ensures ∙ first_is c.args.name.now c.piece.result.now _ (omega arith)
    (c.piece.ensures.piece []) c.split_at.ensures.back (c.piece.ensures.label [])
