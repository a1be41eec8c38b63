use Rattle.std.proofs.Common.{refl, arith, ◌+◌}
use Rattle.std.proofs.lemmas.Iterator.{YieldsList-from_range}
use Rattle.std.proofs.lemmas.Iterator.{items_from_collect}
use Rattle.dz_gen.proofs.script.numbers.Goals as goal

pub returns : goal.returns
returns c = items_from_collect c.collect.result c.collect.ensures.ran
    (YieldsList-from_range 1 (c.args.number + 1) c.args.number refl (omega arith))
