use Rattle.std.proofs.Common.{◌∙◌}
use Rattle.dz_produce.proofs.MakingLemmas.{some_is}
use Rattle.dz_produce.proofs.making.is_producible.Goals as goal

pub returns : goal.returns
returns c = c.is_some.ensures ∙ some_is c.args.apex.now c.args.serial c.in_ok-version.version c.in_ok-version.ensures
