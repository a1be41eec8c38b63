use Rattle.std.proofs.Common.{◌∙◌, ap, arith}
use Rattle.dz_name.specs.Numbers.{two}
use Rattle.dz_query.proofs.ComingLemmas.{two_back}
use Rattle.dz_query.proofs.came.size_of.Goals as goal

pub returns-clause-back : goal.returns-clause-back
returns-clause-back c =
    ap two c.number_of_two.ensures ∙ two_back c.args.front.now c.requires (λ i. omega (arith, c.type_inv.front i))
