use Rattle.std.proofs.Common.{◌∙◌}
use Rattle.std.proofs.lemmas.Result.{IfOk-weaker}
use Rattle.dz_fleet.proofs.CarryLemmas.{relisted_is}
use Rattle.dz_fleet.proofs.relisted.relisted.Goals as goal

pub returns : goal.returns
returns c =
    IfOk-weaker c.over.result _ _
    (λ s e. e ∙ (rw (c.in_ok-carry.ensures, c.in_ok-values.ensures, c.fold-after.ensures.fold)
    (relisted_is c.args.before.now c.args.schedule.now c.args.after.now.fold.members)))
    c.over.ensures
