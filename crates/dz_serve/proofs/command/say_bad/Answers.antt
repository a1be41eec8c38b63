use Rattle.dz_serve.proofs.ConfigLemmas.{says_bad, says_part}
use Rattle.dz_serve.proofs.command.say_bad.Goals as goal

pub returns-in-Ok-clause-said : goal.returns-in-Ok-clause-said
returns-in-Ok-clause-said g c =
    says_bad c.args.fault c.unserved.result.end _ _ c.unserved.ensures.end
    (rw c.unserved.ensures.output (rw c.number.ensures at c.in-Ok.ensures.all))

pub returns-in-Err-clause-said : goal.returns-in-Err-clause-said
returns-in-Err-clause-said g c =
    says_part c.args.fault c.unserved-in-Err.result.end _ _ c.unserved-in-Err.ensures.end
    (rw c.unserved-in-Err.ensures.output (rw c.number.ensures at c.in-Err.ensures.err))
