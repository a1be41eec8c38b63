use Rattle.std.proofs.Common.{arith, ap, length}
use Rattle.dz_reply.proofs.AnswerLemmas.{length-entries}
use Rattle.dz_reply.proofs.signed.count_beside.Goals as goal

pub returns-clause-value : goal.returns-clause-value
returns-clause-value c owner =
    omega (arith, ap length (c.beside.ensures owner), length-entries owner c.beside.result.now)
