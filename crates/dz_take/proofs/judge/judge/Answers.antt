use Rattle.std.proofs.Common.{arith}
use Rattle.dz_take.specs.inner.Following.{records_in}
use Rattle.dz_take.proofs.JudgingLemmas.{read_follows}
use Rattle.dz_take.proofs.judge.judge.Goals as goal

pub returns-in-Ok : goal.returns-in-Ok
returns-in-Ok c =
    read_follows c.args.transfer.now c.args.used (records_in c.args.state) c.args.message.now c.in-Ok.content
    (omega arith) c.in-Ok.ensures.reads c.judge_content.result c.judge_content.ensures
