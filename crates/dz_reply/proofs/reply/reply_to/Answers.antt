use Rattle.std.proofs.Common.{arith}
use Rattle.dz_request.specs.Frame.{is_tcp}
use Rattle.dz_request.specs.Request.{request}
use Rattle.dz_reply.specs.Reply.{reply_of}
use Rattle.dz_reply.specs.inner.AnswersHeld.{AnswersHeldFor}
use Rattle.dz_reply.proofs.ReadBack.{reads_back}
use Rattle.dz_reply.proofs.TurnLemmas.{notify_anyhow}
use Rattle.dz_reply.proofs.reply.reply_to.Goals as goal

pub returns-clause-reply : goal.returns-clause-reply
unfolding reply_of
returns-clause-reply c = rw (← c.read_request.ensures.reads) c.reply_request.ensures.reply

pub returns-clause-notify : goal.returns-clause-notify
returns-clause-notify c =
    notify_anyhow c.args.table.now c.args.octets.now c.args.moment
    (is_tcp c.args.transport) c.reply_request.new.writer.writing c.reply_request.result (returns-clause-reply c)

pub returns-clause-reads_back : goal.returns-clause-reads_back
returns-clause-reads_back c = λ text some e.
    let held : AnswersHeldFor c.args.table.now c.args.moment (request c.args.octets.now) =
    rw c.read_request.ensures.reads at c.reply_request.ensures.held in
    reads_back c.args.table.now c.args.octets.now c.args.moment
    (is_tcp c.args.transport) c.reply_request.result c.reply_request.new.writer.writing text
    (λ i. omega (arith, c.type_inv.octets i)) held (returns-clause-reply c) some e
