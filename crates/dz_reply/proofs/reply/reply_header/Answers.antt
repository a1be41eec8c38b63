use Rattle.std.proofs.Common.{ap}
use Rattle.dz_reply.proofs.TurnLemmas.{turned, some_written}
use Rattle.dz_reply.proofs.reply.reply_header.Goals as goal

pub as_written-requires : goal.as_written-requires
as_written-requires c = some_written c.reply_curt.new.writer.writing _ (ap (λ w. w.octets) c.reply_curt.ensures)

pub returns-clause-reply : goal.returns-clause-reply
returns-clause-reply c = turned _ _ _ (ap (λ w. w.octets) c.reply_curt.ensures) c.as_written.ensures.reply
