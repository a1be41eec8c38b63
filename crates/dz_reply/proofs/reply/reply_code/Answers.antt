use Rattle.std.proofs.Common.{ap}
use Rattle.dz_header.specs.Code.{number_of}
use Rattle.dz_request.specs.Frame.{query_of, is_tcp}
use Rattle.dz_reply.proofs.AnswerLemmas.{bare_so}
use Rattle.dz_reply.proofs.TurnLemmas.{turned, some_written}
use Rattle.dz_reply.proofs.reply.reply_code.Goals as goal

pub as_written-requires : goal.as_written-requires
as_written-requires c = some_written c.reply_bare.new.writer.writing _ (ap (λ w. w.octets) c.reply_bare.ensures)

pub returns-clause-reply : goal.returns-clause-reply
returns-clause-reply c =
    turned _ _ _ (ap (λ w. w.octets) (bare_so (is_tcp c.args.exchange.now.transport)
    (query_of c.args.exchange.now.octets.now c.args.asked.now) (number_of c.args.code) _ c.reply_bare.ensures))
    c.as_written.ensures.reply
