use Rattle.std.proofs.Common.{◌≡◌, take, arith}
use Rattle.dz_query.proofs.AnswerLemmas.{framed_text}
use Rattle.dz_query.proofs.stream.write_answer.Goals as goal

pub returns-in-Written-clause-err : goal.returns-in-Written-clause-err
returns-in-Written-clause-err g c =
    let short = rw c.in-Written.is at c.requires.short in
    let octets : c.first.result.now ≡ take c.in-Written.count short.text =
    c.first.ensures.written short.text short.written (omega (arith, short.counts)) in
    rw (c.in-Written.is, framed_text c.in-Written.count c.args.writer.now.writing c.first.result.now short octets)
    c.write_framed.ensures.err
