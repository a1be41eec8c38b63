use Rattle.dz_reply.proofs.AnswerLemmas.{soa_written, length-soa_entries}
use Rattle.dz_reply.proofs.answer.put_soa.Goals as goal

pub returns-clause-written : goal.returns-clause-written
returns-clause-written c =
    soa_written c.args.question.now c.args.version.now c.apex_soa-soa.result.now c.args.writer.now.writing _
    c.apex_soa-soa.ensures.soa (rw (c.apex.ensures, c.negative_ttl.ensures) at c.put_entry.ensures)

pub returns-clause-one : goal.returns-clause-one
returns-clause-one c = length-soa_entries c.args.version.now c.apex_soa-soa.result.now c.apex_soa-soa.ensures.soa
