use Rattle.dz_name.specs.declared.dns.TheConstants.{TYPE_SOA}
use Rattle.dz_secure.specs.Secure.{signatures}
use Rattle.dz_reply.specs.Answer.{own_entries, soa_entries}
use Rattle.dz_reply.proofs.AnswerLemmas.{both_written}
use Rattle.dz_reply.proofs.secure.put_signed_soa.Goals as goal

pub returns-clause-written : goal.returns-clause-written
returns-clause-written c =
    let zone = c.args.version.now in
    both_written c.args.question.now (soa_entries zone)
    (own_entries (signatures zone.records zone.apex TYPE_SOA)) c.args.writer.now.writing _ _
    c.put_soa.ensures.written (rw c.requires at c.put_own.ensures)
