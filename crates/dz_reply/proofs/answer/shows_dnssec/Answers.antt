use Rattle.std.proofs.Common.{sym, ◌∙◌}
use Rattle.dz_reply.specs.Secure.{asks_dnssec}
use Rattle.dz_reply.proofs.SecureLemmas.{for_plain}
use Rattle.dz_reply.proofs.UnsignedLemmas.{sections_are}
use Rattle.dz_reply.proofs.answer.shows_dnssec.Goals as goal

pub returns-then-not-is_secure-clause-plain : goal.returns-then-not-is_secure-clause-plain
returns-then-not-is_secure-clause-plain c is name kind =
    sections_are c.args.version.now c.is_secure.ensures.valid.rises
    (sym c.is_secure.ensures.secure ∙ c.if-not-is_secure.true)
    (asks_dnssec c.args.frame.now.asked.now.edns) name kind

pub returns-clause-asked : goal.returns-clause-asked
returns-clause-asked c is = sym c.asks_for_dnssec.ensures ∙ is

pub returns-clause-plain : goal.returns-clause-plain
returns-clause-plain c is name kind =
    for_plain (asks_dnssec c.args.frame.now.asked.now.edns) c.args.version.now name kind
    (sym c.asks_for_dnssec.ensures ∙ is)
