use Rattle.std.proofs.Common.{rules, ◌∙◌, ap}
use Rattle.dz_header.specs.Writing.{writing_of}
use Rattle.dz_request.specs.Frame.{query_of, is_tcp, limit_of}
use Rattle.dz_lookup.specs.Found.{meaning}
use Rattle.dz_reply.specs.Answer.{octets_of, at_end}
use Rattle.dz_reply.specs.Secure.{secure_of_ending}
use Rattle.dz_reply.proofs.KindLemmas.{found_by_kind}
use Rattle.dz_reply.proofs.SecureLemmas.{ends_alone, ends_empty, ends_nowhere, ends_at_cut}
use Rattle.dz_reply.proofs.secure.secure_end.Goals as goal

pub secure_alone-requires-clause-kinds : goal.secure_alone-requires-clause-kinds
secure_alone-requires-clause-kinds c =
    let zone = c.args.answer.now.version.now in
    let is = rw c.in-Some.is at c.alone.ensures in
    found_by_kind zone.apex zone.records c.args.name.now c.args.answer.now.frame.now.asked.now.question.kind
    (meaning c.args.last.now) c.in-Some.records.now c.requires.rises c.requires.found is.0

pub secure_records-requires-clause-kinds : goal.secure_records-requires-clause-kinds
secure_records-requires-clause-kinds c =
    let zone = c.args.answer.now.version.now in
    found_by_kind zone.apex zone.records c.args.name.now c.args.answer.now.frame.now.asked.now.question.kind
    (meaning c.args.last.now) c.in-Here.records.now c.requires.rises c.requires.found (ap meaning c.in-Here.is)

pub returns-in-NoData : goal.returns-in-NoData
returns-in-NoData c =
    let frame = c.args.answer.now.frame.now in
    let query = query_of frame.request.now frame.asked.now in
    c.secure_soa.ensures ∙ ap
    (λ s. writing_of (limit_of (is_tcp frame.transport) query.edns) (octets_of (is_tcp frame.transport) query s))
    (ends_empty c.args.answer.now.version.now frame.asked.now.question.kind c.args.chain.now _ c.args.name.now
    c.authority_of-authority.result (ap meaning c.in-NoData.is) c.authority_of-authority.ensures)

pub returns-in-NoName : goal.returns-in-NoName
returns-in-NoName c =
    let frame = c.args.answer.now.frame.now in
    let query = query_of frame.request.now frame.asked.now in
    c.secure_soa-in-NoName.ensures ∙ ap
    (λ s. writing_of (limit_of (is_tcp frame.transport) query.edns) (octets_of (is_tcp frame.transport) query s))
    (ends_nowhere c.args.answer.now.version.now frame.asked.now.question.kind c.args.chain.now _ c.args.name.now
    c.authority_of-authority.result (ap meaning c.in-NoName.is) c.authority_of-authority.ensures)

pub returns-in-Referral : goal.returns-in-Referral
returns-in-Referral c =
    let frame = c.args.answer.now.frame.now in
    let query = query_of frame.request.now frame.asked.now in
    c.secure_servers.ensures ∙ ap
    (λ s. writing_of (limit_of (is_tcp frame.transport) query.edns) (octets_of (is_tcp frame.transport) query s))
    (ends_at_cut c.args.answer.now.version.now frame.asked.now.question.kind c.args.chain.now
    _ c.args.name.now c.authority_of-authority.result c.in-Referral.servers.now
    (ap meaning c.in-Referral.is) c.authority_of-authority.ensures)

pub returns-in-Some : goal.returns-in-Some
returns-in-Some c =
    let frame = c.args.answer.now.frame.now in
    let zone = c.args.answer.now.version.now in
    let query = query_of frame.request.now frame.asked.now in
    let is = rw c.in-Some.is at c.alone.ensures in
    c.secure_alone.ensures ∙ ap
    (λ s. writing_of (limit_of (is_tcp frame.transport) query.edns) (octets_of (is_tcp frame.transport) query s))
    (ends_alone zone frame.asked.now.question.kind c.args.chain.now
    (meaning c.args.last.now) c.args.name.now c.in-Some.records.now is.0 (is.1 zone.records))

pub returns-in-Here : goal.returns-in-Here
unfolding at_end secure_of_ending
returns-in-Here c = search rules

pub returns-in-Alias : goal.returns-in-Alias
unfolding at_end secure_of_ending
returns-in-Alias c = search rules
