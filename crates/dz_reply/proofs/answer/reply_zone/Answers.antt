use Rattle.std.proofs.Common.{ap, ◌∙◌}
use Rattle.dz_header.specs.Writing.{writing_of}
use Rattle.dz_request.specs.Frame.{query_of, is_tcp, limit_of}
use Rattle.dz_reply.specs.Answer.{octets_of}
use Rattle.dz_reply.specs.Secure.{asks_dnssec}
use Rattle.dz_reply.proofs.AnswerLemmas.{zone_stopped, zone_too_long, zone_ended}
use Rattle.dz_reply.proofs.SecureLemmas.{for_stopped, for_too_long, for_ended, ends_found}
use Rattle.dz_reply.proofs.answer.reply_zone.Goals as goal

pub secure_end-requires-clause-found : goal.secure_end-requires-clause-found
secure_end-requires-clause-found c =
    ends_found c.args.version.now.apex c.args.version.now.records c.args.frame.now.asked.now.question.name
    c.args.frame.now.asked.now.question.kind _ c.in-Found.name c.in-Found.ensures.ending

pub reply_end-requires-clause-found : goal.reply_end-requires-clause-found
reply_end-requires-clause-found c =
    ends_found c.args.version.now.apex c.args.version.now.records c.args.frame.now.asked.now.question.name
    c.args.frame.now.asked.now.question.kind _ c.in-Found-last.name c.in-Found-last.ensures.ending

pub returns-in-Stopped : goal.returns-in-Stopped
returns-in-Stopped c =
    let frame = c.args.frame.now in
    let query = query_of frame.request.now frame.asked.now in
    let dnssec = asks_dnssec frame.asked.now.edns in
    c.secure_stopped.ensures ∙ ap
    (λ s. writing_of (limit_of (is_tcp frame.transport) query.edns) (octets_of (is_tcp frame.transport) query s))
    (for_stopped dnssec c.args.version.now query.name frame.asked.now.question.kind _
    (c.shows_dnssec.ensures.asked c.if-shows_dnssec.true) c.in-Stopped.ensures.trail c.in-Stopped.ensures.ending)

pub returns-in-NameTooLong : goal.returns-in-NameTooLong
returns-in-NameTooLong c =
    let frame = c.args.frame.now in
    let query = query_of frame.request.now frame.asked.now in
    let dnssec = asks_dnssec frame.asked.now.edns in
    c.secure_too_long.ensures ∙ ap
    (λ s. writing_of (limit_of (is_tcp frame.transport) query.edns) (octets_of (is_tcp frame.transport) query s))
    (for_too_long dnssec c.args.version.now query.name frame.asked.now.question.kind _ _
    (c.shows_dnssec.ensures.asked c.if-shows_dnssec.true) c.in-NameTooLong.ensures.trail
    c.in-NameTooLong.ensures.ending)

pub returns-in-Found : goal.returns-in-Found
returns-in-Found c =
    let frame = c.args.frame.now in
    let query = query_of frame.request.now frame.asked.now in
    let dnssec = asks_dnssec frame.asked.now.edns in
    c.secure_end.ensures ∙ ap
    (λ s. writing_of (limit_of (is_tcp frame.transport) query.edns) (octets_of (is_tcp frame.transport) query s))
    (for_ended dnssec c.args.version.now query.name frame.asked.now.question.kind _ _ c.in-Found.name
    (c.shows_dnssec.ensures.asked c.if-shows_dnssec.true) c.in-Found.ensures.trail c.in-Found.ensures.ending)

pub returns-in-Stopped-last : goal.returns-in-Stopped-last
returns-in-Stopped-last c =
    let frame = c.args.frame.now in
    let query = query_of frame.request.now frame.asked.now in
    let dnssec = asks_dnssec frame.asked.now.edns in
    c.reply_trail.ensures ∙ ap
    (λ s. writing_of (limit_of (is_tcp frame.transport) query.edns) (octets_of (is_tcp frame.transport) query s))
    (zone_stopped c.args.version.now query.name frame.asked.now.question.kind _ c.in-Stopped-last.ensures.trail
    c.in-Stopped-last.ensures.ending
    ∙ c.shows_dnssec.ensures.plain c.if-shows_dnssec.false query.name frame.asked.now.question.kind)

pub returns-in-NameTooLong-last : goal.returns-in-NameTooLong-last
returns-in-NameTooLong-last c =
    let frame = c.args.frame.now in
    let query = query_of frame.request.now frame.asked.now in
    let dnssec = asks_dnssec frame.asked.now.edns in
    c.reply_too_long.ensures ∙ ap
    (λ s. writing_of (limit_of (is_tcp frame.transport) query.edns) (octets_of (is_tcp frame.transport) query s))
    (zone_too_long c.args.version.now query.name frame.asked.now.question.kind _ _ c.in-NameTooLong-last.ensures.trail
    c.in-NameTooLong-last.ensures.ending
    ∙ c.shows_dnssec.ensures.plain c.if-shows_dnssec.false query.name frame.asked.now.question.kind)

pub returns-in-Found-last : goal.returns-in-Found-last
returns-in-Found-last c =
    let frame = c.args.frame.now in
    let query = query_of frame.request.now frame.asked.now in
    let dnssec = asks_dnssec frame.asked.now.edns in
    c.reply_end.ensures ∙ ap
    (λ s. writing_of (limit_of (is_tcp frame.transport) query.edns) (octets_of (is_tcp frame.transport) query s))
    (zone_ended c.args.version.now query.name frame.asked.now.question.kind _ _ c.in-Found-last.name
    c.in-Found-last.ensures.trail c.in-Found-last.ensures.ending
    ∙ c.shows_dnssec.ensures.plain c.if-shows_dnssec.false query.name frame.asked.now.question.kind)
