use Rattle.std.proofs.Common.{◌≡◌, ◌∙◌, sym, Some, None, arith}
use Rattle.dz_header.specs.Code.{number_of}
use Rattle.dz_request.specs.Frame.{query_of, bare_octets}
use Rattle.dz_notify.specs.Reply.{code_for}
use Rattle.dz_notify.proofs.ReplyLemmas.{replied, reads, silent}
use Rattle.dz_notify.proofs.reply.notify_reply_to.Goals as goal

pub returns-in_err-code-clause-reply : goal.returns-in_err-code-clause-reply
returns-in_err-code-clause-reply c =
    let none : code_for c.args.heard ≡ None = sym c.code_for.ensures ∙ c.in_err-code.was in
    rw c.from_residual.ensures (silent c.args.request.now c.args.heard none)

pub returns-in-Notify-clause-reply : goal.returns-in-Notify-clause-reply
returns-in-Notify-clause-reply c =
    let written = c.reply_code.ensures.octets in
    let said : code_for c.args.heard ≡ Some c.in_ok-code.code = sym c.code_for.ensures ∙ c.in_ok-code.was in (
      bare_octets (query_of c.args.request.now c.in-Notify.asked) (number_of c.in_ok-code.code),
      written.0,
      written.1,
      replied c.args.request.now c.args.heard c.in-Notify.asked c.in_ok-code.code c.in-Notify.ensures.reads said,
    )

pub returns-in-Notify-clause-reads_back : goal.returns-in-Notify-clause-reads_back
returns-in-Notify-clause-reads_back c = λ text e some.
    let same : bare_octets (query_of c.args.request.now c.in-Notify.asked) (number_of c.in_ok-code.code) ≡ text =
    cc (c.reply_code.ensures.octets.0) in
    let said : code_for c.args.heard ≡ Some c.in_ok-code.code = sym c.code_for.ensures ∙ c.in_ok-code.was in
    reads c.args.request.now text c.args.heard c.in-Notify.asked c.in_ok-code.code
    (λ i. omega (arith, c.type_inv.request i)) c.in-Notify.ensures.reads said c.in-Notify.ensures.fits same
