use Rattle.std.proofs.Common.{◌≡◌, ◌∙◌, ap, arith, length, Some}
use Rattle.dz_header.specs.Code.{number_of}
use Rattle.dz_request.specs.Frame.{query_of, bare_octets}
use Rattle.dz_notify.proofs.ReplyLemmas.{bare_short, bare_whole}
use Rattle.dz_notify.proofs.reply.reply_code.Goals as goal

pub returns-clause-octets : goal.returns-clause-octets
returns-clause-octets c =
    let text = bare_octets (query_of c.args.request.now c.args.asked.now) (number_of c.args.code) in
    let is : c.reply_bare.new.writer.writing.octets ≡ Some text = ap (λ w. w.octets) c.reply_bare.ensures
    ∙ ap Some (bare_whole c.args.request.now c.args.asked.now (number_of c.args.code) c.requires) in
    let same : c.written.result.now ≡ text = cc (c.written.ensures.octets) in
    (is, ap length same)

pub returns-clause-size : goal.returns-clause-size
returns-clause-size c = omega (
  arith,
  (returns-clause-octets c).1,
  bare_short c.args.request.now c.args.asked.now (number_of c.args.code) c.requires,
)
