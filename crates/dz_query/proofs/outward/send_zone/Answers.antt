use Rattle.std.proofs.Common.{◌∙◌}
use Rattle.dz_query.proofs.SendingLemmas.{going_one, going_part, on_err}
use Rattle.dz_query.proofs.outward.send_zone.Goals as goal

pub messages-preserved : goal.messages-preserved
messages-preserved g c =
    let i = c.messages.invariant in
    let e = c.in-Some.ensures in
    let w = c.in_ok-write_framed.ensures in
    record {
      going =
          going_one _ _ _ e.message c.first.result.now _ _ _ e.are (c.first.ensures.octets ∙ e.octets) w.all i.going;
      beside = w.beside ∙ i.beside;
      faults = w.cause.kept ∙ i.faults;
      room = w.room;
    }

pub returns-in_err-write_framed-clause-err : goal.returns-in_err-write_framed-clause-err
returns-in_err-write_framed-clause-err g c =
    let e = c.in-Some.ensures in
    on_err c.from_residual.result _
    (going_part _ _ _ e.message c.first.result.now _ _ _ e.are
    (c.first.ensures.octets ∙ e.octets) c.in_err-write_framed.ensures.err c.messages.invariant.going)
