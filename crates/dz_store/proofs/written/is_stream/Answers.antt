use Rattle.std.proofs.Common.{◌∙◌}
use Rattle.std.proofs.lemmas.Bool.{false≢true}
use Rattle.dz_store.proofs.WritingLemmas.{matched_more, matched_not}
use Rattle.dz_store.proofs.written.is_stream.Goals as goal

pub returns-in-None : goal.returns-in-None
returns-in-None c =
    let e = c.in-Some.ensures in (
      λ never. absurd (false≢true never),
      λ same. absurd (matched_not c.args.octets.now c.messages.rest.now c.first.result.now
          c.args.outgoing c.messages.outgoing c.next.new.self e.message c.messages.invariant e.are
          (c.first.ensures.octets ∙ e.octets) c.in-None.ensures same),
    )

pub messages-preserved : goal.messages-preserved
messages-preserved c =
    let e = c.in-Some.ensures in
    matched_more c.args.octets.now c.messages.rest.now c.in-Some-after_frame.after.now c.first.result.now
    c.args.outgoing c.messages.outgoing c.next.new.self e.message c.messages.invariant e.are
    (c.first.ensures.octets ∙ e.octets) c.in-Some-after_frame.ensures
