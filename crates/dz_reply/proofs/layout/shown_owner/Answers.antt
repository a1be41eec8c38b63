use Rattle.std.proofs.Common.{arith}
use Rattle.dz_reply.proofs.LayoutLemmas.{owner_shared, owner_apart}
use Rattle.dz_reply.proofs.layout.shown_owner.Goals as goal

pub returns-then-shared-le-ROOT_OCTETS : goal.returns-then-shared-le-ROOT_OCTETS
returns-then-shared-le-ROOT_OCTETS c =
    owner_apart c.args.question.now c.args.owner.now c.labels_apart-skip.result c.labels_apart-skip.ensures.within
    (rw c.as_ref.ensures at c.labels_apart-skip.ensures.encloses)
    (rw c.as_ref.ensures at c.labels_apart-skip.ensures.longest) _ c.behind-shared.result.now c.wire-wire.ensures.wire
    c.behind-shared.ensures.wire (omega (arith, c.if-shared-le-ROOT_OCTETS.true))

pub returns : goal.returns
returns c =
    owner_shared c.args.question.now c.args.owner.now c.labels_apart-skip.result c.labels_apart-skip.ensures.within
    (rw c.as_ref.ensures at c.labels_apart-skip.ensures.encloses)
    (rw c.as_ref.ensures at c.labels_apart-skip.ensures.longest) _ c.behind-shared.result.now c.wire-wire.ensures.wire
    c.behind-shared.ensures.wire
    _ _ (omega (arith, c.if-shared-le-ROOT_OCTETS.false)) c.saturating_sub-front.ensures c.pointer_to.ensures
