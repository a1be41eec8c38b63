use Rattle.dz_reply.proofs.TrailLemmas.{cname_written}
use Rattle.dz_reply.proofs.layout.put_cname.Goals as goal

pub returns : goal.returns
returns c =
    cname_written c.args.question.now c.args.owner.now c.args.target.now c.args.ttl _ _ _ _ _ _ _ c.put_owner.ensures
    (rw c.two.ensures at c.put.ensures.writing) (rw c.two-2.ensures at c.put-2.ensures.writing)
    (rw c.four.ensures at c.put-3.ensures.writing)
    (rw (c.two-3.ensures, c.wire.ensures.wire) at c.put-4.ensures.writing)
    (rw c.wire-2.ensures.wire at c.put-5.ensures.writing)
