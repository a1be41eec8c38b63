use Rattle.dz_reply.proofs.LayoutLemmas.{shown_whole, shown_pointed}
use Rattle.dz_reply.proofs.layout.put_shown.Goals as goal

pub returns-in-None : goal.returns-in-None
returns-in-None c = shown_whole c.args.shown.now c.args.writer.now.writing _ c.in-None.is c.put_front.ensures

pub returns-in-Some : goal.returns-in-Some
returns-in-Some c = shown_pointed c.args.shown.now c.in-Some.pointer c.args.writer.now.writing _ _ c.in-Some.is
    c.put_front.ensures (rw c.two.ensures at c.put.ensures.writing)
