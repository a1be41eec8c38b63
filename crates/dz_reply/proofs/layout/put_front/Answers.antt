use Rattle.std.proofs.Common.{arith}
use Rattle.dz_reply.proofs.LayoutLemmas.{front_none}
use Rattle.dz_reply.proofs.layout.put_front.Goals as goal

pub returns-then-front-eq0 : goal.returns-then-front-eq0
returns-then-front-eq0 c = front_none c.args.writer.now.writing c.args.front.now (omega (arith, c.if-front-eq0.true))
