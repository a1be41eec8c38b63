use Rattle.dz_reply.specs.inner.Signed.{set_shown}
use Rattle.dz_reply.proofs.GlueLemmas.{written, written_all}
use Rattle.dz_reply.proofs.authority.put_all.Goals as goal

pub sets-preserved : goal.sets-preserved
sets-preserved c =
    written set_shown c.args.question.now c.args.sets.now c.sets.set-index c.args.writer.now.writing
    c.sets.writer.writing _ c.set-item.result c.sets-test.true c.set-item.is c.put_signed.ensures c.sets.invariant

pub returns : goal.returns
returns c = written_all set_shown c.args.question.now c.args.sets.now c.sets.set-index c.args.writer.now.writing
    c.sets.writer.writing c.sets-test.false c.sets.invariant
