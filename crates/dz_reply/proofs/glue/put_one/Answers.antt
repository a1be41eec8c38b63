use Rattle.dz_reply.proofs.GlueLemmas.{shown_written}
use Rattle.dz_reply.proofs.glue.put_one.Goals as goal

pub returns : goal.returns
returns c = shown_written c.args.question.now c.args.addresses.now c.args.writer.now.writing _ _ c.put_own.ensures
    c.put_own-2.ensures
