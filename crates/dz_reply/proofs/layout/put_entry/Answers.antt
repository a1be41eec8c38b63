use Rattle.dz_reply.proofs.layout.put_entry.Goals as goal

pub returns : goal.returns
returns c = c.put_entry_under.ensures c.args.question.now c.args.owner.now c.shown_owner.ensures
