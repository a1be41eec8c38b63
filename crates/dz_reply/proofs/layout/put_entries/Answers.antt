use Rattle.dz_reply.proofs.layout.put_entries.Goals as goal

pub returns : goal.returns
returns c = c.put_entries_under.ensures c.args.question.now c.args.owner.now c.shown_owner.ensures
