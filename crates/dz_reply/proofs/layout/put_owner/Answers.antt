use Rattle.std.proofs.Common.{◌∙◌, ap}
use Rattle.dz_header.specs.Writing.{also}
use Rattle.dz_reply.proofs.layout.put_owner.Goals as goal

pub returns : goal.returns
returns c = c.put_shown.ensures ∙ ap (also c.args.writer.now.writing) c.shown_owner.ensures
