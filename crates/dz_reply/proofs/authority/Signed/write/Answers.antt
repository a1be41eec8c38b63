use Rattle.std.proofs.Common.{◌∙◌, ap}
use Rattle.dz_header.specs.Writing.{also}
use Rattle.dz_reply.specs.Layout.{entries_octets}
use Rattle.dz_reply.proofs.authority.Signed.write.Goals as goal

pub returns : goal.returns
returns c =
    rw c.as_slice.ensures.value at c.put_all.ensures
    ∙ ap (λ rs. also c.args.writer.now.writing (entries_octets c.args.question.now rs)) c.self.view_is
