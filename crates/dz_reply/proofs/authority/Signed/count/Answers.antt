use Rattle.std.proofs.Common.{◌∙◌, ◌%◌, ap, length}
use Rattle.dz_reply.proofs.authority.Signed.count.Goals as goal

pub returns-clause-value : goal.returns-clause-value
returns-clause-value c = rw c.as_slice.ensures.value at c.count_all.ensures.value
    ∙ ap (λ rs. length rs % 65536) c.self.view_is
