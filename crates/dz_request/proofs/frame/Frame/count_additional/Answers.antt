use Rattle.std.proofs.Common.{◌∙◌}
use Rattle.dz_request.specs.Frame.{is_tcp, query_of}
use Rattle.dz_request.proofs.FrameLemmas.{recounted_so}
use Rattle.dz_request.proofs.frame.Frame.count_additional.Goals as goal

pub returns : goal.returns
returns c = λ heading rest old.
    recounted_so (is_tcp c.args.self.now.transport) (query_of c.args.self.now.request.now c.args.self.now.asked.now)
    heading c.args.count rest c.two.result _ _ c.replace.ensures.writing
    (c.two.ensures ∙ rw c.opt_count.ensures.value at c.low.ensures) old
