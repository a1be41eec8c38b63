use Rattle.std.proofs.Common.{◌∙◌, ap}
use Rattle.dz_reply.specs.Secure.{begins_with, stands}
use Rattle.dz_reply.proofs.AuthorityLemmas.{any_shown}
use Rattle.dz_reply.proofs.authority.Authority.has.Goals as goal

pub returns : goal.returns
returns c =
    rw c.as_slice.ensures.value at c.has_first.ensures
    ∙ (any_shown (begins_with c.args.first.now) c.self.inside.rrsets.items
    ∙ ap (λ sets. stands sets c.args.first.now) c.self.view_is)
