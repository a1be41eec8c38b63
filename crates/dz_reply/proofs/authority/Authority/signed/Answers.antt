use Rattle.std.proofs.Common.{◌∙◌, ap}
use Rattle.std.specs.List.{flat_map}
use Rattle.dz_reply.specs.Secure.{own_signed}
use Rattle.dz_reply.proofs.AuthorityLemmas.{all_shown}
use Rattle.dz_reply.proofs.authority.Authority.signed.Goals as goal

pub returns : goal.returns
returns c =
    rw c.as_slice.ensures.value at c.signed_all.ensures
    ∙ (all_shown (own_signed c.args.version.now.records) c.self.inside.rrsets.items
    ∙ ap (flat_map (own_signed c.args.version.now.records)) c.self.view_is)
