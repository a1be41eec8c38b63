use Rattle.std.proofs.Common.{sym, ◌∙◌, ap, List, position}
use Rattle.dz_name.specs.Name.{same_name}
use Rattle.dz_member.specs.Membership.{MemberOf}
use Rattle.dz_member.proofs.KeptLemmas.{place_shown}
use Rattle.dz_member.proofs.fold.Fold.place_of.Goals as goal

pub returns : goal.returns
returns c =
    c.place_of.ensures ∙ (sym (place_shown c.args.self.now.config c.members.result.now c.args.zone.now)
    ∙ ap (λ (ms : List MemberOf). position (λ m. same_name m.zone c.args.zone.now) ms) c.members.ensures.members)
