use Rattle.std.proofs.Common.{◌∙◌, ap, List}
use Rattle.std.specs.FinMap as fin
use Rattle.std.specs.List.{find}
use Rattle.dz_name.specs.Name.{canonical_order, same_name}
use Rattle.dz_member.specs.declared.membership.Membership.{Membership}
use Rattle.dz_member.proofs.MemberLemmas.{find_member}
use Rattle.dz_member.proofs.members.Members.find.Goals as goal

pub returns : goal.returns
returns c =
    c.find.ensures ∙ (ap (λ z. fin.find canonical_order z c.self.inside.entries) c.of.ensures
    ∙ (find_member c.args.zone.now c.self.inside.entries c.self.invariant
    ∙ ap (λ (ns : List Membership). find (λ m. same_name m.zone c.args.zone.now) ns) c.self.view_is))
