use Rattle.std.proofs.Common.{◌∙◌, ap}
use Rattle.std.specs.Prelude.{List, position}
use Rattle.dz_name.specs.Name.{canonical_order, same_name}
use Rattle.dz_chunks.specs.Map.{place_in}
use Rattle.dz_member.specs.declared.membership.Membership.{Membership}
use Rattle.dz_member.proofs.MemberLemmas.{place_entries}
use Rattle.dz_member.proofs.members.Members.place_of.Goals as goal

pub returns : goal.returns
returns c =
    c.seat.ensures ∙ (ap (λ z. place_in canonical_order z c.self.inside.entries) c.of.ensures
    ∙ (place_entries c.args.zone.now c.self.inside.entries c.self.invariant.own
    ∙ ap (λ (ms : List Membership). position (λ m. same_name m.zone c.args.zone.now) ms) c.self.view_is))
