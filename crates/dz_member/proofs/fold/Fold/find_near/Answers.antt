use Rattle.dz_name.specs.Name.{same_name}
use Rattle.std.proofs.lemmas.List.{length-map}
use Rattle.dz_member.specs.Fold.{FoldOf}
use Rattle.dz_member.specs.Membership.{MemberOf, shown}
use Rattle.dz_member.proofs.SearchLemmas.{place_found, place_missing}
use Rattle.dz_member.proofs.fold.Fold.find_near.Goals as goal
use Rattle.std.proofs.Common.{sym, ap, ◌∙◌, ◌<◌, length, arith}
use Rattle.std.proofs.lemmas.Option.{slice_get_within}

pub returns-in-Some-clause-member : goal.returns-in-Some-clause-member
returns-in-Some-clause-member c =
    place_found (λ (m : MemberOf). same_name m.zone c.args.zone.now) c.args.self.now.members c.in-Some.place
    c.member-member.result (sym c.in-Some.ensures) c.member-member.ensures

pub returns-in-None-clause-member : goal.returns-in-None-clause-member
returns-in-None-clause-member c =
    place_missing (λ (m : MemberOf). same_name m.zone c.args.zone.now) c.args.self.now.members (sym c.in-None.ensures)

pub overflow_add-next : goal.overflow_add-next
overflow_add-next c =
    let within : c.in-Some.place < length c.args.self.now.members =
    slice_get_within c.args.self.now.members c.in-Some.place _ c.member-member.ensures in
    let same = sym (ap (λ (f : FoldOf). length f.members) c.self.view_is)
    ∙ length-map c.self.inside.members.value (shown c.self.inside.config.value) in
    omega (arith, within, same, c.len-count.ensures, c.len-count.type_inv)
