use Rattle.std.proofs.Common.{◌∙◌, sym, ap, length, arith}
use Rattle.std.proofs.lemmas.List.{length-map}
use Rattle.dz_member.specs.Fold.{FoldOf}
use Rattle.dz_member.specs.Membership.{MemberOf, shown}
use Rattle.dz_member.proofs.fold.Fold.catalogs.Goals as goal

pub returns-clause-few : goal.returns-clause-few
returns-clause-few c =
    let same = sym (ap (λ (f : FoldOf). length f.members) c.self.view_is)
    ∙ length-map {B = MemberOf} c.self.inside.members.value (shown c.self.inside.config.value) in
    omega (arith, same, c.self.invariant.few)
