use Rattle.std.proofs.Common.{List, map, sym, ◌∙◌, subst}
use Rattle.std.specs.List.Sorted.{IsStrictlySortedBy}
use Rattle.std.proofs.lemmas.Result.{IfOk-weaker}
use Rattle.dz_name.specs.Name.{canonical_order}
use Rattle.dz_member.specs.Membership.{MemberOf, settings_at}
use Rattle.dz_member.specs.Process.{in_zone_order}
use Rattle.dz_member.specs.declared.listing.Node.{Node}
use Rattle.dz_member.proofs.OrderLemmas.{sorted_rise}
use Rattle.dz_member.proofs.ZoneLemmas.{members_are, changes_are, order_after}
use Rattle.dz_member.proofs.process.process_nodes.Goals as goal

pub returns-clause-members : goal.returns-clause-members
returns-clause-members c =
    let fold = c.args.fold.now in
    let catalog = (settings_at fold.config c.args.turn.number).name in
    IfOk-weaker c.walk.result _ _
    (λ p e. e ∙ members_are fold catalog c.args.listing.now c.args.turn.position) c.walk.ensures.members

pub returns-clause-changes : goal.returns-clause-changes
returns-clause-changes c =
    let fold = c.args.fold.now in
    let catalog = (settings_at fold.config c.args.turn.number).name in
    IfOk-weaker c.walk.result _ _
    (λ p e. e ∙ changes_are fold catalog c.args.listing.now c.args.turn.position) c.walk.ensures.changes

pub returns-clause-order : goal.returns-clause-order
returns-clause-order c =
    let fold = c.args.fold.now in
    let catalog = (settings_at fold.config c.args.turn.number).name in
    let rise : IsStrictlySortedBy canonical_order (map (λ (n : Node). n.zone) (in_zone_order c.args.listing.now)) =
    sorted_rise c.args.listing.now c.walk.ensures.listing.zones in
    IfOk-weaker c.walk.result _ _
    (λ p e. subst (λ (ms : List MemberOf). IsStrictlySortedBy canonical_order (map (λ m. m.zone) ms)) (sym e)
    (order_after fold catalog c.args.listing.now c.args.turn.position c.requires.fold.rises rise))
    (returns-clause-members c)
