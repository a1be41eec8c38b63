use Rattle.std.proofs.Common.{rules, ◌≡◌, sym, ◌∙◌, ap, ◌++◌}
use Rattle.std.specs.Prelude.{Some, true}
use Rattle.std.specs.Option.{option_to_list}
use Rattle.dz_name.specs.Name.{first_label}
use Rattle.dz_record.specs.Record.{target_of}
use Rattle.dz_catalog.specs.Member.{is_member}
use Rattle.dz_catalog.proofs.BelowLemmas.{behind_is}
use Rattle.dz_catalog.specs.inner.Below.{node_behind}
use Rattle.dz_catalog.proofs.nodes.add.Goals as goal

pub returns-in_ok-push-in-Some-Some : goal.returns-in_ok-push-in-Some-Some
returns-in_ok-push-in-Some-Some c =
    let m : is_member c.args.apex.now c.args.found.now ≡ true = sym c.is_member.ensures ∙ c.if-not-is_member.false in
    let f : first_label c.args.found.now.owner ≡ Some c.in-Some-Some.label = cc in
    let t : target_of c.args.found.now ≡ Some c.in-Some-Some.target = cc in
    c.in_ok-push-in-Some-Some.ensures.items
    ∙ ap (λ node. c.args.nodes.now.items ++ option_to_list node)
    (behind_is c.args.apex.now c.args.found.now c.args.behind.now c.below-records.result.now c.owner_ref-owner.result
    c.in-Some-Some.label c.in-Some-Some.target _ m f t c.owner_ref-owner.ensures c.below-records.ensures
    (λ i. record {
      label = c.in-Some-Some.label;
      zone = c.in_ok-zone-in-Some-Some.ensures i;
      coo = c.in_ok-coo-in-Some-Some.ensures i;
      groups = c.in_ok-groups-in-Some-Some.ensures i;
    }))

pub returns-then-not-is_member : goal.returns-then-not-is_member
unfolding node_behind
returns-then-not-is_member c = search rules
