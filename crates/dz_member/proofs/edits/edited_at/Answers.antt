use Rattle.std.proofs.Common.{sym, ◌∙◌, ◌≡◌}
use Rattle.std.specs.Prelude.{if◌then◌else◌}
use Rattle.std.specs.List.{find}
use Rattle.dz_name.specs.Name.{same_label}
use Rattle.dz_member.proofs.EditedLemmas.{both_of, edited_one}
use Rattle.dz_member.proofs.edits.edited_at.Goals as goal

pub returns-in-None : goal.returns-in-None
returns-in-None c = both_of c.without.result _ _ _
    (λ r up each. edited_one c.args.nodes.now r c.args.edit c.requires c.len.ensures.order up
    (λ z. each z ∙ (λ i. if same_label c.args.edit.label z then sym c.in-None.is i
    else find (λ n. same_label n.label z) c.args.nodes.now)))
    c.without.ensures.order c.without.ensures.each

pub returns-in-Some : goal.returns-in-Some
returns-in-Some c =
    let own : c.in-Some.node.label ≡ c.args.edit.label = c.requires c.in-Some.node c.in-Some.is in
    both_of c.with.result _ _ _
    (λ r up each. edited_one c.args.nodes.now r c.args.edit c.requires c.len.ensures.order up
    (λ z. (rw c.in-Some.node-is at (each z)) ∙ (λ i. if same_label (own i) z then sym c.in-Some.is i
    else find (λ n. same_label n.label z) c.args.nodes.now)))
    c.with.ensures.order c.with.ensures.each
