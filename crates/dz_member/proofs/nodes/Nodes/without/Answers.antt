use Rattle.std.proofs.Common.{◌∙◌, ap, List}
use Rattle.std.specs.Prelude.{None, if◌then◌else◌}
use Rattle.std.specs.List.{find}
use Rattle.dz_chunks.specs.Map.{without_key}
use Rattle.dz_name.specs.Name.{label_order, same_label}
use Rattle.dz_member.specs.declared.listing.Node.{Node}
use Rattle.dz_member.specs.inner.Nodes.{nodes_of, AreNodes}
use Rattle.dz_member.proofs.NodesLemmas.{nodes_left, left_node}
use Rattle.dz_member.proofs.nodes.Nodes.without.Goals as goal

pub invariant_of-result : goal.invariant_of-result
invariant_of-result c =
    rw (c.in_ok-entries.ensures, c.of.ensures) (nodes_left c.args.label.now c.self.inside.entries c.self.invariant)

pub returns-clause-order : goal.returns-clause-order
returns-clause-order c = let a : AreNodes c.in_ok-entries.entries = invariant_of-result c in a.order

pub returns-clause-each : goal.returns-clause-each
returns-clause-each c label =
    ap (λ es. find (λ n. same_label n.label label) (nodes_of es)) c.in_ok-entries.ensures
    ∙ (ap (λ k. find (λ n. same_label n.label label) (nodes_of (without_key label_order k c.self.inside.entries))) c.of.ensures
    ∙ (left_node label c.args.label.now c.self.inside.entries c.self.invariant
    ∙ ap (λ (ns : List Node). if same_label c.args.label.now label then None
    else find (λ n. same_label n.label label) ns) c.self.view_is))
