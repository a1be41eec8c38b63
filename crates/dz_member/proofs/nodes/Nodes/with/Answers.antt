use Rattle.std.proofs.Common.{◌∙◌, ap, List}
use Rattle.std.specs.Prelude.{Some, if◌then◌else◌}
use Rattle.std.specs.List.{find}
use Rattle.dz_name.specs.Name.{same_label}
use Rattle.dz_member.specs.declared.listing.Node.{Node}
use Rattle.dz_member.specs.inner.Nodes.{nodes_of, AreNodes}
use Rattle.dz_member.proofs.NodesLemmas.{nodes_put, put_node}
use Rattle.dz_member.proofs.nodes.Nodes.with.Goals as goal

pub invariant_of-result : goal.invariant_of-result
invariant_of-result c = rw c.in_ok-entries.ensures (nodes_put c.args.node c.self.inside.entries c.self.invariant)

pub returns-clause-order : goal.returns-clause-order
returns-clause-order c = let a : AreNodes c.in_ok-entries.entries = invariant_of-result c in a.order

pub returns-clause-each : goal.returns-clause-each
returns-clause-each c label =
    ap (λ es. find (λ n. same_label n.label label) (nodes_of es)) c.in_ok-entries.ensures
    ∙ (put_node label c.args.node c.self.inside.entries c.self.invariant
    ∙ ap (λ (ns : List Node). if same_label c.args.node.label label then Some c.args.node
    else find (λ n. same_label n.label label) ns) c.self.view_is)
