use Rattle.std.proofs.Common.{◌∙◌, ap, List}
use Rattle.std.specs.FinMap as fin
use Rattle.std.specs.List.{find}
use Rattle.dz_name.specs.Name.{label_order, same_label}
use Rattle.dz_member.specs.declared.listing.Node.{Node}
use Rattle.dz_member.proofs.NodesLemmas.{find_node}
use Rattle.dz_member.proofs.nodes.Nodes.find.Goals as goal

pub returns : goal.returns
returns c =
    c.find.ensures ∙ (ap (λ z. fin.find label_order z c.self.inside.entries) c.of.ensures
    ∙ (find_node c.args.label.now c.self.inside.entries c.self.invariant
    ∙ ap (λ (ns : List Node). find (λ n. same_label n.label c.args.label.now) ns) c.self.view_is))
