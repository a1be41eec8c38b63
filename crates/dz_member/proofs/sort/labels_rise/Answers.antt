use Rattle.std.proofs.Common.{rules, is_lt}
use Rattle.std.proofs.lemmas.List.Sorted.{answers_always}
use Rattle.dz_name.specs.Name.{label_order}
use Rattle.dz_name.specs.Order.{label_total}
use Rattle.dz_member.specs.declared.listing.Node.{Node}
use Rattle.dz_member.proofs.SearchLemmas.{rise_answer}
use Rattle.dz_member.proofs.sort.labels_rise.Goals as goal

pub returns : goal.returns
returns c =
    rise_answer label_total (λ (n : Node). n.label) c.args.nodes.now _
    (c.is_sorted_by.ensures.cases (λ a b. is_lt (label_order a.label b.label))
    (answers_always _ _ _ (λ f a r g h. search rules)))
