use Rattle.std.proofs.Common.{rules, is_lt}
use Rattle.std.proofs.lemmas.List.Sorted.{answers_always}
use Rattle.std.proofs.lemmas.Simd.{map-map}
use Rattle.dz_name.specs.Name.{canonical_order}
use Rattle.dz_name.specs.Order.{canonical_total}
use Rattle.dz_member.proofs.SearchLemmas.{rise_answer}
use Rattle.dz_member.proofs.sort.zones_rise.Goals as goal

pub returns : goal.returns
returns c =
    rw (map-map (λ n. n.zone) (λ p. p.node) c.args.nodes.now)
    (rise_answer canonical_total (λ p. p.node.zone) c.args.nodes.now _
    (c.is_sorted_by.ensures.cases (λ a b. is_lt (canonical_order a.node.zone b.node.zone))
    (answers_always _ _ _ (λ f a r g h. search rules))))
