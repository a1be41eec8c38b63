use Rattle.std.proofs.Common.{rules}
use Rattle.std.proofs.lemmas.List.Sorted.{answers_always}
use Rattle.dz_member.proofs.OrderLemmas.{before_is, ordered}
use Rattle.dz_member.proofs.sort.order.Goals as goal

pub returns-in-Ok-clause-is : goal.returns-in-Ok-clause-is
returns-in-Ok-clause-is c =
    ordered (λ p. p.node) _ _
    (c.in-Ok.ensures.sorted _ (before_is (λ p. p.node)) (answers_always _ _ _ (λ f a r g h. search rules)))
    (c.sort_by.ensures.stable _ (before_is (λ p. p.node)) (answers_always _ _ _ (λ f a r g h. search rules)))
