use Rattle.std.proofs.Common.{◌∙◌}
use Rattle.dz_gen.proofs.Bounds.{range_all, range_some}
use Rattle.dz_gen.proofs.MadeLemmas.{other_text}
use Rattle.dz_gen.proofs.script.questions.Goals as goal

pub put_queries-requires-clause-some : goal.put_queries-requires-clause-some
put_queries-requires-clause-some c = rw (c.deref.ensures.value ∙ c.in_ok-numbers.ensures) (range_some c.args.number)

pub put_queries-requires-clause-few : goal.put_queries-requires-clause-few
put_queries-requires-clause-few c =
    rw (c.deref.ensures.value ∙ c.in_ok-numbers.ensures) (range_all c.args.number 1000 c.requires)

pub named-requires : goal.named-requires
named-requires c = other_text

pub put_queries-requires-2-clause-some : goal.put_queries-requires-2-clause-some
put_queries-requires-2-clause-some c =
    rw (c.deref-2.ensures.value ∙ c.in_ok-numbers.ensures) (range_some c.args.number)

pub put_queries-requires-2-clause-few : goal.put_queries-requires-2-clause-few
put_queries-requires-2-clause-few c =
    rw (c.deref-2.ensures.value ∙ c.in_ok-numbers.ensures) (range_all c.args.number 1000 c.requires)
