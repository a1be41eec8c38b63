use Rattle.std.proofs.Common.{arith, ◌-◌}
use Rattle.dz_lookup.proofs.CountedLemmas.{searches_add, searches_more}
use Rattle.dz_secure.proofs.evidence.no_data.Goals as goal

pub returns-in-None-clause-cost : goal.returns-in-None-clause-cost
returns-in-None-clause-cost g c = searches_more 2 5 _ _ (omega arith) c.in-None.ensures.cost

pub returns-in-Some-clause-cost : goal.returns-in-Some-clause-cost
returns-in-Some-clause-cost g c =
    searches_add 2 3 _ (c.source.new.steps - c.args.steps.now) (c.no_data_at.new.steps - c.source.new.steps) _
    c.in-Some.ensures.cost c.no_data_at.ensures.cost
    (omega (arith, c.in-Some.ensures.counted, c.no_data_at.ensures.counted))
