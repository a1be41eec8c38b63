use Rattle.std.proofs.Common.{arith, ◌+◌, ◌-◌, ◌∙◌, length}
use Rattle.dz_lookup.proofs.FoundLemmas.{has_records, found_below, found_elsewhere}
use Rattle.dz_lookup.proofs.CountedLemmas.{searches_add, searches_more, is_lookup}
use Rattle.dz_lookup.proofs.found.find_near.Goals as goal

pub returns-in-Some-clause-found : goal.returns-in-Some-clause-found
returns-in-Some-clause-found g c =
    found_below c.args.version.now.apex c.args.version.now.records c.args.name.now c.args.kind _
    c.in-Some.ensures.barrier

pub returns-in-Some-clause-some : goal.returns-in-Some-clause-some
returns-in-Some-clause-some g c =
    has_records c.args.version.now.apex c.args.version.now.records c.args.name.now c.args.kind _
    c.seek-sought.ensures.rises (returns-in-Some-clause-found g c)

pub returns-in-Some-clause-cost : goal.returns-in-Some-clause-cost
returns-in-Some-clause-cost g c =
    is_lookup (length c.args.name.now) (length c.args.version.now.records) (c.barrier.new.steps - c.args.steps.now)
    (searches_more (1 + length c.args.name.now) (length c.args.name.now + 2) _ _ (omega arith)
    (searches_add 1 (length c.args.name.now) _ (c.seek-sought.new.steps - c.args.steps.now)
    (c.barrier.new.steps - c.seek-sought.new.steps) _
    c.seek-sought.ensures.cost c.in-Some.ensures.cost
    (omega (arith, c.seek-sought.ensures.counted, c.in-Some.ensures.counted))))

pub returns-in-None-clause-found : goal.returns-in-None-clause-found
returns-in-None-clause-found g c =
    c.beside.ensures ∙ found_elsewhere c.args.version.now.apex c.args.version.now.records c.args.name.now c.args.kind _
    c.in-None.ensures.barrier c.at_source.ensures.found

pub returns-in-None-clause-cost : goal.returns-in-None-clause-cost
returns-in-None-clause-cost g c =
    is_lookup (length c.args.name.now) (length c.args.version.now.records) (c.at_source.new.steps - c.args.steps.now)
    (searches_more (1 + length c.args.name.now + 1) (length c.args.name.now + 2) _ _ (omega arith)
    (searches_add (1 + length c.args.name.now) 1 _ (c.barrier.new.steps - c.args.steps.now)
    (c.at_source.new.steps - c.barrier.new.steps) _
    (searches_add 1 (length c.args.name.now) _ (c.seek-sought.new.steps - c.args.steps.now)
    (c.barrier.new.steps - c.seek-sought.new.steps) _
    c.seek-sought.ensures.cost c.in-None.ensures.cost
    (omega (arith, c.seek-sought.ensures.counted, c.in-None.ensures.counted)))
    c.at_source.ensures.cost
    (omega (arith, c.seek-sought.ensures.counted, c.in-None.ensures.counted, c.at_source.ensures.counted))))
