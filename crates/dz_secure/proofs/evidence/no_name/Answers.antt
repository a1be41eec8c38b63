use Rattle.std.proofs.Common.{arith, ◌-◌, ◌∙◌, ap}
use Rattle.dz_lookup.proofs.CountedLemmas.{searches_add, searches_more}
use Rattle.dz_secure.specs.Secure.{no_name_proof}
use Rattle.dz_secure.proofs.evidence.no_name.Goals as goal

pub wildcard_of-requires-clause-place : goal.wildcard_of-requires-clause-place
wildcard_of-requires-clause-place g c = rw c.as_ref.ensures at c.place_near-place.ensures.place

pub returns-in-None-clause-first : goal.returns-in-None-clause-first
returns-in-None-clause-first g c =
    c.of_one.ensures.first
    ∙ (c.covering_at-first.ensures.covering c.args.name.now (rw c.as_ref.ensures at c.place_near-place.ensures.place)
    ∙ ap (λ o. (no_name_proof c.args.version.now.records c.args.name.now o).0) c.in-None.ensures)

pub returns-in-None-clause-second : goal.returns-in-None-clause-second
returns-in-None-clause-second g c =
    c.of_one.ensures.second
    ∙ ap (λ o. (no_name_proof c.args.version.now.records c.args.name.now o).1) c.in-None.ensures

pub returns-in-None-clause-cost : goal.returns-in-None-clause-cost
returns-in-None-clause-cost g c =
    searches_more 2 4 _ _ (omega arith)
    (searches_add 1 1 _ (c.place_near-place.new.steps - c.args.steps.now)
    (c.covering_at-first.new.steps - c.place_near-place.new.steps) _
    c.place_near-place.ensures.cost c.covering_at-first.ensures.cost
    (omega (arith, c.place_near-place.ensures.counted, c.covering_at-first.ensures.counted)))

pub returns-in-Some-clause-first : goal.returns-in-Some-clause-first
returns-in-Some-clause-first g c =
    c.covering_at-first.ensures.covering c.args.name.now (rw c.as_ref.ensures at c.place_near-place.ensures.place)
    ∙ ap (λ o. (no_name_proof c.args.version.now.records c.args.name.now o).0) c.in-Some.ensures

pub returns-in-Some-clause-second : goal.returns-in-Some-clause-second
returns-in-Some-clause-second g c =
    c.covering.ensures.covering
    ∙ ap (λ o. (no_name_proof c.args.version.now.records c.args.name.now o).1) c.in-Some.ensures

pub returns-in-Some-clause-cost : goal.returns-in-Some-clause-cost
returns-in-Some-clause-cost g c =
    searches_add 2 2 _ (c.covering_at-first.new.steps - c.args.steps.now)
    (c.covering.new.steps - c.covering_at-first.new.steps) _
    (searches_add 1 1 _ (c.place_near-place.new.steps - c.args.steps.now)
    (c.covering_at-first.new.steps - c.place_near-place.new.steps) _
    c.place_near-place.ensures.cost c.covering_at-first.ensures.cost
    (omega (arith, c.place_near-place.ensures.counted, c.covering_at-first.ensures.counted)))
    c.covering.ensures.cost (omega
    (arith, c.place_near-place.ensures.counted, c.covering_at-first.ensures.counted, c.covering.ensures.counted))
