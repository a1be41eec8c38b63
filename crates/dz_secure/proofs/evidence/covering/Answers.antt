use Rattle.std.proofs.Common.{arith, ◌-◌, ◌∙◌, sym}
use Rattle.dz_lookup.proofs.CountedLemmas.{searches_add}
use Rattle.dz_secure.proofs.EvidenceLemmas.{covering_none}
use Rattle.dz_secure.proofs.evidence.covering.Goals as goal

pub returns-then-not-is_secure-clause-covering : goal.returns-then-not-is_secure-clause-covering
returns-then-not-is_secure-clause-covering g c =
    sym (covering_none c.args.version.now c.is_secure.ensures.valid.rises
    (sym c.is_secure.ensures.secure ∙ c.if-not-is_secure.true) c.args.name.now)

pub returns-clause-covering : goal.returns-clause-covering
returns-clause-covering g c =
    c.covering_at.ensures.covering c.args.name.now (rw c.as_ref.ensures at c.place_near-place.ensures.place)

pub returns-clause-cost : goal.returns-clause-cost
returns-clause-cost g c =
    searches_add 1 1 _ (c.place_near-place.new.steps - c.args.steps.now)
    (c.covering_at.new.steps - c.place_near-place.new.steps) _
    c.place_near-place.ensures.cost c.covering_at.ensures.cost
    (omega (arith, c.place_near-place.ensures.counted, c.covering_at.ensures.counted))
