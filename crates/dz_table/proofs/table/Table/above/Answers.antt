use Rattle.std.proofs.Common.{arith, length-drop, ◌∙◌, ap, length, ◌<◌}
use Rattle.dz_table.specs.Table.{closest}
use Rattle.dz_table.proofs.AboveLemmas.{above_is, within_above}
use Rattle.dz_table.proofs.CostLemmas.{no_more}
use Rattle.dz_table.proofs.table.Table.above.Goals as goal

pub returns-in-Some-clause-value : goal.returns-in-Some-clause-value
returns-in-Some-clause-value g c =
    let some : 0 < length c.args.name.now = omega (arith, c.label_count.ensures, c.if-label_count-eq0.false) in
    c.in-Some.ensures.value
    ∙ (ap (closest c.args.self.now) c.ancestor.ensures ∙ above_is c.args.self.now c.args.name.now some)

pub returns-in-Some-clause-encloses : goal.returns-in-Some-clause-encloses
returns-in-Some-clause-encloses g c =
    let some : 0 < length c.args.name.now = omega (arith, c.label_count.ensures, c.if-label_count-eq0.false) in
    within_above c.args.name.now c.in-Some.slot.now.zone some
    (rw c.ancestor.ensures at c.in-Some.ensures.nearest.encloses)

pub returns-in-None-clause-value : goal.returns-in-None-clause-value
returns-in-None-clause-value g c =
    let some : 0 < length c.args.name.now = omega (arith, c.label_count.ensures, c.if-label_count-eq0.false) in
    c.in-None.ensures.value
    ∙ (ap (closest c.args.self.now) c.ancestor.ensures ∙ above_is c.args.self.now c.args.name.now some)

pub returns-in-Some-clause-cost : goal.returns-in-Some-clause-cost
returns-in-Some-clause-cost g c =
    let some : 0 < length c.args.name.now = omega (arith, c.label_count.ensures, c.if-label_count-eq0.false) in
    no_more _ _ _ _ _ (omega (arith, some, ap length c.ancestor.ensures, length-drop 1 c.args.name.now))
    c.enclosing.ensures.cost (omega arith)

pub returns-in-None-clause-cost : goal.returns-in-None-clause-cost
returns-in-None-clause-cost g c =
    let some : 0 < length c.args.name.now = omega (arith, c.label_count.ensures, c.if-label_count-eq0.false) in
    no_more _ _ _ _ _ (omega (arith, some, ap length c.ancestor.ensures, length-drop 1 c.args.name.now))
    c.enclosing.ensures.cost (omega arith)
