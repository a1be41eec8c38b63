use Rattle.std.proofs.Common.{arith, ◌∙◌}
use Rattle.dz_name.proofs.KeptLemmas.{wire_some}
use Rattle.dz_name.proofs.PartLemmas.{first_in}
use Rattle.dz_name.proofs.SiblingLemmas.{sibling_wires}
use Rattle.dz_name.proofs.name_ref.NameRef.sibling_cmp.Goals as goal

pub bounds-mine-0 : goal.bounds-mine-0
bounds-mine-0 c = rw c.wire-mine.ensures.wire (wire_some _)

pub bounds-theirs-0 : goal.bounds-theirs-0
bounds-theirs-0 c = rw c.wire-theirs.ensures.wire (wire_some _)

pub behind_label-requires-clause-whole : goal.behind_label-requires-clause-whole
behind_label-requires-clause-whole c = rw c.wire-mine.ensures.wire (first_in _)

pub behind_label-requires-2-clause-whole : goal.behind_label-requires-2-clause-whole
behind_label-requires-2-clause-whole c = rw c.wire-theirs.ensures.wire (first_in _)

pub label_at-requires-clause-whole : goal.label_at-requires-clause-whole
label_at-requires-clause-whole c = rw c.wire-mine.ensures.wire (omega (arith, first_in c.args.self.now))

pub label_at-requires-then-eq-clause-whole : goal.label_at-requires-then-eq-clause-whole
label_at-requires-then-eq-clause-whole c = rw c.wire-theirs.ensures.wire (omega (arith, first_in c.args.other.now))

pub returns-then-eq : goal.returns-then-eq
returns-then-eq c =
    c.cmp.ensures
    ∙ sibling_wires _ _ _ _ _ _ _ _ _ c.wire-mine.ensures.name c.wire-theirs.ensures.name c.wire-mine.ensures.wire
    c.wire-theirs.ensures.wire c.if-mine-eq0.false c.if-theirs-eq0.false c.behind_label.ensures
    c.behind_label-2.ensures c.label_at.ensures c.label_at-then-eq.ensures c.eq.ensures c.if-eq.true
