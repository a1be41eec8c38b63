use Rattle.std.proofs.Common.{arith, ◌∙◌}
use Rattle.dz_name.proofs.OrderLemmas.{offset_lt, label_within, label_is, few_labels}
use Rattle.dz_name.proofs.name_ref.NameRef.label.Goals as goal

pub bounds-starts-number : goal.bounds-starts-number
bounds-starts-number c = omega (arith, few_labels _ c.wire.ensures.name)

pub label_at-requires-clause-at : goal.label_at-requires-clause-at
label_at-requires-clause-at c =
    rw (c.wire.ensures.wire, c.requires.starts.each c.args.number c.requires.within) (offset_lt _ _)

pub label_at-requires-clause-whole : goal.label_at-requires-clause-whole
label_at-requires-clause-whole c =
    rw (c.wire.ensures.wire, c.requires.starts.each c.args.number c.requires.within)
    (label_within c.args.self.now c.args.number (omega arith))

pub returns : goal.returns
returns c =
    c.label_at.ensures ∙ (rw c.wire.ensures.wire (label_is c.args.self.now c.args.number _ c.requires.within
    (c.requires.starts.each c.args.number c.requires.within)))
