use Rattle.std.proofs.Common.{◌∙◌, ap, sym}
use Rattle.dz_name.proofs.WireLemmas.{is_wire, labels_of-wire}
use Rattle.dz_catalog.specs.inner.Labels.{label_of}
use Rattle.dz_catalog.proofs.PlaceLemmas.{label_here, label_more, label_none, label_shorter}
use Rattle.dz_catalog.proofs.labels.label_of.Goals as goal

pub of_wire-rest-requires : goal.of_wire-rest-requires
of_wire-rest-requires c = is_wire c.args.name.now _ c.wire.ensures.name c.wire.ensures.wire

pub labels-init : goal.labels-init
labels-init c =
    ap (label_of c.args.apex.now)
    (c.of_wire-rest.ensures ∙ labels_of-wire c.args.name.now c.wire.result.now c.wire.ensures.name c.wire.ensures.wire)

pub labels-smaller : goal.labels-smaller
labels-smaller c = label_shorter c.labels.rest c.in-Some.above c.in-Some.ensures

pub returns-then-is_child : goal.returns-then-is_child
returns-then-is_child c =
    c.first_of.ensures
    ∙ (label_here c.args.apex.now c.labels.rest c.in-Some.above c.in-Some.ensures
    (rw c.as_ref.ensures at (sym c.if-is_child.ensures)) ∙ c.labels.invariant)

pub labels-preserved : goal.labels-preserved
labels-preserved c =
    label_more c.args.apex.now c.labels.rest c.in-Some.above c.in-Some.ensures
    (rw c.as_ref.ensures at (sym c.if-is_child.ensures)) ∙ c.labels.invariant

pub returns : goal.returns
returns c = label_none c.args.apex.now c.labels.rest c.in_default.ensures ∙ c.labels.invariant
