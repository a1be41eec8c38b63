use Rattle.std.proofs.Common.{◌∙◌, ap, drop}
use Rattle.dz_name.specs.Name.{is_within}
use Rattle.dz_name.proofs.WireLemmas.{is_wire, labels_of-wire}
use Rattle.dz_catalog.proofs.NameLemmas.{some_label, shorter, tail_is, not_longer, whole_is}
use Rattle.dz_catalog.proofs.names.is_below.Goals as goal

pub of_wire-rest-requires : goal.of_wire-rest-requires
of_wire-rest-requires c = is_wire c.args.name.now _ c.wire.ensures.name c.wire.ensures.wire

pub labels-init : goal.labels-init
labels-init c =
    ap (λ n. is_within n c.args.above.now)
    (c.of_wire-rest.ensures ∙ labels_of-wire c.args.name.now c.wire.result.now c.wire.ensures.name c.wire.ensures.wire)

pub behind-requires : goal.behind-requires
behind-requires c =
    some_label c.labels.rest c.args.above.now
    (rw (c.wire-in-labels.ensures.wire, c.wire-in-labels-2.ensures.wire) at c.labels-test.true)

pub of_wire-rest-requires-in-labels : goal.of_wire-rest-requires-in-labels
of_wire-rest-requires-in-labels c = is_wire (drop 1 c.labels.rest) _ c.behind.ensures.name c.behind.ensures.wire

pub labels-smaller : goal.labels-smaller
labels-smaller c =
    shorter c.labels.rest _ (some_label c.labels.rest c.args.above.now
    (rw (c.wire-in-labels.ensures.wire, c.wire-in-labels-2.ensures.wire) at c.labels-test.true))
    (c.of_wire-rest-in-labels.ensures
    ∙ labels_of-wire (drop 1 c.labels.rest) c.behind.result.now c.behind.ensures.name c.behind.ensures.wire)

pub labels-preserved : goal.labels-preserved
labels-preserved c =
    tail_is c.labels.rest c.args.above.now _
    (rw (c.wire-in-labels.ensures.wire, c.wire-in-labels-2.ensures.wire) at c.labels-test.true)
    (c.of_wire-rest-in-labels.ensures
    ∙ labels_of-wire (drop 1 c.labels.rest) c.behind.result.now c.behind.ensures.name c.behind.ensures.wire)
    ∙ c.labels.invariant

pub returns : goal.returns
returns c =
    c.same.ensures.value
    ∙ (whole_is c.labels.rest c.args.above.now
    (not_longer c.labels.rest c.args.above.now _ _ c.wire-in-labels-2.ensures.wire c.wire-in-labels.ensures.wire
    c.labels-test.false)
    ∙ c.labels.invariant)
