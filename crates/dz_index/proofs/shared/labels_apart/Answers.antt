use Rattle.std.proofs.Common.{arith, ◌≢◌, ◌<◌, ◌≤◌, ◌∙◌, [], length, length-drop, sym, ap, subst}
use Rattle.std.proofs.lemmas.Bool.{false≢true}
use Rattle.dz_name.proofs.OrderLemmas.{few_labels}
use Rattle.dz_name.specs.Name.{IsWithin, wire_of}
use Rattle.dz_index.proofs.SharedLemmas.{Keep, some_left, longer_left, keep_near, keep_far, further, within_next}
use Rattle.dz_index.proofs.shared.labels_apart.Goals as goal

pub labels-init : goal.labels-init
labels-init c = record {
  near = c.ancestor-near.ensures.rest;
  within = omega arith;
  far = ([], sym c.ancestor-far.ensures.rest);
  keep = λ zone w v. (rw c.ancestor-near.ensures.rest w, rw c.ancestor-far.ensures.rest v);
}

pub above-near-requires : goal.above-near-requires
above-near-requires c =
    let apart : c.labels.near ≢ c.labels.far = λ e. false≢true (sym c.labels-test.true ∙ c.same.ensures.equal.1 e) in
    some_left c.labels.near c.labels.far apart
    (omega (arith, c.if-wire.true, ap length c.wire.ensures.wire, ap length c.wire-in-labels.ensures.wire))

pub overflow_add-apart : goal.overflow_add-apart
overflow_add-apart c = omega (arith, few_labels _ c.ancestor-near.ensures.name, c.labels.invariant.within)

pub labels-smaller-then-wire : goal.labels-smaller-then-wire
labels-smaller-then-wire c =
    let apart : c.labels.near ≢ c.labels.far = λ e. false≢true (sym c.labels-test.true ∙ c.same.ensures.equal.1 e) in
    let some = some_left c.labels.near c.labels.far apart
    (omega (arith, c.if-wire.true, ap length c.wire.ensures.wire, ap length c.wire-in-labels.ensures.wire)) in
    omega (arith, some, ap length c.above-near.ensures, length-drop 1 c.labels.near)

pub labels-preserved-then-wire : goal.labels-preserved-then-wire
labels-preserved-then-wire c =
    let apart : c.labels.near ≢ c.labels.far = λ e. false≢true (sym c.labels-test.true ∙ c.same.ensures.equal.1 e) in
    let long : length (wire_of c.labels.far) ≤ length (wire_of c.labels.near) =
    omega (arith, c.if-wire.true, ap length c.wire.ensures.wire, ap length c.wire-in-labels.ensures.wire) in
    let some = some_left c.labels.near c.labels.far apart long in
    record {
      near = further c.args.name.now _ _ c.labels.apart c.labels.invariant.near c.above-near.ensures;
      within = omega (arith, some, ap length c.labels.invariant.near, length-drop c.labels.apart c.args.name.now);
      far = c.labels.invariant.far;
      keep = subst (λ near. Keep c.args.name.now c.args.other.now near c.labels.far) (sym c.above-near.ensures)
          (keep_near c.args.name.now c.args.other.now c.labels.near c.labels.far c.labels.invariant.keep apart long);
    }

pub above-far-requires : goal.above-far-requires
above-far-requires c = longer_left c.labels.near c.labels.far
    (omega (arith, c.if-wire.false, ap length c.wire.ensures.wire, ap length c.wire-in-labels.ensures.wire))

pub labels-smaller : goal.labels-smaller
labels-smaller c =
    let some = longer_left c.labels.near c.labels.far
    (omega (arith, c.if-wire.false, ap length c.wire.ensures.wire, ap length c.wire-in-labels.ensures.wire)) in
    omega (arith, some, ap length c.above-far.ensures, length-drop 1 c.labels.far)

pub labels-preserved : goal.labels-preserved
labels-preserved c =
    let long : length (wire_of c.labels.near) < length (wire_of c.labels.far) =
    omega (arith, c.if-wire.false, ap length c.wire.ensures.wire, ap length c.wire-in-labels.ensures.wire) in
    record {
      near = c.labels.invariant.near;
      within = c.labels.invariant.within;
      far = within_next c.args.other.now c.labels.far c.above-far.result c.labels.invariant.far
          (longer_left c.labels.near c.labels.far long) c.above-far.ensures;
      keep = subst (λ far. Keep c.args.name.now c.args.other.now c.labels.near far) (sym c.above-far.ensures)
          (keep_far c.args.name.now c.args.other.now c.labels.near c.labels.far c.labels.invariant.keep long);
    }

pub returns-clause-within : goal.returns-clause-within
returns-clause-within c = c.labels.invariant.within

pub returns-clause-encloses : goal.returns-clause-encloses
returns-clause-encloses c =
    let same = c.same.ensures.equal.0 c.labels-test.false in
    subst (λ n. IsWithin c.args.other.now n) (sym same ∙ c.labels.invariant.near) c.labels.invariant.far

pub returns-clause-longest : goal.returns-clause-longest
returns-clause-longest c =
    λ zone w v. subst (λ n. IsWithin n zone) c.labels.invariant.near (c.labels.invariant.keep zone w v).0
