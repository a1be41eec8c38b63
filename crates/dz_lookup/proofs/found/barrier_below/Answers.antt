use Rattle.std.proofs.Common.{arith, ◌≡◌, ◌∙◌, sym, ap, drop, false, true, ◌+◌, ◌-◌, inl, inr}
use Rattle.std.specs.Prelude.{Some, None}
use Rattle.dz_zone.proofs.WithinLemmas.{owners_within}
use Rattle.dz_runs.specs.Runs.{owns, of_type, records_of}
use Rattle.dz_lookup.specs.Found.{referral}
use Rattle.dz_lookup.specs.inner.Places.{renamer_at}
use Rattle.dz_lookup.proofs.Walk.{above_missing}
use Rattle.dz_lookup.proofs.FoundLemmas.{shows_owned, owned_shows, no_renamer, has_renamer, renaming_is}
use Rattle.dz_lookup.proofs.Barriers.{clear_at_apex, clear_step, renamed_here, cut_is_here, nothing_below}
use Rattle.dz_lookup.proofs.Barriers.{walked_through}
use Rattle.dz_lookup.proofs.CountedLemmas.{searches_none, searches_add, searches_more}
use Rattle.std.specs.Prelude.{◌==◌}
use Rattle.std.proofs.Common.{ℕ}
use Rattle.std.proofs.lemmas.Bool.{eqb-true, false_from_ne_true}
use Rattle.dz_lookup.proofs.found.barrier_below.Goals as goal

other_kind : (n : ℕ) → (n ≡ 43 → ⊥) → (n == 43) ≡ false
other_kind n h = false_from_ne_true (n == 43) (λ t. h (eqb-true n 43 t))

pub labels-init : goal.labels-init
labels-init g c =
    record {
      some = c.requires.some;
      within = omega arith;
      clear = clear_at_apex c.args.version.now.apex c.args.version.now.records c.args.name.now c.args.labels
          (owners_within c.args.version.now c.requires.valid) c.requires.within c.requires.labels
          (no_renamer c.args.version.now.records c.args.version.now.apex c.requires.valid.rises c.requires.apex);
      counted = omega arith;
      cost = searches_none _ _ _ (omega arith);
    }

pub returns-then-skip-sought-clause-barrier : goal.returns-then-skip-sought-clause-barrier
returns-then-skip-sought-clause-barrier g c =
    nothing_below c.args.version.now.apex c.args.version.now.records c.args.kind c.args.name.now c.labels.skip
    c.labels-test.true c.labels.invariant.clear
    (above_missing c.args.version.now.records c.args.name.now c.args.sought.now.missing c.requires.missing
    (c.labels.skip - 1) (omega (arith, c.labels.invariant.clear.within)) (omega arith))

pub returns-then-not-is_empty-clause-barrier : goal.returns-then-not-is_empty-clause-barrier
returns-then-not-is_empty-clause-barrier g c =
    let zone = c.args.version.now.records in
    let above = drop (c.labels.skip - 1) c.args.name.now in
    let shown : c.of_type-servers.result.now ≡ of_type 2 (records_of zone above) =
    c.of_type-servers.ensures ∙ ap (of_type 2)
    (c.node_above-near.ensures.node.records_are ∙ ap (records_of zone) c.ancestor_ref-above.ensures) in
    let owned : owns zone 2 above ≡ true = owned_shows zone above c.of_type-servers.result.now
    c.node_above-near.ensures.rises shown c.if-not-is_empty.ensures in
    ap Some (c.at_cut.ensures ∙ ap referral shown) ∙ cut_is_here c.args.version.now.apex zone c.args.kind
    c.args.name.now c.labels.skip (omega arith) c.labels.invariant.clear owned (inl c.labels-test.true)

pub returns-in-Some-clause-barrier : goal.returns-in-Some-clause-barrier
returns-in-Some-clause-barrier g c =
    let zone = c.args.version.now.records in
    let above = drop (c.labels.skip - 1) c.args.name.now in
    let r = c.in-Some.renamer.now in
    let up = c.node_above-near.ensures.rises in
    let shown : c.of_type-servers.result.now ≡ of_type 2 (records_of zone above) =
    c.of_type-servers.ensures ∙ ap (of_type 2)
    (c.node_above-near.ensures.node.records_are ∙ ap (records_of zone) c.ancestor_ref-above.ensures) in
    let free : owns zone 2 above ≡ false =
    shows_owned zone above c.of_type-servers.result.now up shown c.if-not-is_empty.ensures in
    let e : renamer_at zone above ≡ Some r =
    ap (renamer_at zone) (sym c.ancestor_ref-above.ensures) ∙ sym c.in-Some.ensures in
    ap Some (c.beside.ensures ∙ sym (renaming_is (of_type 39 (records_of zone above)) r e))
    ∙ renamed_here c.args.version.now.apex zone c.args.kind c.args.name.now c.labels.skip c.labels-test.true
    c.labels.invariant.clear free (has_renamer zone above r up e)

pub labels-preserved : goal.labels-preserved
labels-preserved g c =
    let zone = c.args.version.now.records in
    let above = drop (c.labels.skip - 1) c.args.name.now in
    let up = c.node_above-near.ensures.rises in
    let shown : c.of_type-servers.result.now ≡ of_type 2 (records_of zone above) =
    c.of_type-servers.ensures ∙ ap (of_type 2)
    (c.node_above-near.ensures.node.records_are ∙ ap (records_of zone) c.ancestor_ref-above.ensures) in
    let free : owns zone 2 above ≡ false =
    shows_owned zone above c.of_type-servers.result.now up shown c.if-not-is_empty.ensures in
    let e : renamer_at zone above ≡ None =
    ap (renamer_at zone) (sym c.ancestor_ref-above.ensures) ∙ sym c.in_default.ensures in
    record {
      some = omega (arith, c.labels-test.true);
      within = omega (arith, c.labels.invariant.within);
      clear = clear_step c.args.version.now.apex zone c.args.name.now c.labels.skip c.labels.invariant.some
          c.labels.invariant.clear free (no_renamer zone above up e);
      counted = omega (arith, c.labels.invariant.counted, c.node_above-near.ensures.counted);
      cost = searches_more (c.args.labels - c.labels.skip + 1) _ _ _
          (omega (arith, c.labels.invariant.within, c.labels-test.true))
          (searches_add (c.args.labels - c.labels.skip) 1 _ (c.labels.steps - c.args.steps.now)
          (c.node_above-near.new.steps - c.labels.steps) _
          c.labels.invariant.cost c.node_above-near.ensures.cost
          (omega (arith, c.labels.invariant.counted, c.node_above-near.ensures.counted)));
    }

pub returns-then-is_empty-clause-barrier : goal.returns-then-is_empty-clause-barrier
returns-then-is_empty-clause-barrier g c =
    let zone = c.args.version.now.records in
    let one : c.labels.skip ≡ 1 = omega (arith, c.labels.invariant.some, c.labels-test.false) in
    let shown : c.of_type-servers-2.result.now ≡ of_type 2 (records_of zone c.args.name.now) =
    c.of_type-servers-2.ensures ∙ ap (of_type 2) c.requires.node.records_are in
    let free : owns zone 2 c.args.name.now ≡ false = shows_owned zone c.args.name.now c.of_type-servers-2.result.now
    c.requires.valid.rises shown c.if-is_empty.ensures in
    walked_through c.args.version.now.apex zone c.args.kind c.args.name.now
    (rw one at c.labels.invariant.clear) (inr free)

pub returns-else-is_empty-clause-barrier : goal.returns-else-is_empty-clause-barrier
returns-else-is_empty-clause-barrier g c =
    let zone = c.args.version.now.records in
    let one : c.labels.skip ≡ 1 = omega (arith, c.labels.invariant.some, c.labels-test.false) in
    let shown : c.of_type-servers-2.result.now ≡ of_type 2 (records_of zone c.args.name.now) =
    c.of_type-servers-2.ensures ∙ ap (of_type 2) c.requires.node.records_are in
    let owned : owns zone 2 c.args.name.now ≡ true = owned_shows zone c.args.name.now c.of_type-servers-2.result.now
    c.requires.valid.rises shown c.if-is_empty.ensures in
    ap Some (c.at_cut-else-is_empty.ensures ∙ ap referral shown)
    ∙ cut_is_here c.args.version.now.apex zone c.args.kind c.args.name.now 1 (omega arith)
    (rw one at c.labels.invariant.clear) owned (inr (other_kind c.args.kind c.if-kind-eq-TYPE_DS.false))

pub returns-then-kind-eq-TYPE_DS-clause-barrier : goal.returns-then-kind-eq-TYPE_DS-clause-barrier
returns-then-kind-eq-TYPE_DS-clause-barrier g c =
    let one : c.labels.skip ≡ 1 = omega (arith, c.labels.invariant.some, c.labels-test.false) in
    walked_through c.args.version.now.apex c.args.version.now.records c.args.kind c.args.name.now
    (rw one at c.labels.invariant.clear) (inl (ap (λ n. n == 43) c.if-kind-eq-TYPE_DS.true))
