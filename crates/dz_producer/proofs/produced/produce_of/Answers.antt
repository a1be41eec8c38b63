use Rattle.std.proofs.Common.{◌≡◌, ◌<◌, true, false, length, refl, arith, ap, sym, ◌∙◌}
use Rattle.std.specs.Prelude.{nat_lt}
use Rattle.std.proofs.lemmas.Bool.Decides.{nat_tests}
use Rattle.dz_outward.specs.Stream.{is_fit}
use Rattle.dz_producer.specs.Produced.{produced}
use Rattle.dz_producer.specs.inner.Nodes.{values}
use Rattle.dz_producer.proofs.IsNodeLemmas.{made_catalog}
use Rattle.dz_producer.proofs.FaultLemmas.{label_fault, group_fault, name_fault, many_fault, zone_fault, none_holds}
use Rattle.dz_producer.proofs.FaultLemmas.{many_nodes, many_records, many_octets, not_many}
use Rattle.dz_producer.proofs.produced.produce_of.Goals as goal
use Rattle.dz_producer.proofs.produced.produce_of.Goals.{then-is_version_long-via-then-is_version_long}
use Rattle.dz_producer.proofs.produced.produce_of.Goals.{then-nodes-gt-NODES-via-then-nodes-gt-NODES}

pub returns-then-branch-clause-made : goal.returns-then-branch-clause-made
returns-then-branch-clause-made c =
    label_fault c.args.apex.now c.args.serial c.args.nodes.now (sym c.if-branch.true ∙ c.in_ok-has_label_twice.ensures)

pub returns-then-branch-2-clause-made : goal.returns-then-branch-2-clause-made
returns-then-branch-2-clause-made c =
    group_fault c.args.apex.now c.args.serial c.args.nodes.now
    (sym c.if-branch.false ∙ c.in_ok-has_label_twice.ensures) (sym c.if-branch-2.true ∙ c.in_ok-some_bad_group.ensures)

pub returns-then-is_version_long-clause-made : goal.returns-then-is_version_long-clause-made
returns-then-is_version_long-clause-made c =
    let fault = name_fault c.args.apex.now c.args.serial c.args.nodes.now
    (sym c.if-branch.false ∙ c.in_ok-has_label_twice.ensures)
    (sym c.if-branch-2.false ∙ c.in_ok-some_bad_group.ensures) in
    elim c.then-is_version_long.branch [
      | then-is_version_long-via-then-is_version_long w ↦ fault
          (rw (sym c.is_version_long.ensures ∙ w.if-is_version_long.true) refl)
      | goal.then-is_version_long-via-else-is_version_long+then-some_node_long w ↦ fault
          (rw (
            sym c.is_version_long.ensures ∙ w.if-is_version_long.false,
            sym w.some_node_long.ensures.long
                ∙ w.if-some_node_long.true,
          ) refl)
    ]

pub returns-then-nodes-gt-NODES-clause-made : goal.returns-then-nodes-gt-NODES-clause-made
returns-then-nodes-gt-NODES-clause-made c =
    let nodes = c.args.nodes.now in
    let fault = many_fault c.args.apex.now c.args.serial nodes
    (sym c.if-branch.false ∙ c.in_ok-has_label_twice.ensures)
    (sym c.if-branch-2.false ∙ c.in_ok-some_bad_group.ensures)
    (sym c.if-is_version_long.false ∙ c.is_version_long.ensures)
    (sym c.if-some_node_long.false ∙ c.some_node_long.ensures.long) in
    elim c.then-nodes-gt-NODES.branch [
      | then-nodes-gt-NODES-via-then-nodes-gt-NODES w ↦
          let many : 65536 < length nodes = w.if-nodes-gt-NODES.true in
          let t : nat_lt 65536 (length nodes) ≡ true = grind (arith, nat_tests) in
          fault (many_nodes c.args.apex.now c.args.serial nodes t)
      | goal.then-nodes-gt-NODES-via-else-nodes-gt-NODES+then-has_too_many_records w ↦
          fault (many_records c.args.apex.now c.args.serial nodes
          (sym w.has_too_many_records.ensures ∙ w.if-has_too_many_records.true))
    ]

pub returns-then-not-is_fit-clause-made : goal.returns-then-not-is_fit-clause-made
returns-then-not-is_fit-clause-made c =
    let nodes = c.args.nodes.now in
    let large : is_fit (produced c.args.apex.now c.args.serial (values nodes)) ≡ false =
    ap is_fit (sym c.in_ok-version.ensures.version) ∙ (sym c.is_fit.ensures.fit ∙ c.if-not-is_fit.true) in
    many_fault c.args.apex.now c.args.serial nodes (sym c.if-branch.false ∙ c.in_ok-has_label_twice.ensures)
    (sym c.if-branch-2.false ∙ c.in_ok-some_bad_group.ensures)
    (sym c.if-is_version_long.false ∙ c.is_version_long.ensures)
    (sym c.if-some_node_long.false ∙ c.some_node_long.ensures.long)
    (many_octets c.args.apex.now c.args.serial nodes large)

pub returns-then-branch-3-clause-made : goal.returns-then-branch-3-clause-made
returns-then-branch-3-clause-made c =
    let nodes = c.args.nodes.now in
    let few : nat_lt 65536 (length nodes) ≡ false = let h = c.if-nodes-gt-NODES.false in grind (arith, nat_tests) in
    let fits : is_fit (produced c.args.apex.now c.args.serial (values nodes)) ≡ true =
    ap is_fit (sym c.in_ok-version.ensures.version) ∙ (sym c.is_fit.ensures.fit ∙ c.if-not-is_fit.false) in
    let not = not_many c.args.apex.now c.args.serial nodes few
    (sym c.has_too_many_records.ensures ∙ c.if-has_too_many_records.false) fits in
    zone_fault c.args.apex.now c.args.serial nodes (sym c.if-branch.false ∙ c.in_ok-has_label_twice.ensures)
    (sym c.if-branch-2.false ∙ c.in_ok-some_bad_group.ensures)
    (sym c.if-is_version_long.false ∙ c.is_version_long.ensures)
    (sym c.if-some_node_long.false ∙ c.some_node_long.ensures.long) not
    (sym c.if-branch-3.true ∙ c.in_ok-has_zone_twice.ensures)

pub returns-clause-made : goal.returns-clause-made
returns-clause-made c =
    let nodes = c.args.nodes.now in
    let few : nat_lt 65536 (length nodes) ≡ false = let h = c.if-nodes-gt-NODES.false in grind (arith, nat_tests) in
    let fits : is_fit (produced c.args.apex.now c.args.serial (values nodes)) ≡ true =
    ap is_fit (sym c.in_ok-version.ensures.version) ∙ (sym c.is_fit.ensures.fit ∙ c.if-not-is_fit.false) in
    let not = not_many c.args.apex.now c.args.serial nodes few
    (sym c.has_too_many_records.ensures ∙ c.if-has_too_many_records.false) fits in (
      none_holds c.args.apex.now c.args.serial nodes (sym c.if-branch.false ∙ c.in_ok-has_label_twice.ensures)
          (sym c.if-branch-2.false ∙ c.in_ok-some_bad_group.ensures)
          (sym c.if-is_version_long.false ∙ c.is_version_long.ensures)
          (sym c.if-some_node_long.false ∙ c.some_node_long.ensures.long) not
          (sym c.if-branch-3.false ∙ c.in_ok-has_zone_twice.ensures),
      c.in_ok-version.ensures.version,
    )

pub returns-clause-catalog : goal.returns-clause-catalog
returns-clause-catalog c =
    let both = returns-clause-made c in
    made_catalog c.args.apex.now c.args.serial c.args.nodes.now c.in_ok-version.version c.ranges.serial.fits
    (c.some_node_long.ensures.labels c.if-some_node_long.false) c.in_ok-version.ensures.led both.0 both.1
