use Rattle.std.proofs.Common.{arith, refl, ◌+◌, ◌-◌, ◌∙◌, sym, ap, subst, drop, length, length-drop, option_map}
use Rattle.std.proofs.lemmas.Bool.{false≢true}
use Rattle.dz_name.specs.Name.{IsWithin}
use Rattle.dz_table.specs.Table.{closest}
use Rattle.dz_table.specs.inner.Kept.{slots_of}
use Rattle.dz_table.proofs.Nearest.{closest_answer, last_closest, last_climbed, last_shorter}
use Rattle.dz_table.proofs.LastLemmas.{kept_last, kept_none}
use Rattle.dz_table.proofs.CostLemmas.{last_one, one_more}
use Rattle.dz_table.proofs.table.Table.enclosing.Goals as goal

pub returns-in_err-slot-clause-value : goal.returns-in_err-slot-clause-value
returns-in_err-slot-clause-value g c =
    ap (option_map (λ r. r.now)) c.from_residual.ensures
    ∙ (sym (kept_none c.self.inside.slots c.ancestors.asked c.of.result c.self.invariant c.of.ensures
    c.in_err-slot.ensures.value)
    ∙ (c.ancestors.invariant.same ∙ ap (λ l. closest l c.args.name.now) c.self.view_is))

pub returns-in_err-slot-clause-nearest : goal.returns-in_err-slot-clause-nearest
returns-in_err-slot-clause-nearest g c = closest_answer _ _ _ (returns-in_err-slot-clause-value g c)

pub returns-then-is_within-clause-value : goal.returns-then-is_within-clause-value
returns-then-is_within-clause-value g c =
    let found =
    kept_last c.self.inside.slots c.ancestors.asked c.of.result c.zone-zone.result c.in_ok-slot.slot.now.zone
    c.in_ok-slot.slot.now c.self.invariant c.of.ensures c.zone-zone.ensures c.in_ok-slot.ensures.value in
    let w = subst (λ z. IsWithin c.ancestors.asked z) found.at (subst (λ n. IsWithin n c.zone-zone.result)
    c.as_ref-below.ensures (c.is_within.ensures.suffix.0 c.if-is_within.true)) in
    sym (last_closest (slots_of c.self.inside.slots) c.ancestors.asked c.in_ok-slot.slot.now found.is w)
    ∙ (c.ancestors.invariant.same ∙ ap (λ l. closest l c.args.name.now) c.self.view_is)

pub returns-then-is_within-clause-nearest : goal.returns-then-is_within-clause-nearest
returns-then-is_within-clause-nearest g c = closest_answer _ _ _ (returns-then-is_within-clause-value g c)

pub returns-in_err-slot-clause-cost : goal.returns-in_err-slot-clause-cost
returns-in_err-slot-clause-cost g c =
    last_one c.self.inside.slots c.args.self.now (length c.args.name.now - length c.ancestors.asked)
    (length c.args.name.now + 1) _ _ _ c.self.view_is
    (omega (arith, c.ancestors.invariant.within)) c.ancestors.invariant.taken c.last_upto.ensures.cost (omega arith)

pub returns-then-is_within-clause-cost : goal.returns-then-is_within-clause-cost
returns-then-is_within-clause-cost g c =
    last_one c.self.inside.slots c.args.self.now (length c.args.name.now - length c.ancestors.asked)
    (length c.args.name.now + 1) _ _ _ c.self.view_is
    (omega (arith, c.ancestors.invariant.within)) c.ancestors.invariant.taken c.last_upto.ensures.cost (omega arith)

pub ancestors-init : goal.ancestors-init
ancestors-init g c = record {
  same = refl;
  within = omega arith;
  taken = λ bits enough. omega arith;
}

pub ancestors-smaller : goal.ancestors-smaller
ancestors-smaller g c =
    let found =
    kept_last c.self.inside.slots c.ancestors.asked c.of.result c.zone-zone.result c.in_ok-slot.slot.now.zone
    c.in_ok-slot.slot.now c.self.invariant c.of.ensures c.zone-zone.ensures c.in_ok-slot.ensures.value in
    let some = last_shorter (slots_of c.self.inside.slots) c.ancestors.asked c.in_ok-slot.slot.now
    c.labels_apart.result found.is
    (λ w.
    false≢true (sym c.if-is_within.false ∙ c.is_within.ensures.suffix.1 (subst (λ n. IsWithin n c.zone-zone.result)
    (sym c.as_ref-below.ensures) (subst (λ z. IsWithin c.ancestors.asked z) (sym found.at) w))))
    (subst (λ z. IsWithin z (drop c.labels_apart.result c.ancestors.asked)) found.at
    (subst (λ n. IsWithin c.zone-zone.result (drop c.labels_apart.result n)) c.as_ref-below.ensures
    c.labels_apart.ensures.encloses)) in
    omega (
      arith,
      some,
      c.labels_apart.ensures.within,
      ap length c.as_ref-below.ensures,
      ap length c.ancestor-asked.ensures,
      length-drop c.labels_apart.result c.ancestors.asked,
    )

pub ancestors-preserved : goal.ancestors-preserved
ancestors-preserved g c =
    let found =
    kept_last c.self.inside.slots c.ancestors.asked c.of.result c.zone-zone.result c.in_ok-slot.slot.now.zone
    c.in_ok-slot.slot.now c.self.invariant c.of.ensures c.zone-zone.ensures c.in_ok-slot.ensures.value in
    let shorter = ancestors-smaller g c in
    record {
      same = ap (closest (slots_of c.self.inside.slots)) c.ancestor-asked.ensures
          ∙ (last_climbed (slots_of c.self.inside.slots) c.ancestors.asked c.in_ok-slot.slot.now
          c.labels_apart.result found.is
          (λ zone w v. subst (λ n. IsWithin (drop c.labels_apart.result n) zone) c.as_ref-below.ensures
          (c.labels_apart.ensures.longest zone (subst (λ n. IsWithin n zone) (sym c.as_ref-below.ensures) w)
          (subst (λ z. IsWithin z zone) (sym found.at) v)))
          ∙ c.ancestors.invariant.same);
      within = omega (arith, c.ancestors.invariant.within, shorter);
      taken = one_more _ _ _ _ _ _ (omega (arith, c.ancestors.invariant.within, shorter)) c.ancestors.invariant.taken
          c.last_upto.ensures.cost (omega arith);
    }
