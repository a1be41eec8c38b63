use Rattle.std.proofs.Common.{◌∙◌, arith, sym, ap, refl}
use Rattle.dz_name.specs.Name.{parent_of}
use Rattle.dz_name.proofs.PartLemmas.{parent_step, parent_all}
use Rattle.dz_name.proofs.WireLemmas.{is_wire, labels_of-wire}
use Rattle.dz_name.proofs.name_ref.NameRef.above.Goals as goal

pub of_wire-name-requires : goal.of_wire-name-requires
of_wire-name-requires c = is_wire _ _ c.wire.ensures.name c.wire.ensures.wire

pub labels-init : goal.labels-init
labels-init c = record {
  name = c.of_wire-name.ensures ∙ labels_of-wire _ _ c.wire.ensures.name c.wire.ensures.wire;
  within = omega arith;
}

pub returns-in-None-clause-none : goal.returns-in-None-clause-none
returns-in-None-clause-none c =
    let all = parent_all c.args.self.now c.labels.counter
    (sym c.in-None.is ∙ c.parent.ensures ∙ ap parent_of c.labels.invariant.name) in
    (λ _. omega (arith, all, c.labels-test.true), λ _. refl)

pub labels-preserved : goal.labels-preserved
labels-preserved c =
    let next = parent_step c.args.self.now c.labels.counter _
    (sym c.in-Some.is ∙ c.parent.ensures ∙ ap parent_of c.labels.invariant.name) in
    record { name = next.0; within = next.1 }
