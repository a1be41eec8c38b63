use Rattle.std.proofs.Common.{arith, ◌<◌, ◌∙◌, sym, [], length}
use Rattle.dz_lookup.specs.inner.Links.{no_record}
use Rattle.dz_lookup.proofs.LinkLemmas.{seen_here, seen_later}
use Rattle.dz_lookup.proofs.chain.Chain.contains.Goals.{then-number-len, else-number-len}
use Rattle.dz_lookup.proofs.chain.Chain.contains.Goals as goal

pub returns-then-same : goal.returns-then-same
returns-then-same c =
    let within : c.names.number < length c.args.self.now =
    omega (arith, c.names-test.true, c.len-number-end.ensures.value) in
    sym (seen_here c.args.self.now c.names.number c.args.name.now c.names.found ([], no_record) within
    (c.names.invariant.found ([], no_record) within) (sym c.same.ensures.value ∙ c.if-same.true))
    ∙ c.names.invariant.seen

pub names-preserved : goal.names-preserved
names-preserved c =
    let within : c.names.number < length c.args.self.now =
    omega (arith, c.names-test.true, c.len-number-end.ensures.value) in
    record {
      found = λ d more. elim c.if-number-len.branch [
        | then-number-len w ↦ rw w.found-is (w.target-found.ensures.next d more)
        | else-number-len w ↦ absurd (omega (arith, w.if-number-len.false, more, c.len.ensures.value))
      ];
      seen = sym (seen_later c.args.self.now c.names.number c.args.name.now c.names.found ([], no_record) within
          (c.names.invariant.found ([], no_record) within) (sym c.same.ensures.value ∙ c.if-same.false))
          ∙ c.names.invariant.seen;
    }
