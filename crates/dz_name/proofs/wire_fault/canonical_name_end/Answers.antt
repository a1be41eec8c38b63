use Rattle.std.proofs.Common.{◌∙◌, sym}
use Rattle.dz_name.proofs.CanonicalLemmas.{canonical_end_fault, canonical_end_same, canonical_end_other}
use Rattle.dz_name.proofs.CanonicalLemmas.{no_canonical_name}
use Rattle.dz_name.proofs.wire_fault.canonical_name_end.Goals as goal

pub returns-in-Err-clause-value : goal.returns-in-Err-clause-value
returns-in-Err-clause-value c = sym (canonical_end_fault _ _ _ (sym c.in-Err.ensures.value))

pub returns-in-Err-clause-none : goal.returns-in-Err-clause-none
returns-in-Err-clause-none c = λ _. no_canonical_name _ _ (canonical_end_fault _ _ _ (sym c.in-Err.ensures.value))

pub returns-then-eq-clause-value : goal.returns-then-eq-clause-value
returns-then-eq-clause-value c =
    sym (canonical_end_same c.args.octets.now c.args.at c.in-Ok.found.1 c.in-Ok.found.0 (sym c.in-Ok.ensures.value)
    (rw c.wire.ensures.wire at (sym c.eq.ensures ∙ c.if-eq.true)))

pub returns-else-eq-clause-value : goal.returns-else-eq-clause-value
returns-else-eq-clause-value c =
    sym (canonical_end_other c.args.octets.now c.args.at c.in-Ok.found.1 c.in-Ok.found.0 (sym c.in-Ok.ensures.value)
    (rw c.wire.ensures.wire at (sym c.eq.ensures ∙ c.if-eq.false)))

pub returns-else-eq-clause-none : goal.returns-else-eq-clause-none
returns-else-eq-clause-none c = λ _. no_canonical_name c.args.octets.now c.args.at
    (canonical_end_other c.args.octets.now c.args.at c.in-Ok.found.1 c.in-Ok.found.0 (sym c.in-Ok.ensures.value)
    (rw c.wire.ensures.wire at (sym c.eq.ensures ∙ c.if-eq.false)))
