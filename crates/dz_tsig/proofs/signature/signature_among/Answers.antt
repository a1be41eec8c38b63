use Rattle.std.proofs.Common.{◌∙◌, sym, arith}
use Rattle.std.proofs.lemmas.Bool.Decides.{nat_tests}
use Rattle.dz_tsig.proofs.SignatureLemmas.{shape_fits, none_shown, tsig_shown, other_shown, none_left, some_left}
use Rattle.dz_tsig.proofs.signature.signature_among.Goals as goal

pub returns-in-None-clause-value : goal.returns-in-None-clause-value
returns-in-None-clause-value c = none_shown c.args.message.now c.args.is_additional c.args.count c.records.number
    c.records.rest.now _ c.records.invariant.value c.records-test.true c.in-None.ensures

pub found-requires-clause-rdata : goal.found-requires-clause-rdata
found-requires-clause-rdata c =
    omega (
      arith,
      (shape_fits c.records.rest.now (c.in-Some.found.0, c.in-Some.found.1.now, c.in-Some.found.2.now)
          (sym c.in-Some.ensures)).rdata,
      c.records.invariant.within,
      c.requires,
    )

pub returns-then-shape-eq-TYPE_TSIG-clause-value :
    goal.returns-then-shape-eq-TYPE_TSIG-clause-value
returns-then-shape-eq-TYPE_TSIG-clause-value c =
    c.found.ensures.value
    ∙ (rw c.is_last-is_last.ensures (tsig_shown c.args.message.now c.args.is_additional c.args.count c.records.number
    c.records.rest.now _ c.records.invariant.value
    (c.in-Some.found.0, c.in-Some.found.1.now, c.in-Some.found.2.now) c.records-test.true c.in-Some.ensures
    c.if-shape-eq-TYPE_TSIG.true))

pub records-preserved : goal.records-preserved
records-preserved c = record {
  value = other_shown c.args.message.now c.args.is_additional c.args.count c.records.number c.records.rest.now _
      c.records.invariant.value
      (c.in-Some.found.0, c.in-Some.found.1.now, c.in-Some.found.2.now) c.records-test.true c.in-Some.ensures
      c.if-shape-eq-TYPE_TSIG.false;
  within =
      omega (
        arith,
        (shape_fits c.records.rest.now (c.in-Some.found.0, c.in-Some.found.1.now, c.in-Some.found.2.now)
            (sym c.in-Some.ensures)).rest,
        c.records.invariant.within,
      );
}

pub returns-then-is_empty-clause-value : goal.returns-then-is_empty-clause-value
returns-then-is_empty-clause-value c =
    none_left c.args.message.now c.args.is_additional c.args.count c.records.number c.records.rest.now _
    c.records.invariant.value c.records-test.false (grind (arith, nat_tests, c.is_empty.ensures, c.if-is_empty.true))

pub returns-else-is_empty-clause-value : goal.returns-else-is_empty-clause-value
returns-else-is_empty-clause-value c =
    some_left c.args.message.now c.args.is_additional c.args.count c.records.number c.records.rest.now _
    c.records.invariant.value c.records-test.false (grind (arith, nat_tests, c.is_empty.ensures, c.if-is_empty.false))
