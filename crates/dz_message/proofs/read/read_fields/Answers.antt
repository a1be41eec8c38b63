use Rattle.std.proofs.Common.{arith, take, get_or}
use Rattle.std.proofs.lemmas.List.{take_more, take_all}
use Rattle.dz_record.specs.declared.fields.Field.TheVariants.{FixedLength}
use Rattle.dz_message.specs.Looks.{looks_of_field}
use Rattle.dz_message.proofs.ManyLemmas.{sum_more}
use Rattle.std.proofs.lemmas.Result.{err_from_is_err_and}
use Rattle.dz_message.proofs.RdataLemmas.{one_read, field_fails, all_read, left_over}
use Rattle.dz_message.proofs.read.read_fields.Goals as goal

pub returns-in_err-offset-clause-reads : goal.returns-in_err-offset-clause-reads
returns-in_err-offset-clause-reads g c =
    let p = err_from_is_err_and c.from_residual.result c.from_residual.ensures.1 in
    rw (p.1, p.2) (field_fails _ _ _ _ _ _ _ _ c.in_err-offset.field-0.0 c.fields.invariant.reads c.fields-test.true
    c.in_err-offset.ensures.reads)

pub fields-preserved : goal.fields-preserved
fields-preserved g c =
    let r = c.in_ok-offset.ensures.reads in
    record {
      reads = one_read _ _ _ _ _ _ _ _ _ _ r.0 c.fields.invariant.reads c.fields-test.true r.1 r.2
          c.in_ok-offset.ensures.within;
      counted = omega (arith, c.fields.invariant.counted);
      passed = omega (arith, c.fields.invariant.passed, c.in_ok-offset.ensures.passed);
      least = sum_more looks_of_field (take c.fields.field-index c.args.fields.now) _
          (get_or c.args.fields.now c.fields.field-index (FixedLength 0)) _ _ _
          (take_more c.args.fields.now c.fields.field-index (FixedLength 0) c.fields-test.true)
          c.fields.invariant.least c.in_ok-offset.ensures.least;
    }

pub returns-then-offset-span-clause-reads : goal.returns-then-offset-span-clause-reads
returns-then-offset-span-clause-reads g c =
    all_read _ _ _ _ _ _ _ _ c.fields.invariant.reads c.fields-test.false c.if-offset-span.true

pub returns-else-offset-span-clause-reads : goal.returns-else-offset-span-clause-reads
returns-else-offset-span-clause-reads g c =
    left_over _ _ _ _ _ _ _ _ c.fields.invariant.reads c.fields-test.false c.if-offset-span.false

pub returns-then-offset-span-clause-least : goal.returns-then-offset-span-clause-least
returns-then-offset-span-clause-least g c =
    rw (take_all c.fields.field-index c.args.fields.now c.fields-test.false) at c.fields.invariant.least
