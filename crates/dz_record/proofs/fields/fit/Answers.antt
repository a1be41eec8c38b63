use Rattle.std.proofs.Common.{◌∙◌, sym}
use Rattle.dz_record.proofs.FieldLemmas.{fits_step, fits_done}
use Rattle.dz_record.proofs.fields.fit.Goals as goal

pub returns-in-None : goal.returns-in-None
returns-in-None c = rw (← c.in-None.ensures.value)
    at (sym (fits_step c.args.fields.now c.fields.field-index c.args.rdata.now c.fields.at c.fields-test.true))
    ∙ c.fields.invariant.same

pub fields-preserved : goal.fields-preserved
fields-preserved c =
    record {
      within = c.in-Some.ensures.within;
      same = rw (← c.in-Some.ensures.value)
          at (sym (fits_step c.args.fields.now c.fields.field-index c.args.rdata.now c.fields.at c.fields-test.true))
          ∙ c.fields.invariant.same;
    }

pub returns : goal.returns
returns c = sym (fits_done c.args.fields.now c.fields.field-index c.args.rdata.now c.fields.at c.fields-test.false)
    ∙ c.fields.invariant.same
