use Rattle.std.proofs.Common.{arith, ◌+◌}
use Rattle.dz_message.specs.Looks.{looks_of, looks_of_kind}
use Rattle.dz_record.specs.Record.{Record}
use Rattle.std.proofs.lemmas.Result.{err_from_is_err_and}
use Rattle.dz_message.specs.Reading.{record_at}
use Rattle.dz_message.proofs.ManyLemmas.{one_more, one_fails, no_more, sum_more}
use Rattle.dz_message.proofs.read.read_answers.Goals as goal

pub returns-in_err-record-clause-reads : goal.returns-in_err-record-clause-reads
returns-in_err-record-clause-reads g c =
    let p = err_from_is_err_and c.from_residual.result c.from_residual.ensures.1 in
    rw (p.1, p.2) (one_fails (record_at c.args.message.now) c.in_err-record.field-0.0 _ c.args.count c.answers.counter
    c.answers.offset _ c.answers-test.true c.in_err-record.ensures.reads c.answers.invariant.reads)

pub answers-preserved : goal.answers-preserved
answers-preserved g c =
    record {
      within = c.in_ok-record.ensures.within;
      least = sum_more (λ (r : Record). looks_of r.owner + looks_of_kind r.kind) _ _ _ _ _ _ c.in_ok-push.ensures.items
          c.answers.invariant.least c.in_ok-record.ensures.least;
      passed = omega (arith, c.answers.invariant.passed, c.in_ok-record.ensures.passed);
      reads = rw c.in_ok-push.ensures.items (one_more (record_at c.args.message.now) _ c.args.count c.answers.counter
          c.answers.offset _ _ _ c.answers-test.true c.in_ok-record.ensures.reads c.answers.invariant.reads);
    }

pub returns-clause-reads : goal.returns-clause-reads
returns-clause-reads g c = no_more (record_at c.args.message.now) _ c.args.count c.answers.counter c.answers.offset _
    c.answers-test.false c.answers.invariant.reads

pub returns-in_err-record-clause-most : goal.returns-in_err-record-clause-most
returns-in_err-record-clause-most g c =
    omega (arith, c.in_err-record.ensures.most, c.answers.invariant.passed, c.answers.invariant.within)
