use Rattle.dz_message.specs.Looks.{looks_of}
use Rattle.dz_header.specs.declared.question.Question.{Question}
use Rattle.std.proofs.Common.{sym, arith}
use Rattle.std.proofs.lemmas.Result.{err_from_is_err_and}
use Rattle.dz_message.specs.declared.fault.MessageError.TheVariants as errors
use Rattle.dz_message.specs.Reading.{question_in}
use Rattle.dz_message.proofs.ManyLemmas.{one_more, one_fails, no_more, sum_more}
use Rattle.dz_message.proofs.read.read_questions.Goals as goal

pub returns-in_err-question-clause-reads : goal.returns-in_err-question-clause-reads
returns-in_err-question-clause-reads g c =
    let p = err_from_is_err_and c.from_residual.result c.from_residual.ensures.1 in
    rw (p.1, p.2) (one_fails (question_in c.args.message.now) (errors.Fault c.in_err-question.field-0.0)
    _ c.args.count c.questions.counter c.questions.offset _ c.questions-test.true
    (sym c.in_err-question.ensures.reads) c.questions.invariant.reads)

pub questions-preserved : goal.questions-preserved
questions-preserved g c =
    record {
      within = c.in_ok-question.ensures.within;
      least = sum_more (λ (q : Question). looks_of q.name) _ _ _ _ _ _ c.in_ok-push.ensures.items
          c.questions.invariant.least c.in_ok-question.ensures.least;
      passed =
          omega (arith, c.questions.invariant.passed, c.in_ok-question.ensures.most, c.in_ok-question.ensures.passed);
      reads = rw c.in_ok-push.ensures.items
          (one_more (question_in c.args.message.now) _ c.args.count c.questions.counter c.questions.offset _ _ _
          c.questions-test.true (sym c.in_ok-question.ensures.reads) c.questions.invariant.reads);
    }

pub returns-clause-reads : goal.returns-clause-reads
returns-clause-reads g c = no_more (question_in c.args.message.now) _ c.args.count c.questions.counter
    c.questions.offset _ c.questions-test.false c.questions.invariant.reads

pub returns-in_err-question-clause-most : goal.returns-in_err-question-clause-most
returns-in_err-question-clause-most g c =
    omega (arith, c.in_err-question.ensures.most, c.questions.invariant.passed, c.questions.invariant.within)
