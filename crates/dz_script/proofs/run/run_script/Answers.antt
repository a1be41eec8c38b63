-- What each way out of the loop, and each line, makes of what is known between two lines.
use Rattle.std.proofs.Common.{ap, ◌∙◌, refl, Err, arith}
use Rattle.dz_script.proofs.RunLemmas.{mid_begins, mid_read, mid_memory, run_long, run_end, run_last, mid_line_halts}
use Rattle.dz_script.proofs.RunLemmas.{mid_line_over, mid_line_on, more_than_none}
use Rattle.dz_script.proofs.LeadLemmas.{mid_leads, halt_leads, end_leads, long_leads, last_leads}
use Rattle.dz_script.proofs.run.run_script.Goals as goal

pub lines-init : goal.lines-init
lines-init g c = (
  (omega arith),
  (omega arith),
  refl,
  refl,
  refl,
  λ octets told. rw c.new-window.ensures (mid_begins _ _ octets _ _ told),
)

pub returns-in-Err-Read-clause-ends : goal.returns-in-Err-Read-clause-ends
returns-in-Err-Read-clause-ends g c octets told =
    mid_read _ _ octets _ _ _ _ c.next_line.new.window (g.S.Source.left c.next_line.new.source) _ _ _
    (c.lines.invariant.5 octets told) c.in-Err-Read.ensures.takes
    (c.in-Err-Read.ensures.stop (ap Err c.in-Err-Read.field-0-is))

pub returns-in-Err-OutOfMemory-clause-ends : goal.returns-in-Err-OutOfMemory-clause-ends
returns-in-Err-OutOfMemory-clause-ends g c octets told =
    mid_memory _ _ octets _ (g.T.Script.state c.lines.script) _ _ (g.S.Source.left c.next_line.new.source) _ _ _
    (c.lines.invariant.5 octets told)

pub returns-in-Ok-TooLong-clause-ends : goal.returns-in-Ok-TooLong-clause-ends
returns-in-Ok-TooLong-clause-ends g c octets told =
    rw c.run_answer.ensures (run_long g.T.Script.rules
    (g.T.Script.state c.args.script.now) octets _ _ _ _ _ _ _ _ _ _ _ _ (c.lines.invariant.5 octets told)
    (rw c.in-Ok-TooLong.field-0-is at c.in-Ok-TooLong.ensures.takes) c.too_long.ensures.done)

pub returns-in-Ok-End-clause-ends : goal.returns-in-Ok-End-clause-ends
returns-in-Ok-End-clause-ends g c octets told =
    rw c.run_answer-in-Ok-End.ensures (run_end g.T.Script.rules (g.T.Script.state c.args.script.now) octets _ _ _ _
    _ c.next_line.new.window (g.S.Source.left c.next_line.new.source) _ _ _ _ _ (c.lines.invariant.5 octets told)
    (rw c.in-Ok-End.field-0-is at c.in-Ok-End.ensures.takes) c.finish.ensures.done)

pub returns-in-Ok-Last-clause-ends : goal.returns-in-Ok-Last-clause-ends
returns-in-Ok-Last-clause-ends g c octets told =
    let took = rw (← c.deref.ensures.value) at (rw c.in-Ok-Last.field-0-is at c.in-Ok-Last.ensures.takes) in
    rw c.run_answer-in-Ok-Last.ensures (run_last g.T.Script.rules (g.T.Script.state c.args.script.now) octets
    (g.T.Script.state c.lines.script) (g.T.Script.state c.last_turn.new.script) c.lines.number c.lines.used
    c.deref.result.now c.next_line.new.window (g.S.Source.left c.next_line.new.source) _ _ _ _ _
    (c.lines.invariant.5 octets told) took c.last_turn.ensures.done)

pub returns-in-Err-clause-ends : goal.returns-in-Err-clause-ends
returns-in-Err-clause-ends g c octets told =
    let took = rw (← c.as_slice-text.ensures.value) at (rw c.in-Ok-Line.field-0-is at c.in-Ok-Line.ensures.takes) in
    rw c.from.ensures
    (mid_line_halts g.T.Script.rules (g.T.Script.state c.args.script.now) octets (g.T.Script.state c.lines.script)
    (g.T.Script.state c.turn.new.self) c.lines.number c.lines.used c.as_slice-text.result.now c.in-Err.error _ _ _
    _ _ _ (c.lines.invariant.5 octets told) took c.in-Err.ensures.done)

pub returns-in-Ok-Some-clause-ends : goal.returns-in-Ok-Some-clause-ends
returns-in-Ok-Some-clause-ends g c octets told =
    let took = rw (← c.as_slice-text.ensures.value) at (rw c.in-Ok-Line.field-0-is at c.in-Ok-Line.ensures.takes) in
    mid_line_over g.T.Script.rules (g.T.Script.state c.args.script.now) octets (g.T.Script.state c.lines.script)
    (g.T.Script.state c.turn.new.self) c.lines.number c.lines.used c.as_slice-text.result.now c.in-Ok-Some.ending
    (g.S.Source.left c.next_line.new.source) _ _ _ _ _ (c.lines.invariant.5 octets told) took
    (rw c.in-Ok-Some.field-0-is at c.in-Ok-Some.ensures.done)

pub lines-preserved : goal.lines-preserved
lines-preserved g c =
    let took = rw (← c.as_slice-text.ensures.value) at (rw c.in-Ok-Line.field-0-is at c.in-Ok-Line.ensures.takes) in (
      took.fits,
      (omega (arith, more_than_none c.as_slice-text.result.now took.closed)),
      c.turn.ensures.beside ∙ c.lines.invariant.2,
      c.in-Ok-Line.ensures.cause.kept ∙ c.lines.invariant.3,
      c.in-Ok-None.ensures.cause.kept ∙ c.lines.invariant.4,
      λ octets told.
          mid_line_on g.T.Script.rules (g.T.Script.state c.args.script.now) octets (g.T.Script.state c.lines.script)
          (g.T.Script.state c.turn.new.self) c.lines.number c.lines.used c.as_slice-text.result.now _ _ _ _ _
          (c.lines.invariant.5 octets told) took (rw c.in-Ok-None.field-0-is at c.in-Ok-None.ensures.done),
    )

pub returns-in-Err-Read-clause-leads : goal.returns-in-Err-Read-clause-leads
returns-in-Err-Read-clause-leads g c octets told leads =
    mid_leads g.T.Script.Before g.T.Script.rules leads (g.T.Script.state c.args.script.now) octets _ _ _ _ _ _
    (c.lines.invariant.5 octets told)

pub returns-in-Err-OutOfMemory-clause-leads : goal.returns-in-Err-OutOfMemory-clause-leads
returns-in-Err-OutOfMemory-clause-leads g c octets told leads =
    mid_leads g.T.Script.Before g.T.Script.rules leads (g.T.Script.state c.args.script.now) octets _ _ _ _ _ _
    (c.lines.invariant.5 octets told)

pub returns-in-Ok-TooLong-clause-leads : goal.returns-in-Ok-TooLong-clause-leads
returns-in-Ok-TooLong-clause-leads g c octets told leads =
    rw c.run_answer.ensures (long_leads g.T.Script.Before g.T.Script.rules leads (g.T.Script.state c.args.script.now)
    octets _ (g.T.Script.state c.too_long.new.self) _ _ _ _ _ _ _ _ (c.lines.invariant.5 octets told)
    (rw c.in-Ok-TooLong.field-0-is at c.in-Ok-TooLong.ensures.takes) c.too_long.ensures.leads)

pub returns-in-Ok-End-clause-leads : goal.returns-in-Ok-End-clause-leads
returns-in-Ok-End-clause-leads g c octets told leads =
    rw c.run_answer-in-Ok-End.ensures
    (end_leads g.T.Script.Before g.T.Script.rules leads (g.T.Script.state c.args.script.now) octets _
    (g.T.Script.state c.finish.new.self) _ _ _ _ _ _ _ _ (c.lines.invariant.5 octets told)
    (rw c.in-Ok-End.field-0-is at c.in-Ok-End.ensures.takes) c.finish.ensures.leads)

pub returns-in-Ok-Last-clause-leads : goal.returns-in-Ok-Last-clause-leads
returns-in-Ok-Last-clause-leads g c octets told leads =
    let took = rw (← c.deref.ensures.value) at (rw c.in-Ok-Last.field-0-is at c.in-Ok-Last.ensures.takes) in
    rw c.run_answer-in-Ok-Last.ensures
    (last_leads g.T.Script.Before g.T.Script.rules leads (g.T.Script.state c.args.script.now) octets
    (g.T.Script.state c.lines.script) (g.T.Script.state c.last_turn.new.script) c.lines.number c.lines.used
    c.deref.result.now _ _ _ _ _ (c.lines.invariant.5 octets told) took (c.last_turn.ensures.leads leads))

pub returns-in-Err-clause-leads : goal.returns-in-Err-clause-leads
returns-in-Err-clause-leads g c octets told leads =
    let took = rw (← c.as_slice-text.ensures.value) at (rw c.in-Ok-Line.field-0-is at c.in-Ok-Line.ensures.takes) in
    halt_leads g.T.Script.Before g.T.Script.rules leads (g.T.Script.state c.args.script.now) octets
    (g.T.Script.state c.lines.script) (g.T.Script.state c.turn.new.self) c.lines.number c.lines.used
    c.as_slice-text.result.now _ _ _ _ (c.lines.invariant.5 octets told) took c.in-Err.ensures.leads
