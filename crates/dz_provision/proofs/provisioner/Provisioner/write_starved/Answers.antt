use Rattle.std.proofs.Common.{◌≡◌, ◌∙◌, refl}
use Rattle.dz_job.specs.declared.verdict.Verdict.TheVariants.{OutOfMemory}
use Rattle.dz_report.specs.Lines.{verdict_lines}
use Rattle.dz_provision.specs.inner.Writing.{log_of}
use Rattle.dz_provision.proofs.HeldLemmas.{Agrees, agrees_starved, agrees_unstarved, starves_so, on_err, write_failed}
use Rattle.dz_provision.proofs.provisioner.Provisioner.write_starved.Goals as goal

pub invariant_of-self : goal.invariant_of-self
invariant_of-self g c =
    let a =
    log_of (g.K.Sink.held c.self.inside.output) (g.K.Sink.faults c.self.inside.output) c.self.inside.log_failed in
    let kept : Agrees c.self.inside.fleet.list c.self.inside.starved.total a =
    record { logged = c.self.invariant.3; cause = c.self.invariant.4 } in
    let line : c.as_slice.result.now ≡ verdict_lines c.args.zone.now OutOfMemory =
    c.as_slice.ensures.value ∙ c.starved_line-line.ensures in
    let ok = agrees_unstarved c.self.inside.fleet.list c.args.zone.now c.in_err-log.field-0.0 a _ c.if-self.false kept
    (rw line at c.in_err-log.ensures) in
    (c.self.invariant.0, c.self.invariant.1, c.self.invariant.2, ok.logged, ok.cause, c.self.invariant.5)

pub returns-in_err-log-clause-failed : goal.returns-in_err-log-clause-failed
returns-in_err-log-clause-failed g c =
    on_err c.from_residual.result (write_failed _ c.in_err-log.field-0.0 _ _ c.in_err-log.ensures)

pub invariant_of-self-2 : goal.invariant_of-self-2
invariant_of-self-2 g c =
    let a =
    log_of (g.K.Sink.held c.self.inside.output) (g.K.Sink.faults c.self.inside.output) c.self.inside.log_failed in
    let kept : Agrees c.self.inside.fleet.list c.self.inside.starved.total a =
    record { logged = c.self.invariant.3; cause = c.self.invariant.4 } in
    let line : c.as_slice.result.now ≡ verdict_lines c.args.zone.now OutOfMemory =
    c.as_slice.ensures.value ∙ c.starved_line-line.ensures in
    let ok = agrees_starved c.self.inside.fleet.list c.args.zone.now c.in_ok-log.field-0 a _ c.if-self.false kept
    (rw line at c.in_ok-log.ensures) in (
      c.self.invariant.0,
      c.self.invariant.1,
      c.self.invariant.2,
      rw c.add.ensures.total ok.logged,
      ok.cause,
      c.self.invariant.5,
    )

pub returns-clause-said : goal.returns-clause-said
returns-clause-said g c =
    let line : c.as_slice.result.now ≡ verdict_lines c.args.zone.now OutOfMemory =
    c.as_slice.ensures.value ∙ c.starved_line-line.ensures in
    rw (← c.self.view_is) (starves_so _ _ c.args.zone.now c.in_ok-log.field-0 c.if-self.false refl c.add.ensures.total
    (rw line at c.in_ok-log.ensures))
