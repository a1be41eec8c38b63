use Rattle.std.proofs.Common.{◌≡◌, ◌∙◌, refl, sym, ap, subst, Some, None}
use Rattle.dz_fleet.specs.Core.{Core}
use Rattle.dz_report.specs.Lines.{failure_line}
use Rattle.dz_provision.specs.Log as asides
use Rattle.dz_provision.specs.inner.Writing.{log_of}
use Rattle.dz_provision.proofs.LogLemmas.{Joins, joins_aside}
use Rattle.dz_provision.proofs.TakenLemmas.{failed_list}
use Rattle.dz_provision.proofs.HeldLemmas.{Agrees, agrees, still_begun, unfailed, failed_none, failed_so}
use Rattle.dz_provision.proofs.provisioner.Provisioner.fail.Goals as goal

pub returns-then-self-clause-failed : goal.returns-then-self-clause-failed
returns-then-self-clause-failed g c = rw (← c.self.view_is) (unfailed _ c.if-self.true c.args.job c.args.now)

pub invariant_of-self : goal.invariant_of-self
invariant_of-self g c =
    let a =
    log_of (g.K.Sink.held c.self.inside.output) (g.K.Sink.faults c.self.inside.output) c.self.inside.log_failed in
    let kept : Agrees c.self.inside.fleet.list c.self.inside.starved.total a =
    record { logged = c.self.invariant.3; cause = c.self.invariant.4 } in
    let same = ap (λ (x : Core). x.list) c.fail-failure.ensures.core
    ∙ failed_list c.self.inside.fleet c.args.job c.args.now in
    let lines : c.as_slice.result.now ≡ failure_line c.zone.result.now c.fail-failure.result =
    c.as_slice.ensures ∙ c.failure_line-line.ensures in
    let joins = subst (λ l. Joins c.self.inside.fleet.list l c.self.inside.fleet.list) (sym lines)
    (joins_aside c.self.inside.fleet.list (asides.failed c.zone.result.now c.fail-failure.result) refl) in
    let ok = agrees c.self.inside.fleet.list c.fail-failure.new.self.list
    c.as_slice.result.now c.log-logged.result a _ c.if-self.false kept
    (subst (λ l. Joins c.self.inside.fleet.list c.as_slice.result.now l) (sym same) joins) c.log-logged.ensures in (
      same ∙ c.self.invariant.0,
      c.self.invariant.1,
      c.self.invariant.2,
      ok.logged,
      ok.cause,
      still_begun _ _ same c.self.invariant.5,
    )

pub returns-in-Some-clause-failed : goal.returns-in-Some-clause-failed
returns-in-Some-clause-failed g c =
    rw (← c.self.view_is)
    (failed_none _ c.args.job c.args.now c.in-Some.absent c.if-self.false c.in-Some.ensures.absent
    (λ fly. let none : Some c.in-Some.absent ≡ None = c.in-Some.ensures.none.1 fly in absurd (cc none)))

pub returns-in-None-clause-failed : goal.returns-in-None-clause-failed
returns-in-None-clause-failed g c =
    let lines : c.as_slice.result.now ≡ failure_line c.args.job.flight.zone c.fail-failure.result = c.as_slice.ensures
    ∙ (c.failure_line-line.ensures ∙ ap (λ z. failure_line z c.fail-failure.result) c.zone.ensures) in
    rw (← c.self.view_is, c.end.ensures) (failed_so _ _ c.if-self.false refl c.args.job c.args.now
    c.fail-failure.result c.tell.result c.log-logged.result (c.in-None.ensures.none.0 refl)
    c.fail-failure.ensures.failure c.fail-failure.ensures.core (rw lines at c.log-logged.ensures))

pub returns-then-self-clause-sound : goal.returns-then-self-clause-sound
returns-then-self-clause-sound g c = rw (← c.self.view_is) (λ before. absurd (cc (c.if-self.true, before)))
