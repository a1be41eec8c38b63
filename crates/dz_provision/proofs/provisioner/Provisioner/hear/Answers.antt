use Rattle.std.proofs.Common.{◌≡◌, ◌∙◌, sym, ap, subst, refl}
use Rattle.dz_fleet.specs.Core.{Core}
use Rattle.dz_report.specs.Lines.{notify_line}
use Rattle.dz_provision.specs.Log as asides
use Rattle.dz_provision.specs.inner.Writing.{log_of}
use Rattle.dz_provision.proofs.LogLemmas.{Joins, joins_aside}
use Rattle.dz_provision.proofs.TakenLemmas.{notified_list}
use Rattle.dz_provision.proofs.HeldLemmas.{Agrees, agrees, still_begun, unheard, heard_so, risen_so}
use Rattle.dz_provision.proofs.provisioner.Provisioner.hear.Goals as goal

pub returns-then-self-clause-heard : goal.returns-then-self-clause-heard
returns-then-self-clause-heard g c = rw (← c.self.view_is) (unheard _ c.if-self.true c.args.peer.now c.args.zone.now _)

pub invariant_of-self : goal.invariant_of-self
invariant_of-self g c =
    let a =
    log_of (g.K.Sink.held c.self.inside.output) (g.K.Sink.faults c.self.inside.output) c.self.inside.log_failed in
    let kept : Agrees c.self.inside.fleet.list c.self.inside.starved.total a =
    record { logged = c.self.invariant.3; cause = c.self.invariant.4 } in
    let same = ap (λ (x : Core). x.list) c.notify-heard.ensures.core
    ∙ notified_list c.self.inside.fleet c.args.zone.now c.notify-heard.result in
    let lines : c.as_slice.result.now ≡ notify_line c.args.zone.now c.notify-heard.result =
    c.as_slice.ensures ∙ c.notify_line-line.ensures in
    let joins = subst (λ l. Joins c.self.inside.fleet.list l c.self.inside.fleet.list) (sym lines)
    (joins_aside c.self.inside.fleet.list (asides.heard c.args.zone.now c.notify-heard.result) refl) in
    let ok = agrees c.self.inside.fleet.list c.notify-heard.new.self.list
    c.as_slice.result.now c.log-logged.result a _ c.if-self.false kept
    (subst (λ l. Joins c.self.inside.fleet.list c.as_slice.result.now l) (sym same) joins) c.log-logged.ensures in (
      same ∙ c.self.invariant.0,
      c.self.invariant.1,
      c.self.invariant.2,
      ok.logged,
      ok.cause,
      still_begun _ _ same c.self.invariant.5,
    )

pub returns-clause-heard : goal.returns-clause-heard
returns-clause-heard g c =
    let lines : c.as_slice.result.now ≡ notify_line c.args.zone.now c.notify-heard.result =
    c.as_slice.ensures ∙ c.notify_line-line.ensures in
    rw (← c.self.view_is, c.answer.ensures) (heard_so _ _ c.if-self.false refl c.args.peer.now c.args.zone.now
    c.notify-heard.result c.tell.result c.log-logged.result c.notify-heard.ensures.heard
    c.notify-heard.ensures.core (rw lines at c.log-logged.ensures))

pub returns-clause-cause : goal.returns-clause-cause
returns-clause-cause g c =
    let a =
    log_of (g.K.Sink.held c.self.inside.output) (g.K.Sink.faults c.self.inside.output) c.self.inside.log_failed in
    λ err. (
      c.log-logged.new.output,
      risen_so c.as_slice.result.now c.log-logged.result a _ (
        c.notify-heard.result,
        c.tell.result,
      ) c.if-self.false c.self.invariant.4 c.log-logged.ensures (rw c.answer.ensures at err),
    )
