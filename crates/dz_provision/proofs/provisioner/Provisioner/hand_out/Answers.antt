use Rattle.std.proofs.Common.{◌≡◌, ◌∙◌, refl, sym, subst}
use Rattle.dz_fleet.specs.declared.due.Due.TheVariants as due
use Rattle.dz_fleet.specs.Answers.{IsHanded}
use Rattle.dz_report.specs.Lines.{job_line}
use Rattle.dz_provision.specs.Log as asides
use Rattle.dz_provision.specs.inner.Writing.{log_of}
use Rattle.dz_provision.proofs.LogLemmas.{Joins, joins_aside}
use Rattle.dz_provision.proofs.TakenLemmas.{due_list}
use Rattle.dz_provision.proofs.HeldLemmas.{Agrees, agrees, still_begun, unhanded, handed_so, quiet_so, told_so}
use Rattle.dz_provision.proofs.provisioner.Provisioner.hand_out.Goals as goal

pub returns-then-self-clause-made : goal.returns-then-self-clause-made
returns-then-self-clause-made g c = rw (← c.self.view_is) (unhanded _ c.if-self.true c.args.now _)

pub invariant_of-self : goal.invariant_of-self
invariant_of-self g c =
    let a =
    log_of (g.K.Sink.held c.self.inside.output) (g.K.Sink.faults c.self.inside.output) c.self.inside.log_failed in
    let kept : Agrees c.self.inside.fleet.list c.self.inside.starved.total a =
    record { logged = c.self.invariant.3; cause = c.self.invariant.4 } in
    let same = due_list c.self.inside.fleet c.args.now _ c.due.new.self c.due.ensures.due in
    let lines : c.as_slice.result.now ≡ job_line c.in-Job.job = c.as_slice.ensures ∙ c.job_line-line.ensures in
    let joins = subst (λ l. Joins c.self.inside.fleet.list l c.self.inside.fleet.list) (sym lines)
    (joins_aside c.self.inside.fleet.list (asides.handed c.in-Job.job) refl) in
    let ok = agrees c.self.inside.fleet.list c.due.new.self.list
    c.as_slice.result.now c.log-logged.result a _ c.if-self.false kept
    (subst (λ l. Joins c.self.inside.fleet.list c.as_slice.result.now l) (sym same) joins) c.log-logged.ensures in (
      same ∙ c.self.invariant.0,
      c.self.invariant.1,
      c.self.invariant.2,
      ok.logged,
      ok.cause,
      still_begun _ _ same c.self.invariant.5,
    )

pub returns-in-Job-clause-made : goal.returns-in-Job-clause-made
returns-in-Job-clause-made g c =
    let lines : c.as_slice.result.now ≡ job_line c.in-Job.job = c.as_slice.ensures ∙ c.job_line-line.ensures in
    rw (← c.self.view_is, c.hand.ensures) (handed_so _ _ c.if-self.false refl c.args.now
    (due.Job c.in-Job.job) c.log-logged.result c.in-Job.ensures.due (rw lines at c.log-logged.ensures))

pub returns-in-Idle-clause-made : goal.returns-in-Idle-clause-made
returns-in-Idle-clause-made g c = rw (← c.self.view_is)
    (quiet_so _ _ c.args.now (due.Idle c.in-Idle.quiet) c.if-self.false c.in-Idle.ensures.due refl refl)

pub returns-in-Full-clause-made : goal.returns-in-Full-clause-made
returns-in-Full-clause-made g c = rw (← c.self.view_is)
    (quiet_so _ _ c.args.now (due.Full c.in-Full.quiet) c.if-self.false c.in-Full.ensures.due refl refl)

pub returns-in-OutOfMemory-clause-made : goal.returns-in-OutOfMemory-clause-made
returns-in-OutOfMemory-clause-made g c = rw (← c.self.view_is)
    (quiet_so _ _ c.args.now due.OutOfMemory c.if-self.false c.in-OutOfMemory.ensures.due refl refl)

pub returns-in-Job-clause-flying : goal.returns-in-Job-clause-flying
returns-in-Job-clause-flying g c =
    rw c.hand.ensures (told_so (λ answer. IsHanded answer c.due.new.self) c.log-logged.result
    (due.Job c.in-Job.job) c.in-Job.ensures.flying)
