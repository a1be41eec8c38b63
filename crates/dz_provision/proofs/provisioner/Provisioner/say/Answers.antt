use Rattle.std.proofs.Common.{refl, sym, subst}
use Rattle.dz_provision.specs.inner.Writing.{log_of}
use Rattle.dz_provision.proofs.LogLemmas.{Joins, joins_aside, remark_wants}
use Rattle.dz_provision.proofs.HeldLemmas.{Agrees, agrees, unsaid, said_so}
use Rattle.dz_provision.proofs.provisioner.Provisioner.say.Goals as goal

pub returns-then-self : goal.returns-then-self
returns-then-self g c = rw (← c.self.view_is) (unsaid _ c.if-self.true c.args.line.now _)

pub invariant_of-self : goal.invariant_of-self
invariant_of-self g c =
    let a =
    log_of (g.K.Sink.held c.self.inside.output) (g.K.Sink.faults c.self.inside.output) c.self.inside.log_failed in
    let kept : Agrees c.self.inside.fleet.list c.self.inside.starved.total a =
    record { logged = c.self.invariant.3; cause = c.self.invariant.4 } in
    let joins = subst (λ l. Joins c.self.inside.fleet.list l c.self.inside.fleet.list) (sym c.requires.2)
    (joins_aside c.self.inside.fleet.list c.requires.0 (remark_wants c.requires.0 c.requires.1)) in
    let ok = agrees c.self.inside.fleet.list c.self.inside.fleet.list c.args.line.now c.log.result a _ c.if-self.false
    kept joins c.log.ensures in
    (c.self.invariant.0, c.self.invariant.1, c.self.invariant.2, ok.logged, ok.cause, c.self.invariant.5)

pub returns : goal.returns
returns g c = rw (← c.self.view_is) (said_so _ _ c.if-self.false refl c.args.line.now c.log.result refl c.log.ensures)
