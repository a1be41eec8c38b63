use Rattle.std.proofs.Common.{◌≡◌, ◌∙◌, sym, ap, subst, refl}
use Rattle.dz_fleet.specs.Core.{Core}
use Rattle.dz_fleet.specs.Answers.{IsOffered}
use Rattle.dz_fleet.specs.Weighing.{octets_in}
use Rattle.dz_report.specs.Lines.{verdict_lines}
use Rattle.dz_provision.specs.Log.{settled_lines}
use Rattle.dz_provision.specs.inner.Writing.{log_of}
use Rattle.dz_provision.proofs.LogLemmas.{Joins}
use Rattle.dz_provision.proofs.TakenLemmas.{untaken_list, untaken_joins, settled_lines_of, offered_of}
use Rattle.dz_provision.proofs.HeldLemmas.{Agrees, agrees, still_begun, settled_so}
use Rattle.dz_provision.proofs.provisioner.Provisioner.end_untaken.Goals as goal

pub invariant_of-self : goal.invariant_of-self
invariant_of-self g c =
    let a =
    log_of (g.K.Sink.held c.self.inside.output) (g.K.Sink.faults c.self.inside.output) c.self.inside.log_failed in
    let kept : Agrees c.self.inside.fleet.list c.self.inside.starved.total a =
    record { logged = c.self.invariant.3; cause = c.self.invariant.4 } in
    let before = rw (← c.self.view_is) at c.requires.before in
    let ready = rw (← c.self.view_is) at c.requires.ready in
    let same = ap (λ (x : Core). x.list) c.settle-verdict.ensures.core ∙ untaken_list c.self.inside.fleet c.args.job
    c.args.ready.weighed c.args.ready.weighed.moment ready.fits c.requires.untaken in
    let lines : c.as_slice.result.now ≡ verdict_lines c.args.job.flight.zone c.args.ready.weighed.verdict =
    c.as_slice.ensures.value ∙ ready.lines in
    let joins = subst (λ l. Joins c.self.inside.fleet.list l c.self.inside.fleet.list) (sym lines)
    (untaken_joins c.self.inside.fleet c.args.job (octets_in c.args.ready.weighed.entry) c.args.ready.weighed.verdict
    ready.fits.verdict c.requires.untaken) in
    let ok = agrees c.self.inside.fleet.list c.settle-verdict.new.self.list
    c.as_slice.result.now c.log-logged.result a _ before kept
    (subst (λ l. Joins c.self.inside.fleet.list c.as_slice.result.now l) (sym same) joins) c.log-logged.ensures in (
      same ∙ c.self.invariant.0,
      c.self.invariant.1,
      c.self.invariant.2,
      ok.logged,
      ok.cause,
      still_begun _ _ same c.self.invariant.5,
    )

pub returns-clause-settled : goal.returns-clause-settled
returns-clause-settled g c =
    let before = rw (← c.self.view_is) at c.requires.before in
    let ready = rw (← c.self.view_is) at c.requires.ready in
    let fly = rw (← c.self.view_is) at c.requires.flying in
    let octets = octets_in c.args.ready.weighed.entry in
    let verdict = c.settle-verdict.ensures.verdict ∙ ready.fits.verdict in
    let lines : c.as_slice.result.now ≡ settled_lines c.args.job.flight.zone c.settle-verdict.result =
    c.as_slice.ensures.value
    ∙ (ready.lines ∙ (ap (verdict_lines c.args.job.flight.zone) (sym c.settle-verdict.ensures.verdict)
    ∙ sym (settled_lines_of c.self.inside.fleet c.args.job octets c.settle-verdict.result verdict))) in
    let offered : IsOffered c.self.inside.fleet c.args.job octets c.args.ready.moment
    c.settle-verdict.result c.settle-verdict.new.self = rw (c.settle-verdict.ensures.core, ready.moment)
    (offered_of c.self.inside.fleet c.args.job octets c.args.ready.moment c.settle-verdict.result verdict) in
    rw (← c.self.view_is, c.end.ensures) (settled_so _ _ before refl c.args.job octets c.args.ready.moment
    c.settle-verdict.result c.tell.result c.log-logged.result fly offered (rw lines at c.log-logged.ensures))
