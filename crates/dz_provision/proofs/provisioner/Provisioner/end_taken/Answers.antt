use Rattle.std.proofs.Common.{◌≡◌, ◌∙◌, ◌∷◌, ◌++◌, [], rules, sym, ap, refl}
use Rattle.dz_fleet.specs.Core.{Core}
use Rattle.dz_fleet.specs.Answers.{IsOffered}
use Rattle.dz_fleet.specs.Weighing.{octets_in}
use Rattle.dz_report.specs.Lines.{verdict_lines}
use Rattle.dz_provision.specs.Journal.{journal}
use Rattle.dz_provision.specs.Log.{settled_lines}
use Rattle.dz_provision.specs.inner.Writing.{log_of}
use Rattle.dz_provision.proofs.LogLemmas.{joins_listed}
use Rattle.dz_provision.proofs.TakenLemmas.{weighed_legal, weighed_lines, settled_list, settled_lines_of, offered_of}
use Rattle.dz_provision.proofs.HeldLemmas.{Agrees, agrees, begun_with, settled_so, note_so, room}
use Rattle.dz_provision.proofs.provisioner.Provisioner.end_taken.Goals as goal

pub stage-requires-clause-room : goal.stage-requires-clause-room
stage-requires-clause-room g c =
    let sound = rw (← c.self.view_is) at c.requires.sound in
    let fly = rw (← c.self.view_is) at c.requires.flying in
    rw (← c.self.invariant.0) (room c.self.inside.fleet c.args.job sound fly.there)

pub stage-requires-clause-legal : goal.stage-requires-clause-legal
stage-requires-clause-legal g c =
    let sound = rw (← c.self.view_is) at c.requires.sound in
    let fly = rw (← c.self.view_is) at c.requires.flying in
    let ready = rw (← c.self.view_is) at c.requires.ready in
    rw (← c.self.invariant.0, c.requires.entry) (weighed_legal c.self.inside.fleet c.args.job c.args.ready.weighed
    sound fly ready.fits c.requires.taken c.requires.valid)

pub invariant_of-self : goal.invariant_of-self
invariant_of-self g c =
    let a =
    log_of (g.K.Sink.held c.self.inside.output) (g.K.Sink.faults c.self.inside.output) c.self.inside.log_failed in
    let kept : Agrees c.self.inside.fleet.list c.self.inside.starved.total a =
    record { logged = c.self.invariant.3; cause = c.self.invariant.4 } in
    let before = rw (← c.self.view_is) at c.requires.before in
    let sound = rw (← c.self.view_is) at c.requires.sound in
    let fly = rw (← c.self.view_is) at c.requires.flying in
    let ready = rw (← c.self.view_is) at c.requires.ready in
    let w = c.args.ready.weighed in
    let left : c.settle-verdict.new.self.list ≡ c.self.inside.fleet.list ++ w.entry ∷ [] =
    ap (λ (x : Core). x.list) c.settle-verdict.ensures.core
    ∙ settled_list c.self.inside.fleet c.args.job w sound fly ready.fits c.requires.taken w.moment in
    let right : c.self.inside.publisher.list ++ c.args.step.entry ∷ [] ≡ c.publish-told.new.self.list = search rules in
    let lines : c.as_slice.result.now ≡ verdict_lines c.args.job.flight.zone w.verdict =
    c.as_slice.ensures.value ∙ ready.lines in
    let more : journal c.settle-verdict.new.self.list
    ≡ journal c.self.inside.fleet.list ++ c.as_slice.result.now ∷ [] =
    ap journal left ∙ (weighed_lines c.self.inside.fleet c.args.job w sound fly ready.fits c.requires.taken
    ∙ ap (λ l. journal c.self.inside.fleet.list ++ l ∷ []) (sym lines)) in
    let ok = agrees c.self.inside.fleet.list c.settle-verdict.new.self.list c.as_slice.result.now c.log-logged.result a
    _ before kept (joins_listed c.self.inside.fleet.list c.settle-verdict.new.self.list c.as_slice.result.now more)
    c.log-logged.ensures in (
      left ∙ (ap (λ l. l ++ w.entry ∷ []) c.self.invariant.0
          ∙ (ap (λ e. c.self.inside.publisher.list ++ e ∷ []) (sym c.requires.entry) ∙ right)),
      search rules,
      search rules,
      ok.logged,
      ok.cause,
      begun_with _ _ _ left,
    )

pub returns-clause-settled : goal.returns-clause-settled
returns-clause-settled g c =
    let before = rw (← c.self.view_is) at c.requires.before in
    let fly = rw (← c.self.view_is) at c.requires.flying in
    let ready = rw (← c.self.view_is) at c.requires.ready in
    let octets = octets_in c.args.ready.weighed.entry in
    let verdict = c.settle-verdict.ensures.verdict ∙ ready.fits.verdict in
    let lines : c.as_slice.result.now ≡ settled_lines c.args.job.flight.zone c.settle-verdict.result =
    c.as_slice.ensures.value
    ∙ (ready.lines ∙ (ap (verdict_lines c.args.job.flight.zone) (sym c.settle-verdict.ensures.verdict)
    ∙ sym (settled_lines_of c.self.inside.fleet c.args.job octets c.settle-verdict.result verdict))) in
    let offered : IsOffered c.self.inside.fleet c.args.job octets c.args.ready.moment
    c.settle-verdict.result c.settle-verdict.new.self = rw (c.settle-verdict.ensures.core, ready.moment)
    (offered_of c.self.inside.fleet c.args.job octets c.args.ready.moment c.settle-verdict.result verdict) in
    rw (← c.self.view_is, c.end.ensures)
    (settled_so _ _ before refl c.args.job octets c.args.ready.moment c.settle-verdict.result c.publish-told.result
    c.log-logged.result fly offered (rw lines at c.log-logged.ensures))

pub returns-clause-note : goal.returns-clause-note
returns-clause-note g c =
    let sound = rw (← c.self.view_is) at c.requires.sound in
    let fly = rw (← c.self.view_is) at c.requires.flying in
    let ready = rw (← c.self.view_is) at c.requires.ready in
    let w = c.args.ready.weighed in
    let left : c.settle-verdict.new.self.list ≡ c.self.inside.fleet.list ++ w.entry ∷ [] =
    ap (λ (x : Core). x.list) c.settle-verdict.ensures.core
    ∙ settled_list c.self.inside.fleet c.args.job w sound fly ready.fits c.requires.taken w.moment in
    let right : c.self.inside.publisher.list ++ c.args.step.entry ∷ [] ≡ c.publish-told.new.self.list = search rules in
    let same = left ∙ (ap (λ l. l ++ w.entry ∷ []) c.self.invariant.0
    ∙ (ap (λ e. c.self.inside.publisher.list ++ e ∷ []) (sym c.requires.entry) ∙ right)) in
    rw c.end.ensures (note_so g.J.Naming.publisher c.settle-verdict.new.self.list c.log-logged.result
    c.settle-verdict.result c.publish-told.result (search rules) (search rules))
