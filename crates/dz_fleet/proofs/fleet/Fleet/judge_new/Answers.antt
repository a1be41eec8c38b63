use Rattle.std.proofs.Common.{sym, ◌∙◌, ap}
use Rattle.dz_history.specs.State.{State}
use Rattle.dz_history.specs.After.{aftermath_of}
use Rattle.dz_history.proofs.ListLemmas.{count_is}
use Rattle.dz_fleet.specs.Core.{state_of}
use Rattle.dz_fleet.proofs.TakeLemmas.{verdict_new, verdict_policy}
use Rattle.dz_fleet.proofs.SettleLemmas.{serial_new}
use Rattle.dz_fleet.proofs.fleet.Fleet.judge_new.Goals as goal

pub returns-then-not-approves-clause-verdict : goal.returns-then-not-approves-clause-verdict
returns-then-not-approves-clause-verdict c =
    let new = rw c.requires.transfer at c.requires.new in
    let answer = sym c.approves.ensures ∙ c.if-not-approves.true in
    let a = rw c.zone.ensures at answer in
    rw c.standing_of-standing.ensures (sym (verdict_policy c.args.self.now c.args.job.now c.args.finished.now.octets
    c.args.version.now c.requires.signed new c.requires.standing a))

pub returns-clause-verdict : goal.returns-clause-verdict
returns-clause-verdict c =
    let k = c.self.invariant.0 in
    let i = c.self.inside in
    let zone = c.args.job.now.flight.zone in
    let new = rw c.requires.transfer at c.requires.new in
    let answer = sym c.approves.ensures ∙ c.if-not-approves.false in
    let a = rw c.zone.ensures at answer in
    let count = c.count.ensures ∙ (ap (λ (s : State). s.count) k.after ∙ count_is i.history k.sound.legal) in
    let serial = serial_new c.args.version.now c.soa.result c.soa.ensures in
    let aftermath =
    c.in_ok-aftermath.ensures.aftermath ∙ ap (aftermath_of (state_of c.args.self.now) zone) c.requires.new in
    let v = verdict_new c.args.self.now c.args.job.now c.args.finished.now.octets c.args.version.now c.requires.signed
    new c.requires.standing a in
    rw (count, serial, aftermath, ← c.self.view_is) (sym (rw (← c.self.view_is) at v))
