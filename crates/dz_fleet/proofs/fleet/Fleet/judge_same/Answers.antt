use Rattle.std.proofs.Common.{sym, ◌∙◌, ap, None}
use Rattle.dz_take.specs.Transfer.{up_to_date}
use Rattle.dz_history.specs.State.{State}
use Rattle.dz_history.specs.After.{aftermath_of}
use Rattle.dz_history.proofs.ListLemmas.{count_is}
use Rattle.dz_history.proofs.StateLemmas.{same_alone}
use Rattle.dz_fleet.specs.Core.{state_of}
use Rattle.dz_fleet.specs.inner.Kept.{core_in}
use Rattle.dz_fleet.proofs.TakeLemmas.{verdict_is}
use Rattle.dz_fleet.proofs.fleet.Fleet.judge_same.Goals as goal

pub returns-clause-verdict : goal.returns-clause-verdict
returns-clause-verdict c =
    let k = c.self.invariant.0 in
    let i = c.self.inside in
    let same = rw c.requires.transfer at c.requires.same in
    let none = rw (← c.self.view_is) at c.requires.standing in
    let signed = rw (← c.self.view_is) at c.requires.signed in
    let count = c.count.ensures ∙ (ap (λ (s : State). s.count) k.after ∙ count_is i.history k.sound.legal) in
    let serial = rw c.held.ensures.held at c.serial_of.ensures in
    rw (← c.self.view_is, count, serial) (sym (verdict_is (core_in i.history i.tickets i.flying.items i.schedule)
    c.args.job.now c.args.finished.now.octets None up_to_date None signed same none))

pub returns-clause-made : goal.returns-clause-made
returns-clause-made c =
    let zone = c.args.job.now.flight.zone in
    let a = c.in_ok-renewal.ensures.aftermath ∙ (ap (aftermath_of (state_of c.args.self.now) zone) c.requires.same
    ∙ same_alone (state_of c.args.self.now) zone) in
    let made = rw a at c.in_ok-renewal.ensures.made in
    record { renewed = made.renewed; values = made.values }
