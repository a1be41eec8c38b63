use Rattle.std.proofs.Common.{sym, ◌∙◌}
use Rattle.dz_run.proofs.StepLemmas.{heard_flight, heard_open, unheard_taken, heard_then}
use Rattle.dz_run.proofs.events.Running.hear.Goals as goal

pub invariant_of-self : goal.invariant_of-self
invariant_of-self g c =
    let before = rw (← c.self.view_is) at c.requires.«open» in (
      λ still. c.self.invariant.0 before ∙ sym (heard_flight c.self.inside.provisioner c.hear.new.self c.args.peer.now
          c.args.zone.now c.hear.result c.hear.ensures.heard),
      c.self.invariant.1,
    )

pub invariant_of-self-in-Ok : goal.invariant_of-self-in-Ok
invariant_of-self-in-Ok g c =
    let before = rw (← c.self.view_is) at c.requires.«open» in (
      λ still. c.self.invariant.0 before ∙ sym (heard_flight c.self.inside.provisioner c.hear.new.self c.args.peer.now
          c.args.zone.now c.hear.result c.hear.ensures.heard),
      c.self.invariant.1,
    )

pub reply_heard-requires-clause-open : goal.reply_heard-requires-clause-open
reply_heard-requires-clause-open g c = heard_open c.self.inside.provisioner c.hear.new.self c.args.peer.now
    c.args.zone.now (c.in-Ok.heard, c.in-Ok.told) c.in-Ok.ensures.heard

pub returns-in-Err : goal.returns-in-Err
returns-in-Err g c number =
    rw (← c.self.view_is) (unheard_taken c.self.inside.provisioner c.hear.new.self c.args.peer.now c.args.request.now
    c.args.zone.now _ number (rw (← c.self.view_is) at c.requires.«open») c.in-Err.ensures.heard)

pub returns-in-Ok : goal.returns-in-Ok
returns-in-Ok g c number =
    rw (← c.self.view_is) (heard_then c.self.inside.provisioner c.hear.new.self c.reply_heard.new.self c.args.peer.now
    c.args.request.now c.args.zone.now c.in-Ok.heard c.in-Ok.told number c.reply_heard.result c.in-Ok.ensures.heard
    (c.reply_heard.ensures number))
