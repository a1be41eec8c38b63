use Rattle.std.proofs.Common.{ap, sym, ◌∙◌}
use Rattle.dz_fleet.specs.Core.{Core}
use Rattle.dz_run.proofs.StepLemmas.{said_taken, said_core}
use Rattle.dz_run.proofs.events.Running.say.Goals as goal

pub invariant_of-self : goal.invariant_of-self
invariant_of-self g c =
    let before = rw (← c.self.view_is) at c.requires.«open» in (
      λ still. c.self.invariant.0 before ∙ sym (ap (λ (x : Core). x.flight)
          (said_core c.self.inside.provisioner c.say.new.self c.args.line.now c.say.result c.say.ensures)),
      c.self.invariant.1,
    )

pub returns : goal.returns
returns g c number = rw (← c.self.view_is, c.by_saying.ensures) (said_taken c.self.inside.provisioner c.say.new.self
    c.args.line.now number c.say.result (rw (← c.self.view_is) at c.requires.«open») c.say.ensures)
