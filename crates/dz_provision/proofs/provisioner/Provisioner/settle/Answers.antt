use Rattle.std.proofs.Common.{◌≡◌, ◌∙◌, refl, sym, ap, Some, None}
use Rattle.dz_provision.specs.Held.{Held}
use Rattle.dz_provision.proofs.HeldLemmas.{unsettled, settled_none, starved_so, always_ok}
use Rattle.dz_provision.proofs.provisioner.Provisioner.settle.Goals as goal

pub returns-then-self-clause-settled : goal.returns-then-self-clause-settled
returns-then-self-clause-settled g c = rw (← c.self.view_is) (unsettled _ c.if-self.true c.args.job _ c.args.now)

pub returns-in-Some-clause-settled : goal.returns-in-Some-clause-settled
returns-in-Some-clause-settled g c =
    rw (← c.self.view_is)
    (settled_none _ c.args.job c.args.now c.in-Some.absent c.if-self.false c.in-Some.ensures.absent
    (λ fly. let none : Some c.in-Some.absent ≡ None = c.in-Some.ensures.none.1 fly in absurd (cc none)) _)

pub returns-in-Err-clause-settled : goal.returns-in-Err-clause-settled
returns-in-Err-clause-settled g c =
    starved_so c.args.self.now c.starve.new.self c.args.job _ c.args.now c.starve.result.0 c.starve.result.1
    (ap (λ (h : Held). h.failed) (sym c.self.view_is) ∙ c.if-self.false)
    (rw (← c.self.view_is) (c.in-None.ensures.none.0 refl)) c.starve.ensures.settled

pub returns-in-Err-clause-used : goal.returns-in-Err-clause-used
returns-in-Err-clause-used g c = λ some. absurd (some c.starve.ensures.settled.verdict)

pub returns-in-Ok-clause-used : goal.returns-in-Ok-clause-used
returns-in-Ok-clause-used g c =
    always_ok _ c.end_weighed.result (λ r some. rw c.in-Ok.ensures.entry at c.in-Ok.ensures.ready.fits.used)

pub returns-then-self-clause-sound : goal.returns-then-self-clause-sound
returns-then-self-clause-sound g c = rw (← c.self.view_is) (λ before. absurd (cc (c.if-self.true, before)))
