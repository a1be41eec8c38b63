use Rattle.std.proofs.Common.{List, ap, sym, ◌∙◌, ◌∷◌, ◌++◌, [], refl}
use Rattle.dz_job.specs.Job.{JobOf}
use Rattle.dz_provision.specs.Log as asides
use Rattle.dz_run.proofs.StepLemmas.{unhanded_failed, unhanded_taken, handed_taken, handed_flight, handed_open}
use Rattle.dz_run.proofs.StepLemmas.{idle_flight, full_flight, idle_then, full_then, starving_flight, starving_taken}
use Rattle.dz_run.proofs.StepLemmas.{wanting}
use Rattle.dz_run.proofs.LeadLemmas.{job_leads}
use Rattle.dz_run.proofs.events.Running.hand_out.Goals as goal

pub invariant_of-self-in-Err : goal.invariant_of-self-in-Err
invariant_of-self-in-Err g c =
    let before = rw (← c.self.view_is) at c.requires.«open» in (
      λ still. absurd (unhanded_failed c.self.inside.provisioner c.hand_out.new.self c.args.moment _ before
          c.in-Err.ensures.made still),
      c.self.invariant.1,
    )

pub invariant_of-self-in-Job : goal.invariant_of-self-in-Job
invariant_of-self-in-Job g c =
    let before = rw (← c.self.view_is) at c.requires.«open» in
    let job = rw c.in-Job.is at c.in-Ok.ensures.made in (
      λ still. c.put_job.ensures
          ∙ (ap (λ (js : List JobOf). js ++ c.in-Job.job ∷ []) (c.reserve.ensures.items ∙ c.self.invariant.0 before)
          ∙ sym (handed_flight c.self.inside.provisioner c.hand_out.new.self c.args.moment c.in-Job.job job)),
      c.self.invariant.1,
    )

pub invariant_of-self-in-Idle : goal.invariant_of-self-in-Idle
invariant_of-self-in-Idle g c =
    let before = rw (← c.self.view_is) at c.requires.«open» in
    let idle = rw c.in-Idle.is at c.in-Ok.ensures.made in (
      λ still. c.reserve.ensures.items ∙ (c.self.invariant.0 before
          ∙ sym (idle_flight c.self.inside.provisioner c.hand_out.new.self c.args.moment c.in-Idle.field-0 idle)),
      c.self.invariant.1,
    )

pub invariant_of-self-in-Full : goal.invariant_of-self-in-Full
invariant_of-self-in-Full g c =
    let before = rw (← c.self.view_is) at c.requires.«open» in
    let full = rw c.in-Full.is at c.in-Ok.ensures.made in (
      λ still. c.reserve.ensures.items ∙ (c.self.invariant.0 before
          ∙ sym (full_flight c.self.inside.provisioner c.hand_out.new.self c.args.moment c.in-Full.field-0 full)),
      c.self.invariant.1,
    )

pub invariant_of-self-in-OutOfMemory : goal.invariant_of-self-in-OutOfMemory
invariant_of-self-in-OutOfMemory g c =
    let before = rw (← c.self.view_is) at c.requires.«open» in
    let starving = rw c.in-OutOfMemory.is at c.in-Ok.ensures.made in (
      λ still. c.reserve.ensures.items ∙ (c.self.invariant.0 before
          ∙ sym (starving_flight c.self.inside.provisioner c.hand_out.new.self c.args.moment starving)),
      c.self.invariant.1,
    )

pub returns-then-is_err : goal.returns-then-is_err
returns-then-is_err g c number = rw (← c.self.view_is)
    (wanting c.self.inside.provisioner _ number (job_leads c.self.inside.provisioner.core c.args.moment))

pub say-requires-clause-line : goal.say-requires-clause-line
say-requires-clause-line g c = (asides.idle, tt, refl)

pub say-requires-clause-open : goal.say-requires-clause-open
say-requires-clause-open g c =
    handed_open c.self.inside.provisioner c.hand_out.new.self c.args.moment c.in-Ok.due c.in-Ok.ensures.made

pub say-requires-in-Full-clause-line : goal.say-requires-in-Full-clause-line
say-requires-in-Full-clause-line g c = (asides.full, tt, refl)

pub say-requires-in-Full-clause-open : goal.say-requires-in-Full-clause-open
say-requires-in-Full-clause-open g c =
    handed_open c.self.inside.provisioner c.hand_out.new.self c.args.moment c.in-Ok.due c.in-Ok.ensures.made

pub returns-in-Err : goal.returns-in-Err
returns-in-Err g c number = rw (← c.self.view_is) (unhanded_taken c.self.inside.provisioner c.hand_out.new.self
    c.args.moment _ number (rw (← c.self.view_is) at c.requires.«open») c.in-Err.ensures.made)

pub returns-in-Job : goal.returns-in-Job
returns-in-Job g c number =
    let job = rw c.in-Job.is at c.in-Ok.ensures.made in
    rw (← c.self.view_is)
    (handed_taken c.self.inside.provisioner c.hand_out.new.self c.args.moment c.in-Job.job number job)

pub returns-in-Idle : goal.returns-in-Idle
returns-in-Idle g c number =
    let idle = rw c.in-Idle.is at c.in-Ok.ensures.made in
    rw (← c.self.view_is) (idle_then c.self.inside.provisioner c.hand_out.new.self c.say.new.self c.args.moment number
    c.in-Idle.field-0 c.say.result idle (c.say.ensures number))

pub returns-in-Full : goal.returns-in-Full
returns-in-Full g c number =
    let full = rw c.in-Full.is at c.in-Ok.ensures.made in
    rw (← c.self.view_is) (full_then c.self.inside.provisioner c.hand_out.new.self c.say-in-Full.new.self c.args.moment
    number c.in-Full.field-0 c.say-in-Full.result full (c.say-in-Full.ensures number))

pub returns-in-OutOfMemory : goal.returns-in-OutOfMemory
returns-in-OutOfMemory g c number =
    let starving = rw c.in-OutOfMemory.is at c.in-Ok.ensures.made in
    rw (← c.self.view_is) (starving_taken c.self.inside.provisioner c.hand_out.new.self c.args.moment number starving)
