use Rattle.std.proofs.Common.{length, ap, ◌∙◌, Ok}
use Rattle.dz_history.specs.State.{held_at}
use Rattle.dz_history.specs.After.{after}
use Rattle.dz_fleet.specs.Core.{Core}
use Rattle.dz_provision.proofs.HandedLemmas.{handed_now}
use Rattle.dz_tests.proofs.OpenedLemmas.{nothing_held}
use Rattle.dz_tests.proofs.provision.first_job.Goals as goal

pub returns : goal.returns
returns g c =
    let job = c.in-Ok-Job.job in
    let is = c.requires.1 in
    let at = (rw c.in-Ok-Job.field-0-is at (handed_now c.args.provisioner.now c.hand_out.new.self 0
    (Ok c.in-Ok-Job.field-0) c.count.ensures.sound c.in-Ok-Job.ensures.made)).0 in (
      at.entries ∙ ap (λ (x : Core). length x.list) is,
      at.held
          ∙ (ap (λ (x : Core). held_at (after x.list) job.flight.zone) is ∙ nothing_held c.requires.0 job.flight.zone),
    )
