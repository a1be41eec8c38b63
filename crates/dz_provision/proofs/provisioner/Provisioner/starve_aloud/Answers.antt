use Rattle.dz_provision.proofs.SettledLemmas.{failed_at}
use Rattle.dz_provision.proofs.AloudLemmas.{stale_aloud, failed_starved, counted_failed}
use Rattle.dz_provision.proofs.provisioner.Provisioner.starve_aloud.Goals as goal

pub returns-in-Ok-Failed-clause-failed : goal.returns-in-Ok-Failed-clause-failed
returns-in-Ok-Failed-clause-failed g c =
    failed_at c.say_starved.result c.in-Ok-Failed.field-0 c.args.job _ _ c.in-Ok-Failed.field-0-is
    c.in-Ok-Failed.ensures.failed c.say_starved.ensures.answer

pub returns-in-Ok-Failed-clause-made : goal.returns-in-Ok-Failed-clause-made
returns-in-Ok-Failed-clause-made g c =
    failed_starved _ _ _ c.args.job c.args.now c.in-Ok-Failed.field-0 c.say_starved.result c.in-Ok-Failed.field-0-is
    c.in-Ok-Failed.ensures.made c.say_starved.ensures.answer (rw c.zone.ensures at c.say_starved.ensures.said)

pub returns-in-Ok-Stale-clause-failed : goal.returns-in-Ok-Stale-clause-failed
returns-in-Ok-Stale-clause-failed g c = rw c.in-Ok-Stale.field-0-is at c.in-Ok-Stale.ensures.failed

pub returns-in-Ok-Stale-clause-made : goal.returns-in-Ok-Stale-clause-made
returns-in-Ok-Stale-clause-made g c =
    stale_aloud _ _ c.args.job c.args.now c.in-Ok-Stale.field-0 _ c.in-Ok-Stale.field-0-is c.in-Ok-Stale.ensures.made

pub returns-in-Ok-Failed-clause-counted : goal.returns-in-Ok-Failed-clause-counted
returns-in-Ok-Failed-clause-counted g c =
    counted_failed c.say_starved.result c.args.job c.args.now _ _ c.say_starved.ensures.answer
    c.say_starved.ensures.counted
