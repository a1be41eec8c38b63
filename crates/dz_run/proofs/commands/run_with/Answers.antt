-- The number of zones that was read is the one that the words say.
use Rattle.std.proofs.Common.{◌≡◌, subst, sym}
use mathlib.Core.List.{IsPrefix}
use Rattle.dz_run.specs.Rehearsing.{Rehearses}
use Rattle.dz_run.specs.Running.{list_of_script}
use Rattle.dz_gen.specs.Script.{script}
use Rattle.dz_run.proofs.RehearseLemmas.{number_is}
use Rattle.dz_run.proofs.commands.run_with.Goals as goal

pub returns-in-Ok-Rehearse-clause-rehearses : goal.returns-in-Ok-Rehearse-clause-rehearses
returns-in-Ok-Rehearse-clause-rehearses g c number told =
    let read = rw c.in-Ok-Rehearse.field-0-is at c.in-Ok-Rehearse.ensures in
    subst (λ n. Rehearses n c.rehearse.result.status (g.K.Sink.held c.args.output)
    (g.K.Sink.held c.rehearse.result.output)) (number_is _ _ _ (sym read) told) c.rehearse.ensures.rehearses

pub returns-in-Ok-Rehearse-clause-rehearsed : goal.returns-in-Ok-Rehearse-clause-rehearsed
returns-in-Ok-Rehearse-clause-rehearsed g c number told is =
    let read = rw c.in-Ok-Rehearse.field-0-is at c.in-Ok-Rehearse.ensures in
    subst (λ n. c.rehearse.result.desk.publisher.list ≡ list_of_script (script n)) (number_is _ _ _ (sym read) told)
    (c.rehearse.ensures.published is)

pub returns-in-Ok-Rehearse-clause-begins_rehearsed : goal.returns-in-Ok-Rehearse-clause-begins_rehearsed
returns-in-Ok-Rehearse-clause-begins_rehearsed g c number told =
    let read = rw c.in-Ok-Rehearse.field-0-is at c.in-Ok-Rehearse.ensures in
    subst (λ n. IsPrefix c.rehearse.result.desk.publisher.list (list_of_script (script n)))
    (number_is _ _ _ (sym read) told) c.rehearse.ensures.begins
