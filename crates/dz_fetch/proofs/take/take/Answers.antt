-- What was read is the job's transfer.
use Rattle.std.proofs.Common.{◌≡◌, sym, ap, ◌∙◌, subst, length}
use Rattle.dz_job.specs.Job.{transfer_for}
use Rattle.dz_take.specs.Outcome.{octets_used}
use Rattle.dz_take.specs.Taken.{Taken}
use Rattle.dz_take.specs.Transfer.{Transfer}
use Rattle.dz_fetch.specs.inner.Frames.{HasTaken}
use Rattle.dz_fetch.proofs.TakingLemmas.{taken_is}
use Rattle.dz_fetch.proofs.take.take.Goals as goal

pub returns-in-Ok-finish_taking-clause-taken : goal.returns-in-Ok-finish_taking-clause-taken
returns-in-Ok-finish_taking-clause-taken g c =
    let finished = c.in-Ok-finish_taking.finished in
    let same : finished ≡ c.read_messages.new.taking = c.in-Ok-finish_taking.ensures.same in
    let transfer : finished.transfer ≡ transfer_for c.args.job.now =
    ap (λ (t : Taken). t.transfer) same ∙ c.in_ok-read_messages.ensures.transfer ∙ c.in-Ok.ensures.transfer in
    let used = subst (λ (t : Transfer). octets_used t finished.octets ≡ length finished.octets) transfer
    c.in-Ok-finish_taking.ensures.used in
    let before = g.S.Source.given c.args.source.now in
    let after = g.S.Source.given c.read_messages.new.source in
    let left = g.S.Source.left c.read_messages.new.source in
    let read = subst (λ (t : Transfer). HasTaken t finished.octets before after left) c.in-Ok.ensures.transfer
    (subst (λ (t : Taken). HasTaken c.in-Ok.taking.transfer t.octets before after left)
    (sym same) c.in_ok-read_messages.ensures.read) in
    taken_is c.args.job.now finished before after left transfer read used
