use Rattle.std.proofs.Common.{◌≡◌, sym, ◌∙◌, ap, subst, length}
use Rattle.dz_job.specs.Job.{transfer_for}
use Rattle.dz_take.specs.Outcome.{octets_used}
use Rattle.dz_take.specs.Taken.{Taken}
use Rattle.dz_take.specs.Transfer.{Transfer}
use Rattle.dz_job.specs.Stream.{HasRead}
use Rattle.dz_job.proofs.StreamLemmas.{read_is}
use Rattle.dz_job.proofs.stream.take_stream.Goals as goal

pub returns-clause-frames : goal.returns-clause-frames
returns-clause-frames c =
    let read = subst (λ (t : Transfer). HasRead t c.args.octets.now c.in_ok-finished.finished.octets)
    c.in_ok-taking.ensures.transfer in
    read (subst (λ (t : Taken). HasRead c.in_ok-taking.taking.transfer c.args.octets.now t.octets)
    (sym c.in_ok-finished.ensures.same) c.in_ok-read_frames.ensures.read)

pub returns-clause-read : goal.returns-clause-read
returns-clause-read c =
    let finished = c.in_ok-finished.finished in
    let transfer : finished.transfer ≡ transfer_for c.args.job.now =
    ap (λ (t : Taken). t.transfer) c.in_ok-finished.ensures.same ∙ c.in_ok-read_frames.ensures.transfer
    ∙ c.in_ok-taking.ensures.transfer in
    let used = subst (λ (t : Transfer). octets_used t finished.octets ≡ length finished.octets) transfer
    c.in_ok-finished.ensures.used in
    let read = subst (λ (t : Transfer). HasRead t c.args.octets.now finished.octets) c.in_ok-taking.ensures.transfer
    (subst (λ (t : Taken). HasRead c.in_ok-taking.taking.transfer c.args.octets.now t.octets)
    (sym c.in_ok-finished.ensures.same) c.in_ok-read_frames.ensures.read) in
    read_is (transfer_for c.args.job.now) c.args.octets.now finished.octets read used
