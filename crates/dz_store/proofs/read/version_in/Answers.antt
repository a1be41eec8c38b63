use Rattle.std.proofs.Common.{◌≡◌, Some, None, sym, ap, subst, ◌∙◌}
use Rattle.std.specs.Arc.{arc_value}
use Rattle.dz_take.specs.Taken.{Taken, meaning_of}
use Rattle.dz_store.specs.Payload.{transfer_of, new_version, version_in}
use Rattle.dz_store.specs.inner.Reading.{HasRead}
use Rattle.dz_store.proofs.StreamLemmas.{version_from}
use Rattle.dz_store.proofs.read.version_in.Goals as goal

pub returns-in-New : goal.returns-in-New
returns-in-New c =
    let f = c.in_ok-finished.finished in
    let transfer : f.transfer ≡ transfer_of c.args.zone = ap (λ (t : Taken). t.transfer) c.in_ok-finished.ensures.same
    ∙ c.in_ok-read_frames.ensures.transfer ∙ ap (λ (t : Taken). t.transfer) c.start-taking.ensures.started in
    let read : HasRead f.transfer c.args.octets.now f.octets =
    subst (λ t. HasRead t c.args.octets.now f.octets)
    (sym (ap (λ (t : Taken). t.transfer) c.in_ok-finished.ensures.same ∙ c.in_ok-read_frames.ensures.transfer))
    (subst (λ (t : Taken). HasRead c.start-taking.result.transfer c.args.octets.now t.octets)
    (sym c.in_ok-finished.ensures.same) c.in_ok-read_frames.ensures.read) in
    let from = version_from c.args.zone c.args.octets.now f.octets f.transfer
    (meaning_of c.outcome.result.now) transfer read c.outcome.ensures in
    ap (λ z. Some z) c.in_ok-try_clone-in-New.ensures ∙ ap (λ o. new_version (meaning_of o)) (sym c.in-New.is) ∙ from

pub returns-in-UpToDate : goal.returns-in-UpToDate
returns-in-UpToDate c =
    let f = c.in_ok-finished.finished in
    let transfer : f.transfer ≡ transfer_of c.args.zone = ap (λ (t : Taken). t.transfer) c.in_ok-finished.ensures.same
    ∙ c.in_ok-read_frames.ensures.transfer ∙ ap (λ (t : Taken). t.transfer) c.start-taking.ensures.started in
    let read : HasRead f.transfer c.args.octets.now f.octets =
    subst (λ t. HasRead t c.args.octets.now f.octets)
    (sym (ap (λ (t : Taken). t.transfer) c.in_ok-finished.ensures.same ∙ c.in_ok-read_frames.ensures.transfer))
    (subst (λ (t : Taken). HasRead c.start-taking.result.transfer c.args.octets.now t.octets)
    (sym c.in_ok-finished.ensures.same) c.in_ok-read_frames.ensures.read) in
    let from = version_from c.args.zone c.args.octets.now f.octets f.transfer
    (meaning_of c.outcome.result.now) transfer read c.outcome.ensures in
    ap (λ o. new_version (meaning_of o)) (sym c.in-UpToDate.is) ∙ from

pub returns : goal.returns
returns c =
    let f = c.in_ok-finished.finished in
    let transfer : f.transfer ≡ transfer_of c.args.zone = ap (λ (t : Taken). t.transfer) c.in_ok-finished.ensures.same
    ∙ c.in_ok-read_frames.ensures.transfer ∙ ap (λ (t : Taken). t.transfer) c.start-taking.ensures.started in
    let read : HasRead f.transfer c.args.octets.now f.octets =
    subst (λ t. HasRead t c.args.octets.now f.octets)
    (sym (ap (λ (t : Taken). t.transfer) c.in_ok-finished.ensures.same ∙ c.in_ok-read_frames.ensures.transfer))
    (subst (λ (t : Taken). HasRead c.start-taking.result.transfer c.args.octets.now t.octets)
    (sym c.in_ok-finished.ensures.same) c.in_ok-read_frames.ensures.read) in
    let from = version_from c.args.zone c.args.octets.now f.octets f.transfer
    (meaning_of c.outcome.result.now) transfer read c.outcome.ensures in
    ap (λ o. new_version (meaning_of o)) (sym c.in-Refused.is) ∙ from
