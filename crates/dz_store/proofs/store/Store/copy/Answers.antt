use Rattle.std.proofs.Common.{ap, ◌∙◌}
use Rattle.std.specs.Prelude.{option_and_then}
use Rattle.dz_store.specs.Payload.{kept_of}
use Rattle.dz_store.proofs.store.Store.copy.Goals as goal

pub returns-clause-copied : goal.returns-clause-copied
returns-clause-copied g c = λ f e told empty none.
    let copied = c.in_ok-copy_all.ensures.copied f e (ap (λ s. g.D.Disk.file s.disk) c.self.view_is ∙ told)
    (ap (λ s. g.E.Disk.file s.disk) c.target.view_is ∙ empty) none in
    (copied.0, copied.1, λ zone. ap (λ o. option_and_then kept_of o) (copied.2 zone))
