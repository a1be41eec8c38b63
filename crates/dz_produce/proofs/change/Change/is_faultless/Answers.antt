use Rattle.dz_produce.proofs.ChangeLemmas.{sure}
use Rattle.dz_produce.proofs.change.Change.is_faultless.Goals as goal

pub returns-then-self-le-SURE-clause-good : goal.returns-then-self-le-SURE-clause-good
returns-then-self-le-SURE-clause-good c =
    let newer = rw (← c.self.view_is) at c.requires.newer in
    let labels = rw (← c.self.view_is) at c.requires.labels in
    rw (← c.self.view_is) (sure c.self.inside.version c.args.serial c.self.inside.octets c.self.inside.dropped.items
    c.self.invariant.known c.self.invariant.octets c.if-self-le-SURE.true newer labels)
