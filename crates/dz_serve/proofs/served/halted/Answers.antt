-- The readings come back, and the log is the provisioner's.
use Rattle.std.proofs.Common.{sym}
use Rattle.dz_serve.proofs.EndLemmas.{six_back}
use Rattle.dz_serve.proofs.served.halted.Goals as goal

pub closed-requires-clause-logged : goal.closed-requires-clause-logged
closed-requires-clause-logged g c =
    let p = c.close-parts.ensures in
    rw (p.starved, c.requires.write, sym p.failed) p.logged

pub returns-clause-back : goal.returns-clause-back
returns-clause-back g c =
    rw c.closed.ensures.readings (six_back _ _ _ _ _ _ _ _ c.unseated.ensures c.requires.seated)
