use Rattle.std.proofs.Common.{◌∙◌, ap}
use Rattle.dz_history.specs.State.{State}
use Rattle.dz_history.proofs.ListLemmas.{count_is}
use Rattle.dz_fleet.proofs.fleet.Fleet.count.Goals as goal

pub returns-clause-count : goal.returns-clause-count
returns-clause-count c =
    let k = c.self.invariant.0 in
    rw (← c.self.view_is)
    (c.count.ensures ∙ (ap (λ (s : State). s.count) k.after ∙ count_is c.self.inside.history k.sound.legal))
