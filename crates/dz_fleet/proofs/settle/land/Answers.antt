use Rattle.std.proofs.Common.{rules, not, ◌==◌}
use Rattle.std.proofs.lemmas.Fn.{filter_same}
use Rattle.dz_fleet.proofs.settle.land.Goals as goal

pub returns : goal.returns
returns c = filter_same _ (λ f. not (f.flight.ticket == c.args.ticket)) _
    (λ x b w k. search rules) _ _ c.retain.ensures.filtered
