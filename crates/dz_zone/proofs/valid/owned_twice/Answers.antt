use Rattle.std.proofs.Common.{rules, not}
use Rattle.std.proofs.lemmas.Fn.{always_returns_same}
use Rattle.dz_zone.specs.Valid.{both_are}
use Rattle.dz_zone.proofs.FaultLemmas.{twice_walk}
use Rattle.dz_zone.proofs.valid.owned_twice.Goals as goal

pub returns : goal.returns
returns c =
    twice_walk c.args.kind c.args.records.now _ c.requires
    (c.is_sorted_by.ensures.cases (λ a b. not (both_are c.args.kind a b))
    (always_returns_same _ _ _ (λ a r f h. search rules)))
