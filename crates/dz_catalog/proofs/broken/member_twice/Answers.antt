use Rattle.std.proofs.Common.{rules, not}
use Rattle.std.proofs.lemmas.Fn.{always_returns_same}
use Rattle.dz_catalog.specs.Broken.{twins}
use Rattle.dz_catalog.specs.Member.{is_node}
use Rattle.dz_catalog.proofs.TwinLemmas.{twins_walk}
use Rattle.dz_catalog.proofs.broken.member_twice.Goals as goal

pub returns : goal.returns
returns c =
    twins_walk (is_node c.args.apex.now) c.args.records.now _ c.requires
    (c.is_sorted_by.ensures.cases (λ a b. not (twins (is_node c.args.apex.now) a b))
    (always_returns_same _ _ _ (λ a r f h. search rules)))
