use Rattle.std.proofs.Common.{rules, not, sym, ◌∙◌}
use Rattle.std.proofs.lemmas.Bool.{OnFalse_from}
use Rattle.std.proofs.lemmas.Fn.{always_returns_same}
use Rattle.dz_zone.specs.Valid.{both_are}
use Rattle.dz_catalog.specs.Member.{is_node, is_coo}
use Rattle.dz_catalog.proofs.TwinLemmas.{pairs_walk, none_twin}
use Rattle.dz_catalog.proofs.broken.pointers_twice.Goals as goal

pub returns-clause-member : goal.returns-clause-member
returns-clause-member c =
    let told = pairs_walk c.args.records.now _ c.requires
    (c.is_sorted_by.ensures.cases (λ a b. not (both_are 12 a b))
    (always_returns_same _ _ _ (λ a r f h. search rules))) in
    OnFalse_from _ _ (λ e. none_twin (is_node c.args.apex.now) c.args.records.now (sym told ∙ e))

pub returns-clause-coo : goal.returns-clause-coo
returns-clause-coo c =
    let told = pairs_walk c.args.records.now _ c.requires
    (c.is_sorted_by.ensures.cases (λ a b. not (both_are 12 a b))
    (always_returns_same _ _ _ (λ a r f h. search rules))) in
    OnFalse_from _ _ (λ e. none_twin (is_coo c.args.apex.now) c.args.records.now (sym told ∙ e))
