use Rattle.std.proofs.Common.{◌∙◌, sym, ap}
use Rattle.std.specs.Ordering.{is_lt}
use Rattle.dz_runs.proofs.ParentLemmas.{parent_first}
use Rattle.dz_runs.proofs.runs.precedes.Goals as goal

pub returns-then-is_parent_of : goal.returns-then-is_parent_of
returns-then-is_parent_of c =
    c.if-is_parent_of.true ∙ sym (ap is_lt (parent_first _ _ (c.is_parent_of.ensures.0 c.if-is_parent_of.true)))
