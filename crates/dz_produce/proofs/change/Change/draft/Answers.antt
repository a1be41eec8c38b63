use Rattle.std.proofs.Common.{◌∙◌}
use Rattle.std.specs.BTreeSet.{contains}
use Rattle.dz_name.specs.Name.{label_order}
use Rattle.dz_produce.proofs.ChangeLemmas.{stays_kept}
use Rattle.dz_produce.proofs.change.Change.draft.Goals as goal

pub returns-clause-draft : goal.returns-clause-draft
returns-clause-draft c =
    let nodes = c.nodes.ensures.nodes ∙ c.self.invariant.lists in
    let kept = stays_kept c.self.inside.version c.self.inside.dropped.items
    (contains label_order c.self.inside.left) c.nodes.result.now nodes c.self.invariant.stays in
    rw (← c.self.view_is, ← kept) c.in_ok-put_left.ensures.draft
