use Rattle.std.proofs.Common.{sym, ap, ◌∙◌, map-id}
use Rattle.std.specs.Prelude.{fold}
use Rattle.std.proofs.lemmas.Iterator.Consumers.{YieldsList-end, YieldsList-from_first}
use Rattle.dz_history.specs.inner.Changed.{after_change}
use Rattle.dz_history.proofs.table_changed.table_changed.Goals as goal

pub returns : goal.returns
returns c =
    let end = YieldsList-end (YieldsList-from_first (λ change. change) (λ left. left) c.args.changes.now
    (c.into_iter-change-iterator.ensures.into_iter_gives ∙ c.iter-change-items.ensures))
    c.changes.yielded _ c.changes.yielded_by _ _ c.in-None.is c.next.ensures.steps in
    c.changes.invariant
    ∙ ap (fold after_change c.args.before.now.value) (sym (map-id c.changes.yielded) ∙ end.0)
