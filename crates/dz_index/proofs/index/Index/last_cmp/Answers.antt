use Rattle.std.proofs.Common.{◌∙◌, ◌-◌, ap}
use Rattle.dz_index.specs.Rows.{Rows, count, key_at, compared}
use Rattle.dz_index.proofs.AddingLemmas.{compared_none, compared_some}
use Rattle.dz_index.proofs.index.Index.last_cmp.Goals as goal

pub returns-then-count-eq0-clause-value : goal.returns-then-count-eq0-clause-value
returns-then-count-eq0-clause-value g c =
    compared_none c.args.self.now c.args.key.now c.len-count.result c.len-count.ensures.count c.if-count-eq0.true

pub returns-clause-value : goal.returns-clause-value
returns-clause-value g c =
    compared_some c.args.self.now c.args.key.now c.len-count.result c.len-count.ensures.count c.if-count-eq0.false
    (rw c.len-count.ensures.count at c.compare.ensures.value
    ∙ ap (λ (r : Rows). compared (key_at r (count c.args.self.now - 1)) c.args.key.now) c.self.view_is)
