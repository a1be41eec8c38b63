use Rattle.std.proofs.Common.{sym}
use Rattle.dz_member.specs.declared.edit.Edit.{Edit}
use Rattle.dz_member.proofs.EditedLemmas.{kept_next}
use Rattle.dz_member.proofs.edits.nodes_put.Goals as goal

pub edits-preserved : goal.edits-preserved
edits-preserved c =
    rw (c.in_ok-push_node.ensures, c.edits.invariant)
    (sym (kept_next (λ (e : Edit). e.node) c.args.edits.now c.edits.edit-index c.edit-item.result c.edits-test.true c.edit-item.is))
