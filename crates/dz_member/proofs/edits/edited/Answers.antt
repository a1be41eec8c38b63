use Rattle.std.proofs.Common.{sym, ◌∙◌, ap}
use Rattle.dz_member.specs.Edit.{edited_at}
use Rattle.dz_member.proofs.EditedLemmas.{edited_more}
use Rattle.dz_member.proofs.edits.edited.Goals as goal

pub edits-preserved : goal.edits-preserved
edits-preserved c =
    c.in_ok-edited-2.ensures.ok ∙ (c.in_ok-next.ensures ∙ (ap (λ ns. edited_at ns c.in-Some.edit) (c.deref.ensures ∙ c.edits.invariant)
    ∙ sym (edited_more c.args.nodes.now.value c.edits.yielded c.in-Some.edit)))
