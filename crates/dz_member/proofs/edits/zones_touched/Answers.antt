use Rattle.std.proofs.Common.{map}
use Rattle.std.specs.List.{find}
use Rattle.dz_name.specs.Name.{same_label}
use Rattle.dz_member.specs.declared.edit.Edit.{Edit}
use Rattle.dz_member.specs.declared.listing.Node.{Node}
use Rattle.dz_member.proofs.EditedLemmas.{zones_next}
use Rattle.dz_member.proofs.edits.zones_touched.Goals as goal

pub edits-preserved : goal.edits-preserved
edits-preserved c =
    rw (c.in_ok-push_zone.ensures, c.edits.invariant, c.find.ensures)
    (zones_next (λ (n : Node). n.zone) (λ (e : Edit). find (λ n. same_label n.label e.label) c.args.nodes.now)
    (map (λ n. n.zone) c.args.put.now) c.args.edits.now c.edits.edit-index c.edit-item.result c.edits-test.true c.edit-item.is)
