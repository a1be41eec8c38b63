use Rattle.std.proofs.Common.{◌∙◌}
use Rattle.dz_name.proofs.WireLemmas.{is_wire, labels_of-wire}
use Rattle.dz_name.proofs.kept_name.KeptName.of.Goals as goal

pub invariant_of-result : goal.invariant_of-result
invariant_of-result c =
    is_wire c.args.name.now _ c.wire.ensures.name (c.in_ok-from_slice.ensures.ok ∙ c.wire.ensures.wire)

pub returns : goal.returns
returns c = labels_of-wire c.args.name.now _ c.wire.ensures.name (c.in_ok-from_slice.ensures.ok ∙ c.wire.ensures.wire)
