use Rattle.std.proofs.Common.{◌∙◌, drop, arith}
use Rattle.dz_name.proofs.WireLemmas.{is_wire, labels_of-wire}
use Rattle.dz_catalog.proofs.NameLemmas.{parent_is}
use Rattle.dz_catalog.proofs.names.parent.Goals as goal

pub of_wire-requires : goal.of_wire-requires
of_wire-requires c = is_wire (drop 1 c.args.name.now) _ c.behind.ensures.name c.behind.ensures.wire

pub returns-else-is_root : goal.returns-else-is_root
returns-else-is_root c =
    parent_is c.args.name.now c.of_wire.result (omega arith)
    (c.of_wire.ensures
    ∙ labels_of-wire (drop 1 c.args.name.now) c.behind.result.now c.behind.ensures.name c.behind.ensures.wire)
