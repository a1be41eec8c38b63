use Rattle.std.proofs.Common.{◌∙◌}
use Rattle.dz_name.proofs.WireLemmas.{is_wire, labels_of-wire}
use Rattle.dz_index.proofs.shared.ancestor.Goals as goal

pub of_wire-requires : goal.of_wire-requires
of_wire-requires c = is_wire _ _ c.behind.ensures.name c.behind.ensures.wire

pub returns-clause-rest : goal.returns-clause-rest
returns-clause-rest c = c.of_wire.ensures ∙ labels_of-wire _ _ c.behind.ensures.name c.behind.ensures.wire
