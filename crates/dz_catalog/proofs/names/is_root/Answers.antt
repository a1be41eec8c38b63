use Rattle.std.proofs.Common.{ap, length}
use Rattle.dz_catalog.proofs.NameLemmas.{root_tells}
use Rattle.dz_catalog.proofs.names.is_root.Goals as goal

pub returns : goal.returns
returns c = root_tells c.args.name.now _ (ap length c.wire.ensures.wire)
