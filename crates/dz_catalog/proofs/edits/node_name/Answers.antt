use Rattle.std.proofs.Common.{refl}
use Rattle.dz_catalog.specs.Member.{zones_of}
use Rattle.dz_catalog.proofs.ReadLemmas.{no_child, longer}
use Rattle.dz_catalog.proofs.edits.node_name.Goals as goal

pub returns-in-None : goal.returns-in-None
returns-in-None c = longer (zones_of c.args.apex.now) c.args.label.now c.in-None.ensures

pub returns-in-Err : goal.returns-in-Err
returns-in-Err c =
    rw c.in-Some.ensures at
    (no_child c.in-Some.zones c.args.label.now c.args.label.now c.in-Err.field-0 refl c.in-Err.ensures)
