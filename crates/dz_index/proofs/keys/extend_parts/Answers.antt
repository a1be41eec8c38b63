use Rattle.std.proofs.Common.{length}
use Rattle.dz_index.proofs.PartLemmas.{movable}
use Rattle.dz_index.proofs.keys.extend_parts.Goals as goal

pub extend_moved-requires : goal.extend_moved-requires
extend_moved-requires c = rw (c.len-before.ensures, c.args.octets.now.ok.0)
    (movable c.args.others.now c.args.theirs.now (length c.args.octets.now.items) c.requires.bounds c.requires.room)
