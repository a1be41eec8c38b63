use Rattle.std.proofs.Common.{ap, arith, length}
use Rattle.dz_index.proofs.PartLemmas.{parts_length}
use Rattle.dz_index.proofs.keys.Keys.len.Goals as goal

pub returns : goal.returns
returns c =
    let long = parts_length c.self.inside.octets.items c.self.inside.bounds.items c.self.invariant.some in
    omega (arith, long, ap length c.self.view_is, c.len.ensures)
