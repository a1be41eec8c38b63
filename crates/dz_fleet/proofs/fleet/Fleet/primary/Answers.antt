use Rattle.std.proofs.Common.{sym}
use Rattle.dz_fleet.proofs.HandLemmas.{no_primaries}
use Rattle.dz_fleet.proofs.fleet.Fleet.primary.Goals as goal

pub unreachable-requires : goal.unreachable-requires
unreachable-requires c =
    let e = rw c.in-None.is at c.primaries.ensures in
    no_primaries c.self.inside.holdings _ c.args.zone.now c.self.invariant.0.after (sym e)
    (rw (← c.self.view_is) at c.requires.there)
