use Rattle.std.proofs.Common.{sym}
use Rattle.dz_zone.proofs.FaultLemmas.{soa_kind}
use Rattle.dz_zone.proofs.version.Version.soa.Goals as goal

pub unreachable-requires : goal.unreachable-requires
unreachable-requires c =
    soa_kind c.args.self.now.apex c.args.self.now.records _ c.apex_soa.ensures.soa (sym c.in-None.ensures)
