use Rattle.std.proofs.Common.{arith}
use Rattle.std.proofs.Common.{ap, length}
use Rattle.dz_zonemd.proofs.DigestLemmas.{rrsig_long}
use Rattle.dz_zonemd.proofs.digest.covers_zonemd.Goals as goal

pub number_of_two-requires : goal.number_of_two-requires
number_of_two-requires c =
    omega (arith, rrsig_long c.args.rr.now c.rdata.ensures.valid c.requires, ap length c.rdata.ensures.rdata)
