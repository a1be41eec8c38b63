use Rattle.std.proofs.Common.{arith}
use Rattle.std.proofs.lemmas.Nat.{be_bytes_8}
use Rattle.dz_disk.proofs.scan.number_of.Goals as goal

pub returns : goal.returns
returns c = be_bytes_8 c.args.octets.now c.from_be_bytes.result c.requires
    (λ i. omega (arith, c.type_inv.octets i)) c.from_be_bytes.ensures
