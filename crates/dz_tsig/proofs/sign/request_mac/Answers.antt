use Rattle.std.proofs.Common.{rules}
use Rattle.dz_tsig.specs.Signing.{request_mac}
use Rattle.dz_tsig.proofs.sign.request_mac.Goals as goal

pub returns : goal.returns
unfolding request_mac
returns c = search rules
