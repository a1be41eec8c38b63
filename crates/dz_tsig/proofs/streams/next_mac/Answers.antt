use Rattle.std.proofs.Common.{rules}
use Rattle.dz_tsig.specs.Streams.{next_mac}
use Rattle.dz_tsig.proofs.streams.next_mac.Goals as goal

pub returns : goal.returns
unfolding next_mac
returns c = search rules
