use Rattle.std.proofs.Common.{rules}
use Rattle.dz_tsig.specs.Streams.{is_message}
use Rattle.dz_tsig.proofs.streams.is_message.Goals as goal

pub returns : goal.returns
unfolding is_message
returns c = search rules
