use Rattle.std.proofs.Common.{rules}
use Rattle.dz_name.specs.Name.{wire_of}
use Rattle.dz_tsig.proofs.sign.algorithm.Goals as goal

pub push_label-requires-clause-room : goal.push_label-requires-clause-room
unfolding wire_of
push_label-requires-clause-room c = search rules
