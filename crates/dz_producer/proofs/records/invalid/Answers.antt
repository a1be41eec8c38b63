use Rattle.std.proofs.Common.{refl}
use Rattle.dz_name.specs.Name.{wire_of}
use Rattle.dz_producer.proofs.records.invalid.Goals as goal

pub returns : goal.returns
unfolding wire_of
returns c = refl
