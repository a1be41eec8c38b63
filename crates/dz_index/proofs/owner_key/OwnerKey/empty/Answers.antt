use Rattle.std.proofs.Common.{arith}
use Rattle.dz_index.proofs.OwnerKeyLemmas.{key_root}
use Rattle.dz_index.proofs.owner_key.OwnerKey.empty.Goals as goal

pub invariant_of-result : goal.invariant_of-result
invariant_of-result c = record {
  key = key_root c.root.result c.root.ensures;
  front_in = omega arith;
  within = omega arith;
}
