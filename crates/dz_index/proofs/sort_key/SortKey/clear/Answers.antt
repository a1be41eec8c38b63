use Rattle.std.proofs.Common.{arith}
use Rattle.std.proofs.lemmas.List.{drop_all}
use Rattle.dz_index.proofs.sort_key.SortKey.clear.Goals as goal

pub returns : goal.returns
returns c = drop_all 512 c.self.inside.octets (omega (arith, c.self.ranges))
