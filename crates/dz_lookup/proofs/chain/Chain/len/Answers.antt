use Rattle.std.proofs.Common.{arith, ap, length}
use Rattle.dz_lookup.proofs.LinkLemmas.{length_pairs}
use Rattle.dz_lookup.proofs.chain.Chain.len.Goals as goal

pub returns-clause-value : goal.returns-clause-value
returns-clause-value c = omega
    (arith, ap length c.self.view_is, length_pairs c.self.inside.first c.self.inside.records.items, c.len.ensures)
