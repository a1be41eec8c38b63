use Rattle.dz_take.proofs.TakingLemmas.{ends_so, all_used}
use Rattle.dz_take.proofs.taking.Taking.finish.Goals as goal

pub new-requires-clause-outcome : goal.new-requires-clause-outcome
new-requires-clause-outcome c =
    let t = c.self.inside in
    rw c.from_vec.ensures (ends_so t.transfer t.octets.items t.state c.self.invariant c.outcome_of-outcome.result
    c.outcome_of-outcome.ensures)

pub new-requires-clause-used : goal.new-requires-clause-used
new-requires-clause-used c =
    let t = c.self.inside in
    rw c.from_vec.ensures (all_used t.transfer t.octets.items t.state c.self.invariant)
