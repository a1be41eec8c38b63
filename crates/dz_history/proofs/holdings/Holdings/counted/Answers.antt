use Rattle.dz_history.proofs.StateLemmas.{counted_is}
use Rattle.dz_history.proofs.holdings.Holdings.counted.Goals as goal

pub returns : goal.returns
returns c = rw (← c.self.view_is) (counted_is _)
