use Rattle.dz_chunks.proofs.RankLemmas.{last_none, last_some}
use Rattle.dz_chunks.proofs.ends.last_end.Goals as goal

pub returns-in-None : goal.returns-in-None
returns-in-None g c = last_none c.args.chunks.now (rw c.requires at c.in-None.ensures.value)

pub returns-in-Some : goal.returns-in-Some
returns-in-Some g c =
    last_some c.args.chunks.now c.in-Some.end.now (rw c.requires at c.in-Some.ensures.value)
