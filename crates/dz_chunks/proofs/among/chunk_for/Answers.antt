use Rattle.std.proofs.Common.{arith}
use Rattle.dz_chunks.proofs.ChunkLemmas.{before_fewer}
use Rattle.dz_chunks.proofs.among.chunk_for.Goals as goal

pub returns-else-at-chunks-clause-before : goal.returns-else-at-chunks-clause-before
returns-else-at-chunks-clause-before g c =
    before_fewer g.K.Ord.cmp g.met.K.Ord.total c.args.key.now c.args.chunks.now c.count_before-at.result _
    (omega (arith, c.if-at-chunks.false)) c.count_before-at.ensures.before
