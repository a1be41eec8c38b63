use Rattle.dz_chunks.proofs.ChunkLemmas.{seen_partitioned, point_before, point_behind}
use Rattle.dz_chunks.proofs.among.count_before.Goals as goal

pub returns-clause-before : goal.returns-clause-before
returns-clause-before g c =
    point_before g.K.Ord.cmp g.met.K.Ord.total c.args.key.now c.args.chunks.now c.count_of.result c.requires
    c.count_of.ensures.within
    (c.count_of.ensures.point
    (seen_partitioned g.K.Ord.cmp g.met.K.Ord.total c.args.key.now c.args.chunks.now c.requires)).0

pub returns-clause-behind : goal.returns-clause-behind
returns-clause-behind g c =
    point_behind g.K.Ord.cmp g.met.K.Ord.total c.args.key.now c.args.chunks.now c.count_of.result c.requires
    (c.count_of.ensures.point
    (seen_partitioned g.K.Ord.cmp g.met.K.Ord.total c.args.key.now c.args.chunks.now c.requires)).1
