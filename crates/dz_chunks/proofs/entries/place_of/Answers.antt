use Rattle.dz_chunks.proofs.EntryLemmas.{before_from, here_from, entries_partitioned}
use Rattle.dz_chunks.proofs.entries.place_of.Goals as goal

pub returns-clause-before : goal.returns-clause-before
returns-clause-before g c =
    let point = c.count_of.ensures.point
    (entries_partitioned g.K.Ord.cmp g.met.K.Ord.total c.args.key.now c.args.entries.now c.requires) in
    before_from g.K.Ord.cmp g.met.K.Ord.total c.args.key.now c.args.entries.now c.count_of.result
    c.count_of.ensures.within point.0

pub returns-clause-here : goal.returns-clause-here
returns-clause-here g c =
    let point = c.count_of.ensures.point
    (entries_partitioned g.K.Ord.cmp g.met.K.Ord.total c.args.key.now c.args.entries.now c.requires) in
    here_from g.K.Ord.cmp g.met.K.Ord.total c.args.key.now c.args.entries.now c.count_of.result point.1
