use Rattle.std.proofs.Common.{rules, ℕ}
use Rattle.std.specs.Prelude.{nat_le}
use Rattle.std.proofs.lemmas.Fn.{always_returns_same}
use Rattle.dz_chunks.proofs.RankLemmas.{grown_parted, point_of}
use Rattle.dz_chunks.proofs.ends.ended_upto.Goals as goal

pub returns : goal.returns
returns c =
    point_of c.args.ends.now c.args.place c.partition_point.result (c.partition_point.ensures.partitioned
    (λ (end : ℕ). nat_le end c.args.place) (always_returns_same _ _ _ (λ a r f h. search rules))
    (grown_parted c.args.ends.now c.args.place c.requires))
