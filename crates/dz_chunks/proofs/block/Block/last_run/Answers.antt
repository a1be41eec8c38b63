use Rattle.std.proofs.Common.{arith, ap, length}
use Rattle.dz_chunks.proofs.UptoLemmas.{upto_first, some_upto}
use Rattle.dz_chunks.proofs.block.Block.last_run.Goals as goal

pub marks-init : goal.marks-init
marks-init g c =
    let some = some_upto g.K.Ord.cmp g.met.K.Ord.total c.args.key.now c.args.self.now c.requires.upto in (
      omega (arith, some, ap length c.entries-end.ensures),
      omega arith,
      omega arith,
      upto_first g.K.Ord.cmp g.met.K.Ord.total c.args.key.now c.args.self.now c.requires.upto,
      λ lt. absurd (omega (arith, lt)),
      omega arith,
    )
