use Rattle.std.proofs.Common.{arith, ap}
use Rattle.dz_lookup.specs.Found.{meaning}
use Rattle.dz_reply.proofs.EvidenceLemmas.{alone_sets}
use Rattle.dz_reply.proofs.evidence.alone.Goals as goal

pub returns-then-is_own : goal.returns-then-is_own
returns-then-is_own c =
    let is = ap meaning c.in-Here.is in (
      is,
      λ zone. alone_sets zone c.args.chain.now (meaning c.args.last.now) c.args.name.now c.in-Here.records.now
          (omega arith) is (c.is_own.ensures c.if-is_own.true zone),
    )
