use Rattle.std.proofs.Common.{arith}
use Rattle.dz_reply.proofs.GlueLemmas.{length-shown}
use Rattle.dz_reply.proofs.glue.count_one.Goals as goal

pub returns-clause-value : goal.returns-clause-value
returns-clause-value c = rw (length-shown c.args.addresses.now) (omega arith)
