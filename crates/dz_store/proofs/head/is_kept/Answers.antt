use Rattle.std.proofs.Common.{arith}
use Rattle.dz_store.proofs.PayloadLemmas.{nothing_read, kept_by_first}
use Rattle.dz_store.proofs.head.is_kept.Goals as goal

pub returns-in-empty : goal.returns-in-empty
returns-in-empty c = absurd (nothing_read c.args.payload.now c.requires (omega arith))

pub returns-in-len1-up : goal.returns-in-len1-up
returns-in-len1-up c = kept_by_first c.args.payload.now c.requires
