use Rattle.std.proofs.Common.{rules}
use Rattle.dz_tsig.specs.Signature.{tsig_at}
use Rattle.dz_tsig.proofs.tsig.tsig_at.Goals as goal

pub returns-then-not-head-clause-value : goal.returns-then-not-head-clause-value
unfolding tsig_at
returns-then-not-head-clause-value c = search rules

pub returns-in-Err-clause-value : goal.returns-in-Err-clause-value
unfolding tsig_at
returns-in-Err-clause-value c = search rules

pub returns-in-Ok-read_at-clause-value : goal.returns-in-Ok-read_at-clause-value
unfolding tsig_at
returns-in-Ok-read_at-clause-value c = search rules

pub returns-in-Err-read_at-clause-value : goal.returns-in-Err-read_at-clause-value
unfolding tsig_at
returns-in-Err-read_at-clause-value c = search rules
