use Rattle.std.proofs.Common.{rules}
use Rattle.dz_store.specs.Payload.{kept_of}
use Rattle.dz_store.proofs.read.kept_of.Goals as goal

pub returns-in_default : goal.returns-in_default
unfolding kept_of
returns-in_default c = search rules

pub returns-in_default-2 : goal.returns-in_default-2
unfolding kept_of
returns-in_default-2 c = search rules

pub returns-then-branch : goal.returns-then-branch
unfolding kept_of
returns-then-branch c = search rules

pub returns-else-branch : goal.returns-else-branch
unfolding kept_of
returns-else-branch c = search rules
