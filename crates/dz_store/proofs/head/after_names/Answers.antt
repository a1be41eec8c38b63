use Rattle.std.proofs.Common.{rules, arith}
use Rattle.std.proofs.lemmas.Grind.{common_steps}
use Rattle.dz_store.specs.Payload.{after_names}
use Rattle.dz_store.proofs.head.after_names.Goals as goal

pub returns-in-empty : goal.returns-in-empty
unfolding after_names
returns-in-empty c = search rules

pub returns-then-octets-size : goal.returns-then-octets-size
unfolding after_names
returns-then-octets-size c = search rules

pub returns : goal.returns
unfolding after_names
returns c = grind (arith, common_steps)
