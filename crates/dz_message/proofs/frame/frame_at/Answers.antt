use Rattle.std.proofs.Common.{rules, arith}
use Rattle.std.proofs.lemmas.Grind.{common_steps}
use Rattle.dz_message.specs.Frame.{frame_at, first_size}
use Rattle.dz_message.proofs.frame.frame_at.Goals as goal

pub returns-then-octets-at-clause-place : goal.returns-then-octets-at-clause-place
unfolding frame_at first_size
returns-then-octets-at-clause-place c = grind (arith, common_steps)

pub returns-then-behind-size-clause-place : goal.returns-then-behind-size-clause-place
unfolding frame_at first_size
returns-then-behind-size-clause-place c = search rules

pub returns-clause-place : goal.returns-clause-place
unfolding frame_at first_size
returns-clause-place c = search rules

pub returns-then-behind-lt-LENGTH_OCTETS-clause-place : goal.returns-then-behind-lt-LENGTH_OCTETS-clause-place
unfolding frame_at first_size
returns-then-behind-lt-LENGTH_OCTETS-clause-place c = grind (arith, common_steps)
