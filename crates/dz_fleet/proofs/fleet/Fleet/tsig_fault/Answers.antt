use Rattle.std.proofs.Common.{rules, arith}
use Rattle.std.proofs.lemmas.Grind.{common_steps}
use Rattle.dz_fleet.specs.Core.{tsig_of}
use Rattle.dz_fleet.proofs.fleet.Fleet.tsig_fault.Goals as goal

pub returns-in-None : goal.returns-in-None
unfolding tsig_of
returns-in-None c = search rules

pub returns-in-Ok : goal.returns-in-Ok
unfolding tsig_of
returns-in-Ok c = grind (arith, common_steps)

pub returns : goal.returns
unfolding tsig_of
returns c = grind (arith, common_steps)
