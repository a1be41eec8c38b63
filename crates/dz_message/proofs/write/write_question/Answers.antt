use Rattle.std.proofs.Common.{arith}
use Rattle.std.proofs.lemmas.Grind.{common_steps}
use Rattle.dz_message.specs.Writing.{question_octets}
use Rattle.dz_message.proofs.write.write_question.Goals as goal

pub returns-clause-octets : goal.returns-clause-octets
unfolding question_octets
returns-clause-octets c = grind (arith, common_steps)
