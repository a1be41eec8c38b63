use Rattle.std.proofs.Common.{arith}
use Rattle.dz_gen.specs.Messages.{message}
use Rattle.dz_gen.proofs.MadeLemmas.{counted}
use Rattle.dz_gen.proofs.messages.message.Goals as goal

pub overflow_cast-counts : goal.overflow_cast-counts
overflow_cast-counts c =
    omega (
      arith,
      c.len.ensures,
      (counted (message c.args.id c.args.flags c.args.questions.items c.args.answers.items) c.requires).0,
    )

pub overflow_cast-counts-2 : goal.overflow_cast-counts-2
overflow_cast-counts-2 c =
    omega (
      arith,
      c.len-2.ensures,
      (counted (message c.args.id c.args.flags c.args.questions.items c.args.answers.items) c.requires).1,
    )
