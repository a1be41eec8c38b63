use Rattle.dz_member.proofs.NumberLemmas.{same_number}
use Rattle.dz_member.proofs.judge.holds.Goals as goal

pub returns-clause-is : goal.returns-clause-is
returns-clause-is c = same_number c.args.fold.now.config c.args.member.now.catalog c.args.number
    c.requires.fold.allowed c.requires.held.catalog c.requires.number
