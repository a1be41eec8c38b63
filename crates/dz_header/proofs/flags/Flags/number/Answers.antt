use Rattle.std.proofs.Common.{rules}
use Rattle.dz_header.specs.Flags.{flags_number}
use Rattle.dz_header.proofs.FlagsLemmas.{read_back}
use Rattle.dz_header.proofs.flags.Flags.number.Goals as goal

pub returns-clause-read : goal.returns-clause-read
unfolding flags_number
returns-clause-read c =
    rw (c.bit-4.ensures, c.bit.ensures, c.bit-2.ensures, c.bit-3.ensures) (read_back c.args.self.now)

pub returns-clause-value : goal.returns-clause-value
unfolding flags_number
returns-clause-value c = search rules
