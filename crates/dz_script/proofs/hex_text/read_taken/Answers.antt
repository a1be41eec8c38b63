use Rattle.std.proofs.Common.{rules}
use Rattle.dz_script.specs.Hex.{taken_octets}
use Rattle.dz_script.proofs.hex_text.read_taken.Goals as goal

pub returns-then-eq : goal.returns-then-eq
unfolding taken_octets
returns-then-eq c = search rules

pub returns-in-Err : goal.returns-in-Err
unfolding taken_octets
returns-in-Err c = search rules

pub returns-in-Ok : goal.returns-in-Ok
unfolding taken_octets
returns-in-Ok c = search rules
