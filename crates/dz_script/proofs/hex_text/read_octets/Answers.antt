use Rattle.std.proofs.Common.{rules}
use Rattle.dz_script.specs.Hex.{octets_in}
use Rattle.dz_script.proofs.hex_text.read_octets.Goals as goal

pub returns-in-Err : goal.returns-in-Err
unfolding octets_in
returns-in-Err c = search rules

pub returns-in-Ok-clause-octets : goal.returns-in-Ok-clause-octets
unfolding octets_in
returns-in-Ok-clause-octets c = search rules
