use Rattle.std.proofs.Common.{◌≡◌, ◌++◌, take, drop, map}
use Rattle.std.specs.Prelude.{bit_xor}
use Rattle.dz_tsig.proofs.mac.padded.Given as goal

abbrev pub invariant-octets : goal.invariant-octets
invariant-octets l =
    l.block ≡ map (λ octet. bit_xor octet l.pad) (take l.at l.initial.block) ++ drop l.at l.initial.block
