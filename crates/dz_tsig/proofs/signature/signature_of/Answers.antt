use Rattle.std.proofs.Common.{rules}
use Rattle.dz_tsig.specs.Signature.{signature_of}
use Rattle.dz_tsig.proofs.signature.signature_of.Goals as goal

pub returns-in-None-clause-value : goal.returns-in-None-clause-value
unfolding signature_of
returns-in-None-clause-value c = search rules

pub returns-in-Some-clause-value : goal.returns-in-Some-clause-value
unfolding signature_of
returns-in-Some-clause-value c = search rules
