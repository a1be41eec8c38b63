use Rattle.std.proofs.Common.{rules}
use Rattle.dz_store.specs.Payload.{names_of}
use Rattle.dz_store.proofs.head.names_of.Goals as goal

pub returns-in-None : goal.returns-in-None
unfolding names_of
returns-in-None c = search rules

pub returns-in-None-first_name : goal.returns-in-None-first_name
unfolding names_of
returns-in-None-first_name c = search rules

pub returns-in-Some-first_name : goal.returns-in-Some-first_name
unfolding names_of
returns-in-Some-first_name c = search rules
