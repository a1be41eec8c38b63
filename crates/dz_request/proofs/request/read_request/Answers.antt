use Rattle.std.proofs.Common.{rules}
use Rattle.dz_request.specs.Request.{request}
use Rattle.dz_request.proofs.request.read_request.Goals as goal

pub returns-in-None-clause-reads : goal.returns-in-None-clause-reads
unfolding request
returns-in-None-clause-reads c = search rules

pub returns-in-Some-clause-reads : goal.returns-in-Some-clause-reads
unfolding request
returns-in-Some-clause-reads c = search rules
