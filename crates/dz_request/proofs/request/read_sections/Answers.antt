use Rattle.std.proofs.Common.{rules}
use Rattle.dz_request.specs.Request.{asked_in}
use Rattle.dz_request.proofs.request.read_sections.Goals as goal

pub returns-in-None-clause-reads : goal.returns-in-None-clause-reads
unfolding asked_in
returns-in-None-clause-reads c = search rules

pub returns-in_err-rest-clause-reads : goal.returns-in_err-rest-clause-reads
unfolding asked_in
returns-in_err-rest-clause-reads c = search rules

pub returns-in_err-edns-clause-reads : goal.returns-in_err-edns-clause-reads
unfolding asked_in
returns-in_err-edns-clause-reads c = search rules

pub returns-clause-reads : goal.returns-clause-reads
unfolding asked_in
returns-clause-reads c = search rules
