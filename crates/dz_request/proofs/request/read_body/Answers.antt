use Rattle.std.proofs.Common.{rules}
use Rattle.dz_request.specs.Request.{with_header}
use Rattle.dz_request.proofs.request.read_body.Goals as goal

pub returns-then-is_response-clause-reads : goal.returns-then-is_response-clause-reads
unfolding with_header
returns-then-is_response-clause-reads c = search rules

pub returns-then-opcode-ne-OPCODE_NOTIFY-clause-reads : goal.returns-then-opcode-ne-OPCODE_NOTIFY-clause-reads
unfolding with_header
returns-then-opcode-ne-OPCODE_NOTIFY-clause-reads c = search rules

pub returns-in-None-clause-reads : goal.returns-in-None-clause-reads
unfolding with_header
returns-in-None-clause-reads c = search rules

pub returns-in-Some-clause-reads : goal.returns-in-Some-clause-reads
unfolding with_header
returns-in-Some-clause-reads c = search rules
