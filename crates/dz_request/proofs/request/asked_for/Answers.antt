use Rattle.std.proofs.Common.{rules}
use Rattle.dz_request.specs.Request.{asked_for}
use Rattle.dz_request.proofs.request.asked_for.Goals as goal

pub returns-then-is_newer-clause-is : goal.returns-then-is_newer-clause-is
unfolding asked_for
returns-then-is_newer-clause-is c = search rules

pub returns-then-class-ne-CLASS_IN-clause-is : goal.returns-then-class-ne-CLASS_IN-clause-is
unfolding asked_for
returns-then-class-ne-CLASS_IN-clause-is c = search rules

pub returns-then-is_unasked-clause-is : goal.returns-then-is_unasked-clause-is
unfolding asked_for
returns-then-is_unasked-clause-is c = search rules

pub returns-else-is_unasked-clause-is : goal.returns-else-is_unasked-clause-is
unfolding asked_for
returns-else-is_unasked-clause-is c = search rules

pub returns-then-kind-eq-TYPE_SOA-clause-is : goal.returns-then-kind-eq-TYPE_SOA-clause-is
unfolding asked_for
returns-then-kind-eq-TYPE_SOA-clause-is c = search rules

pub returns-else-kind-eq-TYPE_SOA-clause-is : goal.returns-else-kind-eq-TYPE_SOA-clause-is
unfolding asked_for
returns-else-kind-eq-TYPE_SOA-clause-is c = search rules
