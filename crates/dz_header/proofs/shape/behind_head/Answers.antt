use Rattle.std.proofs.Common.{rules}
use Rattle.dz_header.specs.Shape.{behind_head}
use Rattle.dz_header.proofs.shape.behind_head.Goals as goal

pub returns-in_err-head-clause-head : goal.returns-in_err-head-clause-head
unfolding behind_head
returns-in_err-head-clause-head c = search rules

pub returns-then-rest-size-clause-head : goal.returns-then-rest-size-clause-head
unfolding behind_head
returns-then-rest-size-clause-head c = search rules

pub returns-clause-head : goal.returns-clause-head
unfolding behind_head
returns-clause-head c = search rules
