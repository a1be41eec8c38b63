use Rattle.std.proofs.Common.{rules}
use Rattle.dz_request.specs.Request.{add_shape}
use Rattle.dz_request.proofs.request.add_shape.Goals as goal

pub returns-then-shape-ne-TYPE_OPT : goal.returns-then-shape-ne-TYPE_OPT
unfolding add_shape
returns-then-shape-ne-TYPE_OPT c = search rules

pub returns-in-None : goal.returns-in-None
unfolding add_shape
returns-in-None c = search rules

pub returns-in_default : goal.returns-in_default
unfolding add_shape
returns-in_default c = search rules

pub returns-in_default-2 : goal.returns-in_default-2
unfolding add_shape
returns-in_default-2 c = search rules
