use Rattle.std.proofs.Common.{rules}
use Rattle.dz_header.specs.Shape.{shape_of}
use Rattle.dz_header.proofs.shape.counted_shape.Goals as goal

pub returns-in_err-rest-clause-shape : goal.returns-in_err-rest-clause-shape
unfolding shape_of
returns-in_err-rest-clause-shape g c = search rules

pub returns-clause-shape : goal.returns-clause-shape
unfolding shape_of
returns-clause-shape g c = search rules
