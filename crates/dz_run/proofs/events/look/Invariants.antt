use Rattle.dz_run.specs.Taken.{IsAtRest}
use Rattle.dz_run.proofs.events.look.Given as goal

abbrev pub invariant-looks : goal.invariant-looks
invariant-looks g l = IsAtRest g.J.Naming.publisher l.reading
