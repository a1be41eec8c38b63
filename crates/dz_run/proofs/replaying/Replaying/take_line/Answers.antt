use Rattle.std.proofs.Common.{refl}
use Rattle.dz_run.proofs.KeptLemmas.{turned_wanting}
use Rattle.dz_run.proofs.LeadLemmas.{turn_leads}
use Rattle.dz_run.proofs.MomentLemmas.{timed}
use Rattle.dz_run.proofs.replaying.Replaying.take_line.Goals as goal

pub take_read-requires-clause-timed : goal.take_read-requires-clause-timed
take_read-requires-clause-timed g c = timed c.args.line.now c.in-Ok.line c.in-Ok.ensures

pub returns-in-Err-OutOfMemory : goal.returns-in-Err-OutOfMemory
returns-in-Err-OutOfMemory g c = turned_wanting c.args.self.now c.args.self.now _ refl refl
    (turn_leads c.args.self.now.state c.args.number c.args.line.now)
