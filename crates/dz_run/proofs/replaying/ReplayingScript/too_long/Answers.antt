use Rattle.std.proofs.Common.{refl}
use Rattle.dz_run.specs.Replaying.{replay_too_long}
use Rattle.dz_run.proofs.KeptLemmas.{ended_done, ended_cause, ended_leads}
use Rattle.dz_run.proofs.replaying.ReplayingScript.too_long.Goals as goal

pub returns-clause-done : goal.returns-clause-done
returns-clause-done g c = ended_done c.args.self.now c.end_at.new.self _ c.end_at.result refl refl c.end_at.ensures

pub returns-clause-cause : goal.returns-clause-cause
returns-clause-cause g c = ended_cause c.args.self.now c.end_at.new.self _ c.end_at.result c.end_at.ensures

pub returns-clause-leads : goal.returns-clause-leads
returns-clause-leads g c = ended_leads c.args.self.now c.end_at.new.self
    (replay_too_long c.args.self.now.state c.args.number) _ c.end_at.result refl c.end_at.ensures
