use Rattle.dz_run.proofs.KeptLemmas.{turned_done, turned_cause, turned_leads}
use Rattle.dz_run.proofs.LeadLemmas.{turn_leads}
use Rattle.dz_run.proofs.replaying.ReplayingScript.turn.Goals as goal

pub returns-else-is_over-clause-done : goal.returns-else-is_over-clause-done
returns-else-is_over-clause-done g c =
    turned_done c.args.self.now c.take_line.new.self _ c.take_line.result c.take_line.ensures

pub returns-else-is_over-clause-cause : goal.returns-else-is_over-clause-cause
returns-else-is_over-clause-cause g c =
    turned_cause c.args.self.now c.take_line.new.self _ c.take_line.result c.take_line.ensures

pub returns-then-is_over-clause-leads : goal.returns-then-is_over-clause-leads
returns-then-is_over-clause-leads g c = turn_leads c.args.self.now.state c.args.number c.args.line.now

pub returns-else-is_over-clause-leads : goal.returns-else-is_over-clause-leads
returns-else-is_over-clause-leads g c =
    turned_leads c.args.self.now c.take_line.new.self _ c.take_line.result c.take_line.ensures
