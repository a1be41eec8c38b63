use Rattle.dz_run.proofs.LeadLemmas.{nothing_leads}
use Rattle.dz_run.proofs.script.AnswerScriptScript.finish.Goals as goal

pub returns-else-has_table-clause-leads : goal.returns-else-has_table-clause-leads
returns-else-has_table-clause-leads g c = nothing_leads c.put_bad.result
