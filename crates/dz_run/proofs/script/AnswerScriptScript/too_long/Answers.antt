use Rattle.dz_run.proofs.LeadLemmas.{nothing_leads}
use Rattle.dz_run.proofs.script.AnswerScriptScript.too_long.Goals as goal

pub returns-clause-leads : goal.returns-clause-leads
returns-clause-leads g c = nothing_leads c.put_bad.result
