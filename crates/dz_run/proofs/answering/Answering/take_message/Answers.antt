use Rattle.dz_run.proofs.TakingLemmas.{outcome_fits}
use Rattle.dz_run.proofs.answering.Answering.take_message.Goals as goal

pub serve-requires-clause-fits : goal.serve-requires-clause-fits
serve-requires-clause-fits c =
    outcome_fits c.in_ok-finished.finished _ _ c.in_ok-finished.ensures.transfer c.outcome.ensures
