use Rattle.dz_run.proofs.events.close_all.Given as goal

abbrev pub decreases-jobs : goal.decreases-jobs
decreases-jobs l = l.jobs.len
