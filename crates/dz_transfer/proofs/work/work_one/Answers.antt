use Rattle.std.proofs.Common.{rules}
use Rattle.dz_transfer.proofs.StepLemmas.{work_sooner}
use Rattle.dz_transfer.proofs.WorkLemmas.{unmet_work, undialed_leaves, unmet_moment, unmet_link, unmet_log, met}
use Rattle.dz_transfer.proofs.WorkLemmas.{busy_leaves, busy_moment}
use Rattle.dz_transfer.proofs.work.work_one.Goals as goal

pub transfer-requires-clause-due : goal.transfer-requires-clause-due
transfer-requires-clause-due g c =
    let own = met c.in-Ok.job _ _ c.hand_out.result c.in-Ok.ensures c.hand_out.ensures.handed in
    search rules

pub returns-in-Ok-clause-worked : goal.returns-in-Ok-clause-worked
returns-in-Ok-clause-worked g c =
    rw c.transfer.ensures.dialed
    (work_sooner c.transfer.result.report c.transfer.result.ending _ _ _ _ _ _ _ c.hand_out.ensures.seen
    c.transfer.ensures.worked)

pub returns-in-Ok-clause-left : goal.returns-in-Ok-clause-left
returns-in-Ok-clause-left g c = busy_leaves c.transfer.result.report _ _ _ _ c.transfer.ensures.busy

pub returns-in-Ok-clause-moment : goal.returns-in-Ok-clause-moment
returns-in-Ok-clause-moment g c = busy_moment c.transfer.result.report _ c.transfer.ensures.busy

pub returns-in-Err-clause-worked : goal.returns-in-Err-clause-worked
returns-in-Err-clause-worked g c =
    unmet_work c.hand_out.result c.in-Err.report _ _ _ _ _ c.in-Err.ensures c.hand_out.ensures.seen
    c.hand_out.ensures.handed

pub returns-in-Err-clause-left : goal.returns-in-Err-clause-left
returns-in-Err-clause-left g c = undialed_leaves c.in-Err.report _ _

pub returns-in-Err-clause-link : goal.returns-in-Err-clause-link
returns-in-Err-clause-link g c = λ fault. unmet_link c.hand_out.result c.in-Err.report c.in-Err.ensures fault

pub returns-in-Err-clause-log : goal.returns-in-Err-clause-log
returns-in-Err-clause-log g c =
    λ fault. c.hand_out.ensures.cause (unmet_log c.hand_out.result c.in-Err.report c.in-Err.ensures fault)

pub returns-in-Err-clause-moment : goal.returns-in-Err-clause-moment
returns-in-Err-clause-moment g c = unmet_moment c.hand_out.result c.in-Err.report _ _ _ c.in-Err.ensures
    c.hand_out.ensures.handed c.now-now.ensures.may

pub returns-in-Ok-clause-ended : goal.returns-in-Ok-clause-ended
returns-in-Ok-clause-ended g c = rw c.now-now.ensures.give at c.transfer.ensures.ended
