use Rattle.dz_provision.proofs.FaultLemmas.{failed_fault}
use Rattle.dz_provision.proofs.RestoreLemmas.{ended_core, failed_there}
use Rattle.dz_provision.proofs.provisioner.Provisioner.end_failed.Goals as goal

pub unreachable-requires : goal.unreachable-requires
unreachable-requires g c = failed_there _ _ c.args.job 0 c.in-Err-NotInFlight.field-0
    (λ e. cc (e, c.in-Err-NotInFlight.field-0-is)) c.requires c.in-Err-NotInFlight.ensures.failed

pub returns-in-Ok-clause-core : goal.returns-in-Ok-clause-core
returns-in-Ok-clause-core g c = λ is. ended_core _ _ c.args.job 0 _ _ c.in-Ok.ensures.failed

pub returns-in-Err-LogFault-clause-log : goal.returns-in-Err-LogFault-clause-log
returns-in-Err-LogFault-clause-log g c = λ is. failed_fault _ _ c.args.job 0 c.in-Err-LogFault.field-0
    c.in-Err-LogFault.ensures.failed c.in-Err-LogFault.field-0-is
