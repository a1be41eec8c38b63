use Rattle.std.proofs.Common.{◌∙◌}
use Rattle.dz_store.specs.Kept.{meaning_of}
use Rattle.dz_fleet.specs.Core.{state_of}
use Rattle.dz_restore.specs.Restoring.{sent_with}
use Rattle.dz_provision.proofs.FaultLemmas.{settled_fault}
use Rattle.dz_provision.proofs.RestoreLemmas.{returns_fit, settled_core, settled_same, settled_there}
use Rattle.dz_provision.proofs.provisioner.Provisioner.give_back.Goals as goal

pub finished_of-requires : goal.finished_of-requires
finished_of-requires g c =
    returns_fit (state_of c.args.self.now.core) c.args.job (meaning_of c.args.kept) c.requires.may

pub returns-in-Ok-settle : goal.returns-in-Ok-settle
returns-in-Ok-settle g c = record {
  core = λ is.
      settled_core c.args.self.now c.settle.new.self c.args.job c.args.kept.refreshed c.in-Ok.finished.octets
      c.in-Ok-settle.verdict c.in-Ok-settle.told (c.ended_by.ensures.done is) c.in-Ok-settle.ensures.settled
      ∙ settled_same c.args.self.now.core c.args.job (sent_with c.args.job.flight.id (meaning_of c.args.kept).version)
      c.in-Ok.finished.octets c.args.kept.refreshed c.in-Ok.ensures.read;
  log = λ is. absurd (c.ended_by.ensures.log is);
}

pub returns-in-Err-LogFault-clause-log : goal.returns-in-Err-LogFault-clause-log
returns-in-Err-LogFault-clause-log g c = λ is. settled_fault _ _ c.args.job _ c.args.kept.refreshed
    c.in-Err-LogFault.field-0 c.in-Err-LogFault.ensures.settled c.in-Err-LogFault.field-0-is

pub unreachable-requires : goal.unreachable-requires
unreachable-requires g c =
    settled_there c.args.self.now c.settle.new.self c.args.job
    c.args.kept.refreshed c.in-Ok.finished.octets c.in-Err-NotInFlight.field-0
    (λ e. cc (e, c.in-Err-NotInFlight.field-0-is)) c.requires.flying c.in-Err-NotInFlight.ensures.settled
