use Rattle.std.proofs.Common.{◌≡◌, ap, ⊎_elim, Result, Ok, Err}
use Rattle.dz_name.specs.Words.{Octets}
use Rattle.dz_provision.specs.declared.provisioner.LogFault.{LogFault}
use Rattle.dz_provision.specs.Held.{Held, IsSaid}
use Rattle.dz_provision.specs.KeepingAnswer.{IsKept}
use Rattle.dz_provision.specs.KeepingAnswer as keeping
use Rattle.dz_provision.proofs.keep.keep_last.Goals as goal

-- a line that is said leaves the core as it is
said_core : (h : Held) (line : Octets) (result : Result (Unit {0}) LogFault) (k : Held) → IsSaid h line result k
    → k.core ≡ h.core
unfolding IsSaid
said_core h line (Ok done) k said = said.core
said_core h line (Err fault) k said =
    ⊎_elim (λ stays. ap (λ (x : Held). x.core) stays.same) (λ breaks. breaks.core) said

pub returns-in-Err-clause-kept : goal.returns-in-Err-clause-kept
returns-in-Err-clause-kept g c =
    keeping.stopped c.in-Err.unkept.zone c.in-Err.unkept.fault
    (rw c.core.ensures at c.in-Err.ensures.stopped) c.say_unkept.ensures

pub returns-in-Err-clause-core : goal.returns-in-Err-clause-core
returns-in-Err-clause-core g c =
    said_core c.args.provisioner.now _ c.say_unkept.result c.say_unkept.new.self c.say_unkept.ensures
