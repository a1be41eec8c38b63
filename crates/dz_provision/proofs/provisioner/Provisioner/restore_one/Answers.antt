use Rattle.std.proofs.Common.{Ok, Err, refl, sym, subst}
use Rattle.std.specs.Option.{option_map}
use Rattle.dz_store.specs.Kept.{meaning_of}
use Rattle.dz_fleet.specs.declared.due.Due.{Due}
use Rattle.dz_fleet.specs.Answers.{IsHanded}
use Rattle.dz_provision.specs.Held.{IsHandedOut}
use Rattle.dz_provision.proofs.FaultLemmas.{handed_fault}
use Rattle.dz_provision.proofs.RestoreLemmas.{turned, turned_idle, turned_full}
use Rattle.dz_provision.proofs.provisioner.Provisioner.restore_one.Goals as goal

pub end_with-requires-clause-flying : goal.end_with-requires-clause-flying
end_with-requires-clause-flying g c =
    subst (λ (a : Due). IsHanded a c.hand_out.new.self.core) c.in-Ok-Job.field-0-is c.in-Ok-Job.ensures.flying

pub returns-in-Err-clause-log : goal.returns-in-Err-clause-log
returns-in-Err-clause-log g c = λ is. handed_fault c.args.self.now c.hand_out.new.self c.moment_of.result
    (Err c.in-Err.field-0) c.in-Err.ensures.made refl

pub returns-in-Ok-Job-clause-core : goal.returns-in-Ok-Job-clause-core
returns-in-Ok-Job-clause-core g c = λ is.
    turned c.args.self.now c.hand_out.new.self c.moment_of.result (option_map meaning_of c.args.kept) c.in-Ok-Job.job _
    (sym c.moment_of.ensures.moment)
    (subst (λ (a : Due). IsHandedOut c.args.self.now c.moment_of.result (Ok a) c.hand_out.new.self)
    c.in-Ok-Job.field-0-is c.in-Ok-Job.ensures.made) (c.end_with.ensures.core is)

pub returns-in-Ok-Idle-clause-core : goal.returns-in-Ok-Idle-clause-core
returns-in-Ok-Idle-clause-core g c = λ is.
    turned_idle c.args.self.now c.hand_out.new.self c.moment_of.result (option_map meaning_of c.args.kept) _
    (sym c.moment_of.ensures.moment)
    (subst (λ (a : Due). IsHandedOut c.args.self.now c.moment_of.result (Ok a) c.hand_out.new.self)
    c.in-Ok-Idle.field-0-is c.in-Ok-Idle.ensures.made)

pub returns-in-Ok-Full-clause-core : goal.returns-in-Ok-Full-clause-core
returns-in-Ok-Full-clause-core g c = λ is.
    turned_full c.args.self.now c.hand_out.new.self c.moment_of.result (option_map meaning_of c.args.kept) _
    (sym c.moment_of.ensures.moment)
    (subst (λ (a : Due). IsHandedOut c.args.self.now c.moment_of.result (Ok a) c.hand_out.new.self)
    c.in-Ok-Full.field-0-is c.in-Ok-Full.ensures.made)
