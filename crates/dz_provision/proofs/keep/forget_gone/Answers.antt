use Rattle.std.proofs.Common.{rules, ◌≡◌, []}
use Rattle.dz_provision.specs.Keeping.{gone, changes_of}
use Rattle.dz_provision.proofs.TaskLemmas.{passed_none}
use Rattle.dz_provision.proofs.keep.forget_gone.Goals.{in_default-via-in-Published+in_default}
use Rattle.dz_provision.proofs.keep.forget_gone.Goals.{in_default-via-in_default}
use Rattle.dz_provision.proofs.keep.forget_gone.Goals as goal

pub returns-in_default-clause-passed : goal.returns-in_default-clause-passed
unfolding gone
returns-in_default-clause-passed g c =
    let none : changes_of c.args.verdict.now ≡ [] =
    elim c.in_default.branch [
      | in_default-via-in-Published+in_default w ↦ search rules
      | in_default-via-in_default w ↦ search rules
    ] in
    rw none (passed_none g.D.Disk.file g.D.Disk.faults g.D.Disk.may_leave g.D.Disk.clock g.D.Disk.left_from
    c.args.store.now)
