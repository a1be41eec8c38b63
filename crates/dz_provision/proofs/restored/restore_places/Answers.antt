use Rattle.std.proofs.Common.{refl, ◌∙◌, inl, arith}
use Rattle.dz_disk.specs.RecordLog.{records}
use Rattle.dz_store.specs.Payload.{reads}
use Rattle.dz_provision.proofs.RestoreLemmas.{quiet_none, quiet_both, none_had, had_more, fails_on, steady_on}
use Rattle.dz_provision.proofs.RestoreLemmas.{stuck_on}
use Rattle.dz_provision.proofs.restored.restore_places.Goals as goal

pub places-init : goal.places-init
places-init g c = record {
  turns = λ f told stop stopped. none_had (records reads f) c.args.store.now.has_failed stop c.args.places.first
      c.args.provisioner.now.core stopped;
  failed = λ failed. inl failed;
  steady = λ works. refl;
  stuck = λ failed. refl;
  quiet = quiet_none g.D.Disk.file g.D.Disk.may_leave g.D.Disk.clock g.D.Disk.left_from c.args.store.now.disk
      (λ x left. g.met.D.Disk.now_alone c.args.store.now.disk x left);
  within = omega arith;
}

pub places-preserved : goal.places-preserved
places-preserved g c =
    let so_far = c.places.invariant in
    let one = c.restore_place-ended.ensures in
    let a = c.args.store.now in
    let b = c.places.store in
    let d = c.restore_place-ended.new.store in
    let done = c.is_done.ensures.0 c.if-not-is_done.false in
    record {
      turns = λ f told stop stopped.
          had_more (records reads f) c.args.places.first c.places.done c.args.provisioner.now.core
          c.places.provisioner.core c.restore_place-ended.new.provisioner.core b.has_failed d.has_failed stop
          (so_far.turns f told stop stopped) (one.turn done f (so_far.quiet.same ∙ told));
      failed = λ failed. fails_on g.D.Disk.faults a b d one.stuck so_far.failed so_far.steady one.failed failed;
      steady = λ works. steady_on g.D.Disk.faults a b d one.stuck so_far.steady (one.steady done) works;
      stuck = λ failed. stuck_on g.D.Disk.faults a b d one.stuck so_far.stuck failed;
      quiet = quiet_both g.D.Disk.file g.D.Disk.may_leave g.D.Disk.clock g.D.Disk.left_from a.disk b.disk d.disk
          so_far.quiet one.quiet;
      within = omega arith;
    }
