use Rattle.std.proofs.Common.{◌≡◌, take, length, length-append, arith, rules, ◌∙◌}
use Rattle.dz_disk.proofs.MomentLemmas.{quiet_one, quiet_both}
use Rattle.dz_disk.proofs.PieceLemmas.{filled_more}
use Rattle.dz_disk.proofs.scan.fill.Goals as goal

pub filling-preserved : goal.filling-preserved
filling-preserved g c =
    let so_far = c.filling.invariant in
    let long : length c.split_at_mut-front.result.0.now ≡ c.filling.filled = omega arith in
    let same : c.split_at_mut-front.result.0.now ≡ take c.filling.filled c.filling.buffer = search rules in
    record {
      within = omega (
        arith,
        long,
        length-append c.split_at_mut-front.result.0.now c.read.new.buffer,
        c.in_ok-count.ensures.count,
      );
      front = λ f told. filled_more c.args.at c.filling.filled c.in_ok-count.count f
          c.split_at_mut-front.result.0.now c.read.new.buffer long (same ∙ so_far.front f told)
          (c.in_ok-count.ensures.octets f (so_far.quiet.same ∙ told));
      quiet = quiet_both g.D.Disk.file g.D.Disk.may_leave g.D.Disk.clock g.D.Disk.left_from c.args.disk.now
          c.filling.disk c.read.new.self so_far.quiet
          (quiet_one g.D.Disk.file g.D.Disk.may_leave g.D.Disk.clock g.D.Disk.left_from c.filling.disk c.read.new.self
          (λ x left. g.met.D.Disk.now_alone c.filling.disk x left) c.read.ensures.same c.read.ensures.crash
          c.read.ensures.time);
      faults = c.in_ok-count.ensures.cause.kept ∙ so_far.faults;
    }
