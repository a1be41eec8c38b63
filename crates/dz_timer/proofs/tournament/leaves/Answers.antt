use Rattle.std.proofs.Common.{◌≡◌, length, arith}
use Rattle.std.proofs.lemmas.Grind.{common_steps}
use Rattle.std.proofs.lemmas.List.Elements.{All-more}
use Rattle.dz_timer.specs.inner.Tournament.{IsSoon}
use Rattle.dz_timer.proofs.TournamentLemmas.{moments_none}
use Rattle.dz_timer.proofs.tournament.leaves.Goals as goal

pub moments-init : goal.moments-init
moments-init c =
    let size : length c.undecided.nodes.items ≡ length c.args.values.now = omega arith in
    record {
      size = omega arith;
      own = λ j h. absurd (omega arith);
      kept = moments_none c.undecided.nodes.items (length c.args.values.now) size;
      soon = λ k d lt idle. absurd (omega arith);
    }

pub moments-preserved : goal.moments-preserved
moments-preserved c =
    let inv = c.moments.invariant in
    let zone = c.index-values-place.result in
    record {
      size = grind (arith, common_steps);
      own = grind (arith, common_steps);
      kept = grind (arith, common_steps);
      soon = All-more IsSoon c.args.values.now c.moments.place zone c.moments-test.true inv.soon
          (rw (← c.index-values-place.is) c.wait_of.ensures.soon);
    }
