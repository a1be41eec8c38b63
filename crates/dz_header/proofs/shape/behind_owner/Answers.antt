use Rattle.std.proofs.Common.{arith, length-drop, ◌∙◌, ◌+◌}
use Rattle.std.specs.Prelude.{slice_index}
use Rattle.dz_header.proofs.ShapeLemmas.{owner_label}
use Rattle.dz_header.proofs.shape.behind_owner.Goals as goal

pub labels-preserved : goal.labels-preserved
labels-preserved g c =
    record {
      rest = rw c.behind-rest.ensures
          (owner_label c.labels.rest.now c.if-size-eq0.false (omega arith) (omega arith) ∙ c.labels.invariant.rest);
      used = rw c.behind-rest.ensures (omega (
        arith,
        c.tick.ensures,
        c.labels.invariant.used,
        length-drop (slice_index c.labels.rest.now 0 + 1) c.labels.rest.now,
      ));
      counted = omega (arith, c.tick.ensures, c.labels.invariant.counted);
    }
