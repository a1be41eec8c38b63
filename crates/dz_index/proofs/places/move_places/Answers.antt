use Rattle.std.proofs.Common.{arith, get_or}
use Rattle.std.proofs.lemmas.List.{get_or_default}
use Rattle.std.proofs.lemmas.List.Edits.{map_over_more}
use Rattle.dz_index.specs.inner.Portion.{moved}
use Rattle.dz_index.proofs.places.move_places.Goals as goal

pub places-preserved : goal.places-preserved
places-preserved c =
    let place = get_or c.places.places c.places.place-index 0 in
    map_over_more (moved c.args.old c.args.new) c.args.places.now c.places.places c.places.place-index place
    c.places-test.true c.places.invariant
    (get_or_default c.places.places c.places.place-index 0 place (omega arith))
