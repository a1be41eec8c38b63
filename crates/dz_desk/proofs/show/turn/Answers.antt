use Rattle.std.proofs.Common.{◌≡◌, sym, subst}
use Rattle.dz_desk.specs.Seen.{Page, Goes}
use Rattle.dz_desk.proofs.RuleLemmas.{shows}
use Rattle.dz_desk.proofs.show.turn.Goals as goal

pub publish_as-same-requires : goal.publish_as-same-requires
publish_as-same-requires g c next is =
    let kept = c.owners.invariant in
    let staged = c.requires.next in
    let before = c.owners.writer.desk.shown.value in
    let same : next ≡ staged.0 = rw staged.1 at (rw kept.2 at is) in
    shows _ _ before next (subst (λ (p : Page). Goes p next) (sym kept.1)
    (subst (λ (p : Page). Goes c.args.writer.desk.shown.value p) (sym same) staged.2))
