use Rattle.std.proofs.Common.{◌≡◌, sym, subst}
use Rattle.dz_desk.specs.Seen.{Page, Goes}
use Rattle.dz_desk.proofs.RuleLemmas.{goes_self, shows}
use Rattle.dz_desk.proofs.show.turn_again.Goals as goal

pub publish_as-same-requires : goal.publish_as-same-requires
publish_as-same-requires g c next is =
    let shown = c.args.writer.desk.shown.value in
    let same : next ≡ shown = rw c.requires.rest at is in
    shows _ _ shown next (subst (λ (p : Page). Goes shown p) (sym same) (goes_self shown))
