use Rattle.std.proofs.Common.{◌∙◌, not, ap, sym}
use Rattle.dz_axfr.proofs.SiftLemmas.{tie_same}
use Rattle.dz_axfr.proofs.kept.see.Goals as goal

pub returns-clause-new : goal.returns-clause-new
returns-clause-new c =
    let a = rw c.in_ok-share.ensures at c.in_ok-new.ensures.added in
    a ∙ ap not (sym (tie_same c.args.found.now c.args.seen.now.keys))
