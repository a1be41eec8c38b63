use Rattle.std.proofs.Common.{sym}
use Rattle.dz_axfr.specs.inner.Sifted.{has_same}
use Rattle.dz_axfr.proofs.SiftLemmas.{known_more, not_false}
use Rattle.dz_axfr.proofs.kept.sift.Goals as goal

pub returns-then-not-branch-clause-known : goal.returns-then-not-branch-clause-known
returns-then-not-branch-clause-known c =
    let same = rw c.if-not-branch.true at c.in_ok-see.ensures.unchanged in
    rw same c.requires

pub returns-clause-known : goal.returns-clause-known
returns-clause-known c =
    let new = rw c.if-not-branch.false at c.in_ok-see.ensures.new in
    let none = not_false (has_same c.args.found c.args.seen.now.keys) (sym new) in
    rw (c.in_ok-push.ensures.items, c.in_ok-see.ensures.joined) (known_more _ _ c.args.found c.requires none)
