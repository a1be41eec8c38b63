use Rattle.std.proofs.Common.{ap, length}
use Rattle.dz_member.proofs.KeptLemmas.{kept_start}
use Rattle.dz_member.proofs.fold.Fold.start.Goals as goal

pub invariant_of-result : goal.invariant_of-result
invariant_of-result c =
    rw (c.in_ok-members.ensures.ok, c.empty.ensures, c.in_ok-config.ensures.ok)
    (kept_start c.args.config c.in_ok-listings.listings.items c.in_ok-settled.settled.items _ c.requires
    c.in_ok-listings.ensures (c.in_ok-settled.ensures.items_if_clones_equal (λ y h. h)) (ap length c.catalogs-count.ensures))
