use Rattle.std.proofs.Common.{◌∙◌, ap, length, arith}
use Rattle.dz_member.specs.Fold.{FoldOf}
use Rattle.dz_member.proofs.AfterLemmas.{kept_narrowed}
use Rattle.dz_member.proofs.fold.Fold.narrowed.Goals as goal

pub invariant_of-result : goal.invariant_of-result
invariant_of-result c =
    let listings = c.in_ok-listings.ensures ∙ (c.deref.ensures.value ∙ ap (λ (f : FoldOf). f.listings) c.self.view_is) in
    rw (c.in_ok-config.ensures, c.in_ok-members.ensures.ok, listings, c.in_ok-settled.ensures.items_if_clones_equal (λ y h. h))
    (kept_narrowed c.args.self.now c.self.inside.config.value c.self.inside.members.value c.self.inside.listings.items
    c.self.inside.settled.items c.self.view_is c.self.invariant c.args.members _ c.requires.order c.requires.numbered
    (omega (arith, c.len.ensures, c.if-len-gt-MOST.false)) (ap length c.catalogs.ensures.catalogs))
