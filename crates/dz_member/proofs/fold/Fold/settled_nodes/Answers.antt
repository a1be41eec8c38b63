use Rattle.std.proofs.Common.{List}
use Rattle.dz_member.specs.declared.listing.Node.{Node}
use Rattle.dz_member.specs.inner.Edits.{IsLast}
use Rattle.dz_member.specs.inner.Kept.{catalog_at}
use Rattle.dz_member.proofs.NarrowLemmas.{if_map, last_marked}
use Rattle.dz_member.proofs.fold.Fold.settled_nodes.Goals as goal

pub returns-then-settled-number : goal.returns-then-settled-number
returns-then-settled-number c = if_map (λ r. r.now.value) (λ (ns : List Node). IsLast c.args.self.now
    (catalog_at c.args.self.now c.args.number) ns) c.shared_nodes.result
    (last_marked c.args.self.now c.self.inside.config.value c.self.inside.members.value c.self.inside.listings.items
    c.self.inside.settled.items c.self.view_is c.self.invariant c.args.number c.requires
    (rw c.as_slice-settled.ensures.value at c.if-settled-number.true) _ c.shared_nodes.ensures)
