use Rattle.std.proofs.Common.{◌≡◌, sym, ◌∙◌, List, subst, true}
use Rattle.std.specs.List.{list_all}
use Rattle.dz_member.specs.declared.listing.Node.{Node}
use Rattle.dz_member.specs.Listing.{IsListing}
use Rattle.dz_member.specs.Edit.{nodes_put}
use Rattle.dz_member.specs.inner.Edits.{is_free}
use Rattle.dz_member.specs.inner.Kept.{catalog_at}
use Rattle.dz_member.proofs.NarrowLemmas.{free_of}
use Rattle.dz_member.proofs.edits.listing_put.Goals as goal

pub returns-then-are_free-clause-free : goal.returns-then-are_free-clause-free
returns-then-are_free-clause-free c =
    let fold = c.args.fold.now in
    let name = catalog_at fold c.args.number in
    let edits = c.args.edits.now in
    let both : (c.in-Some.put ≡ c.in_ok-nodes.nodes.items) × IsListing c.in_ok-nodes.nodes.items =
    rw c.in-Some.is at c.in_ok-try_from_vec.ensures in
    free_of fold name edits (nodes_put edits)
    (subst (λ (ns : List Node). list_all (λ n. is_free fold name edits n.zone) ns ≡ true)
    (c.nodes.ensures.nodes ∙ (both.0 ∙ c.in_ok-nodes.ensures)) (sym c.are_free.ensures ∙ c.if-are_free.true))
