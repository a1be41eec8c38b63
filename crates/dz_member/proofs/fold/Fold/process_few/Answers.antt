use Rattle.std.proofs.Common.{◌≡◌, ◌≤◌, ◌++◌, ◌∙◌, ap, List, map, length, subst, arith}
use Rattle.dz_member.specs.declared.listing.Node.{Node}
use Rattle.dz_member.specs.Listing.{IsListing}
use Rattle.dz_member.specs.Edit.{edited, nodes_put, nodes_replaced, AreFree}
use Rattle.dz_member.specs.Process.{process, changes, EachZone}
use Rattle.dz_member.specs.inner.Kept.{catalog_at}
use Rattle.dz_member.proofs.NarrowLemmas.{few_after, few_listing, not_put}
use Rattle.dz_member.proofs.fold.Fold.process_few.Goals as goal

pub members_after-requires-clause-zones : goal.members_after-requires-clause-zones
members_after-requires-clause-zones c zone e =
    not_put c.in-Some.put (nodes_replaced c.deref-2.result.now c.deref-3.result.now) zone
    (rw (c.deref-5.ensures.value, c.in_ok-zones.ensures) at e)

pub with-requires-clause-listing : goal.with-requires-clause-listing
with-requires-clause-listing c =
    let fold = c.args.self.now in
    let name = catalog_at fold c.args.turn.number in
    let nodes = c.args.nodes.now.value in
    let edits = c.args.edits.items in
    let given : c.deref.result.now ≡ edits = c.deref.ensures.value in
    let put : c.in-Some.put ≡ nodes_put edits = rw (c.in-Some.is, given) at c.in_ok-listing_put.ensures.is in
    let listed : IsListing c.in-Some.put = rw c.in-Some.is at c.in_ok-listing_put.ensures.listing in
    let free : AreFree fold name edits = rw (c.in-Some.is, given) at c.in_ok-listing_put.ensures.free in
    let few : length (edited nodes edits) ≤ 65536 =
    subst (λ (ns : List Node). length ns ≤ 65536) (c.deref-4.ensures ∙ c.in_ok-nodes.ensures)
    (omega (arith, c.len.ensures.count, c.if-len-gt-NODES.false)) in
    let is : IsListing (edited nodes edits) = few_listing fold name nodes edits c.args.turn.position c.requires.fold
    c.requires.listing c.requires.settled c.requires.edits free c.in-Some.put put listed few in
    rw c.in_ok-nodes.ensures is

pub with-requires-clause-members : goal.with-requires-clause-members
with-requires-clause-members c =
    let fold = c.args.self.now in
    let name = catalog_at fold c.args.turn.number in
    let nodes = c.args.nodes.now.value in
    let edits = c.args.edits.items in
    let given : c.deref.result.now ≡ edits = c.deref.ensures.value in
    let put : c.in-Some.put ≡ nodes_put edits = rw (c.in-Some.is, given) at c.in_ok-listing_put.ensures.is in
    let listed : IsListing c.in-Some.put = rw c.in-Some.is at c.in_ok-listing_put.ensures.listing in
    let free : AreFree fold name edits = rw (c.in-Some.is, given) at c.in_ok-listing_put.ensures.free in
    let zones : c.deref-5.result.now ≡ map (λ n. n.zone) c.in-Some.put ++ map (λ n. n.zone) (nodes_replaced nodes edits) =
    c.deref-5.ensures.value ∙ (rw (c.deref-2.ensures, c.deref-3.ensures.value) at c.in_ok-zones.ensures) in
    let few = few_after fold name nodes edits c.args.turn.position c.requires.fold c.requires.listing c.requires.settled
    c.requires.edits free c.in-Some.put put listed c.deref-5.result.now zones c.in_ok-members.members.value _
    c.in_ok-members.ensures.are in
    rw c.in_ok-nodes.ensures few.members_are

pub with-requires-clause-changes : goal.with-requires-clause-changes
with-requires-clause-changes c =
    let fold = c.args.self.now in
    let name = catalog_at fold c.args.turn.number in
    let nodes = c.args.nodes.now.value in
    let edits = c.args.edits.items in
    let given : c.deref.result.now ≡ edits = c.deref.ensures.value in
    let put : c.in-Some.put ≡ nodes_put edits = rw (c.in-Some.is, given) at c.in_ok-listing_put.ensures.is in
    let listed : IsListing c.in-Some.put = rw c.in-Some.is at c.in_ok-listing_put.ensures.listing in
    let free : AreFree fold name edits = rw (c.in-Some.is, given) at c.in_ok-listing_put.ensures.free in
    let zones : c.deref-5.result.now ≡ map (λ n. n.zone) c.in-Some.put ++ map (λ n. n.zone) (nodes_replaced nodes edits) =
    c.deref-5.ensures.value ∙ (rw (c.deref-2.ensures, c.deref-3.ensures.value) at c.in_ok-zones.ensures) in
    let few = few_after fold name nodes edits c.args.turn.position c.requires.fold c.requires.listing c.requires.settled
    c.requires.edits free c.in-Some.put put listed c.deref-5.result.now zones c.in_ok-members.members.value _
    c.in_ok-members.ensures.are in
    rw c.in_ok-nodes.ensures few.changes_are

pub returns : goal.returns
returns c =
    let fold = c.args.self.now in
    let name = catalog_at fold c.args.turn.number in
    let nodes = c.args.nodes.now.value in
    let edits = c.args.edits.items in
    let given : c.deref.result.now ≡ edits = c.deref.ensures.value in
    let put : c.in-Some.put ≡ nodes_put edits = rw (c.in-Some.is, given) at c.in_ok-listing_put.ensures.is in
    let listed : IsListing c.in-Some.put = rw c.in-Some.is at c.in_ok-listing_put.ensures.listing in
    let free : AreFree fold name edits = rw (c.in-Some.is, given) at c.in_ok-listing_put.ensures.free in
    let few : length (edited nodes edits) ≤ 65536 =
    subst (λ (ns : List Node). length ns ≤ 65536) (c.deref-4.ensures ∙ c.in_ok-nodes.ensures)
    (omega (arith, c.len.ensures.count, c.if-len-gt-NODES.false)) in
    let is : IsListing (edited nodes edits) = few_listing fold name nodes edits c.args.turn.position c.requires.fold
    c.requires.listing c.requires.settled c.requires.edits free c.in-Some.put put listed few in
    let on : c.in_ok-nodes.nodes.value ≡ edited nodes edits = c.in_ok-nodes.ensures in
    record {
      listing = is;
      fold_is = c.in_ok-processed.ensures.fold ∙ ap (λ ns. process fold name ns c.args.turn.position) on;
      changes_are = c.in_ok-processed.ensures.changes ∙ ap (λ ns. changes fold name ns c.args.turn.position) on;
      each = subst (λ (ns : List Node). EachZone fold name ns c.args.turn.position c.in_ok-processed.processed.0
          c.in_ok-processed.processed.1) on c.in_ok-processed.ensures.each;
    }
