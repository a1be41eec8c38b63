use Rattle.std.proofs.lemmas.Option.{slice_get-get_or}
use Rattle.dz_member.proofs.PlaceLemmas.{place_within, node_placed, none_placed}
use Rattle.dz_member.proofs.listing.node_at.Goals as goal

pub bounds-nodes-places : goal.bounds-nodes-places
bounds-nodes-places c =
    place_within c.args.nodes.now c.args.places.now c.args.number _ c.requires c.if-number-places.true
    (slice_get-get_or c.args.places.now c.args.number 0 c.if-number-places.true)

pub returns-then-number-places : goal.returns-then-number-places
returns-then-number-places c =
    node_placed c.args.nodes.now c.args.places.now c.args.number _ c.index-nodes-places.result c.requires
    c.if-number-places.true
    (slice_get-get_or c.args.places.now c.args.number 0 c.if-number-places.true) c.index-nodes-places.is

pub returns-else-number-places : goal.returns-else-number-places
returns-else-number-places c =
    none_placed c.args.nodes.now c.args.places.now c.args.number c.requires c.if-number-places.false
