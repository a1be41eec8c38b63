use Rattle.std.proofs.Common.{refl}
use Rattle.dz_member.proofs.PlaceLemmas.{placed_more}
use Rattle.dz_member.proofs.sort.all.Goals as goal

pub nodes-preserved : goal.nodes-preserved
nodes-preserved c =
    rw c.in_ok-push.ensures.items
    (placed_more c.args.nodes.now c.nodes.all.items _ c.nodes.place c.index-nodes-place.result c.nodes-test.true
    c.index-nodes-place.is refl c.of.ensures c.nodes.invariant)
