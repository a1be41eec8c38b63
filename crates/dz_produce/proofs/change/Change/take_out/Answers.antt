use Rattle.std.specs.BTreeSet.{contains}
use Rattle.dz_name.specs.Name.{label_order}
use Rattle.dz_produce.proofs.ChangeLemmas.{one_dropped}
use Rattle.dz_produce.proofs.change.Change.take_out.Goals as goal

pub invariant_of-self-2 : goal.invariant_of-self-2
invariant_of-self-2 c =
    let was = c.self.invariant in
    let stays = one_dropped c.self.inside.version c.self.inside.dropped.items (contains label_order c.self.inside.left)
    (contains label_order c.remove.new.self) c.args.label was.stays c.remove.ensures.updates.0 in
    rw c.in_ok-push.ensures.items (record { known = was.known; lists = was.lists; stays = stays; octets = was.octets })
