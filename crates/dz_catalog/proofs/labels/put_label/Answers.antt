use Rattle.std.specs.BTreeSet.{contains}
use Rattle.dz_name.specs.Name.{label_order}
use Rattle.dz_catalog.proofs.PlaceLemmas.{put_none, put_one}
use Rattle.dz_catalog.proofs.labels.put_label.Goals as goal

pub returns-in-None : goal.returns-in-None
returns-in-None c q =
    put_none c.args.apex.now c.args.name.now q (contains label_order c.args.labels.now q) c.in-None.ensures

pub returns-in_ok-insert-in-Some : goal.returns-in_ok-insert-in-Some
returns-in_ok-insert-in-Some c q =
    put_one c.args.apex.now c.args.name.now c.in-Some.label q (contains label_order c.args.labels.now q)
    (contains label_order c.insert.new.self q) c.in-Some.ensures (c.in_ok-insert-in-Some.ensures.updates.0 q)
