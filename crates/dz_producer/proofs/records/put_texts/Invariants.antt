use Rattle.std.proofs.Common.{◌≡◌, ◌++◌, take, map}
use Rattle.dz_producer.specs.Records.{uncached}
use Rattle.dz_producer.proofs.records.put_texts.Given as goal

abbrev pub invariant-texts : goal.invariant-texts
invariant-texts l = l.out.items ≡ l.fn.out.items ++ map (uncached l.owner 16) (take l.text-index l.texts)
