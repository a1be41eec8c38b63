use Rattle.std.proofs.Common.{arith, drop}
use Rattle.dz_index.proofs.KeyLemmas.{label_end, ended_next}
use Rattle.dz_index.proofs.sort_key.put_label.Goals as goal

pub octets-init : goal.octets-init
octets-init c = record {
  within = omega arith;
  low = omega (arith, c.requires.within, c.requires.room);
  key = label_end c.args.end c.args.octets.now _ c.args.label.now (omega (arith, c.requires.room)) c.put.ensures;
  room = omega (arith, c.requires.room);
}

pub octets-preserved : goal.octets-preserved
octets-preserved c = record {
  within = omega (arith, c.octets.invariant.within);
  low = omega (arith, c.octets.invariant.low, c.put_octet-begin.ensures.front);
  key = ended_next c.args.label.now (drop c.octets.begin c.octets.octets) (drop c.args.end c.args.octets.now) _
      c.octets.left c.octets-test.true c.octets.invariant.within c.octets.invariant.key
      c.put_octet-begin.ensures.octets;
  room = omega (arith, c.octets.invariant.room, c.put_octet-begin.ensures.room, c.octets-test.true);
}
