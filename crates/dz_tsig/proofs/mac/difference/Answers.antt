use Rattle.dz_tsig.proofs.HmacLemmas.{same_so_far, still_none, same_octets}
use Rattle.dz_tsig.proofs.mac.difference.Goals as goal

pub octets-preserved : goal.octets-preserved
octets-preserved c = record {
  same = same_so_far c.args.octets.now c.args.mac.now c.octets.difference c.octets.at c.octets.invariant.same;
  none = still_none c.args.octets.now c.args.mac.now c.octets.difference c.octets.at c.octets.invariant.none;
}

pub returns-clause-same : goal.returns-clause-same
returns-clause-same c = λ e. same_octets c.args.octets.now c.args.mac.now c.octets.at c.requires c.told-mac
    c.octets-test.false (c.octets.invariant.same e)
