use Rattle.std.proofs.Common.{◌≡◌, ◌≤◌, ◌-◌, length, true}
use Rattle.dz_name.specs.Name.{is_within}
use Rattle.dz_lookup.specs.Chain.{chain_from, chain_of}
use Rattle.dz_lookup.specs.inner.Links.{IsNext}
use Rattle.dz_lookup.proofs.chain.follow.Given as goal

abbrev pub invariant-trail : goal.invariant-trail
invariant-trail g l = record {
  few : length l.chain ≤ 16;
  within : is_within l.asked l.version.apex ≡ true;
  next : IsNext l.asked l.chain;
  rest : chain_from (16 - length l.chain) l.version.apex l.version.records l.kind l.chain l.asked
      ≡ chain_of l.version.apex l.version.records l.name l.kind;
}

abbrev pub decreases-trail : goal.decreases-trail
decreases-trail g l = 16 - length l.chain
