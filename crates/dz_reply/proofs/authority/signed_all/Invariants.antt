use Rattle.std.proofs.Common.{◌≡◌, ◌++◌, drop, length}
use Rattle.std.specs.List.{flat_map}
use Rattle.dz_reply.specs.Secure.{own_signed}
use Rattle.dz_reply.specs.inner.Signed.{set_shown}
use Rattle.dz_reply.proofs.authority.signed_all.Given as goal

abbrev pub invariant-rrsets : goal.invariant-rrsets
invariant-rrsets l = record {
  joined : flat_map set_shown l.sets.items ++ flat_map (λ rs. own_signed l.version.records rs.now)
      (drop l.rrset-index l.rrsets) ≡ flat_map (λ rs. own_signed l.version.records rs.now) l.rrsets;
  many : length l.sets.items ≡ l.rrset-index;
}
