use Rattle.std.proofs.Common.{◌≡◌, drop}
use Rattle.std.specs.List.{list_any}
use Rattle.dz_reply.specs.Secure.{begins_with}
use Rattle.dz_reply.proofs.authority.has_first.Given as goal

abbrev pub invariant-rrsets : goal.invariant-rrsets
invariant-rrsets l = list_any (λ rs. begins_with l.first rs.now) (drop l.rrset-index l.rrsets)
    ≡ list_any (λ rs. begins_with l.first rs.now) l.rrsets
