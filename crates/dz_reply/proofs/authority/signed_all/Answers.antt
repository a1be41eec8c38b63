use Rattle.std.proofs.Common.{◌∙◌, ◌+◌, ap, List, ◌∷◌, [], length-append}
use Rattle.std.specs.Borrow.{Bor}
use Rattle.std.specs.List.{flat_map}
use Rattle.dz_record.specs.Record.{Record}
use Rattle.dz_reply.specs.Secure.{own_signed}
use Rattle.dz_reply.specs.inner.Signed.{set_shown}
use Rattle.dz_reply.proofs.GlueLemmas.{joined, joined_all}
use Rattle.dz_reply.proofs.authority.signed_all.Goals as goal

pub rrsets-preserved : goal.rrsets-preserved
rrsets-preserved c =
    rw c.push.ensures.items record {
      joined = joined (λ (rs : Bor (List Record)). own_signed c.args.version.now.records rs.now) set_shown
          c.args.rrsets.now c.rrsets.sets.items c.rrsets.rrset-index c.rrset-item.result c.signed_set.result
          c.rrsets-test.true c.rrset-item.is c.signed_set.ensures c.rrsets.invariant.joined;
      many = length-append c.rrsets.sets.items (c.signed_set.result ∷ []) ∙ ap (λ n. n + 1) c.rrsets.invariant.many;
    }

pub returns : goal.returns
returns c = joined_all (λ (rs : Bor (List Record)). own_signed c.args.version.now.records rs.now) c.args.rrsets.now
    (flat_map set_shown c.rrsets.sets.items) c.rrsets.rrset-index c.rrsets-test.false c.rrsets.invariant.joined
