use Rattle.std.proofs.Common.{arith, ◌≡◌, ◌<◌, ◌+◌, ◌∙◌, ap, length, get_or, suc}
use Rattle.dz_lookup.specs.inner.Links.{behind, pairs_of}
use Rattle.dz_lookup.proofs.LinkLemmas.{length_pairs, later_name}
use Rattle.dz_lookup.proofs.chain.Chain.target.Goals as goal

pub returns-clause-next : goal.returns-clause-next
returns-clause-next c d more =
    let items = c.self.inside.records.items in
    let first = c.self.inside.first in
    let within : c.args.number + 1 < length c.self.inside.records.items =
    omega (arith, more, ap length c.self.view_is, length_pairs c.self.inside.first c.self.inside.records.items) in
    let next : suc c.args.number ≡ c.args.number + 1 = omega arith in
    c.behind.ensures ∙ ((λ i. behind (c.requires.name d i) (c.record.ensures d i))
    ∙ rw (← c.self.view_is)
    (later_name first items c.args.number d d within ∙ ap (λ k. (get_or (pairs_of first items) k d).0) next))
