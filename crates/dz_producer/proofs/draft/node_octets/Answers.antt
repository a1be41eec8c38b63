use Rattle.std.proofs.Common.{ℕ, List, Option, ◌∙◌, ◌+◌, ap, arith, length, sym}
use Rattle.dz_producer.specs.Draft.{saturated}
use Rattle.dz_producer.specs.inner.Sizes.{pointer_octets, text_octets}
use Rattle.dz_producer.proofs.DraftLemmas.{node_size_is}
use Rattle.dz_producer.proofs.draft.node_octets.Goals as goal

pub returns-clause-octets : goal.returns-clause-octets
returns-clause-octets c =
    let owner = length c.wire.result.now + 6 + 1 + length c.octets.result.now in
    let is = node_size_is c.args.apex.now c.args.node.now owner
    (omega (arith, ap length c.wire.ensures.wire, ap length c.octets.ensures.octets)) in
    let pointers = c.pointer_octets-pointers.ensures.octets ∙ ap
    (λ (coo : Option (List (List ℕ))). pointer_octets owner c.args.node.now.zone coo) c.as_ref.ensures.value in
    c.text_octets.ensures.octets
    ∙ ap saturated (ap (λ (n : ℕ). n + text_octets owner c.as_slice.result.now) pointers
    ∙ (ap (λ (texts : List (List ℕ)). pointer_octets owner c.args.node.now.zone c.args.node.now.coo
    + text_octets owner texts) c.as_slice.ensures ∙ sym is))
