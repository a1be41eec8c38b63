use Rattle.std.proofs.Common.{◌∙◌, ◌+◌, ◌++◌, ◌∷◌, [], refl, ap, arith, length}
use Rattle.dz_index.specs.inner.Parts.{parts_of}
use Rattle.dz_index.proofs.PartLemmas.{parts_length, part_added}
use Rattle.dz_index.proofs.keys.Keys.push.Goals as goal

pub push_part-requires : goal.push_part-requires
push_part-requires c =
    let long = parts_length c.self.inside.octets.items c.self.inside.bounds.items c.self.invariant.some in
    omega (arith, long, ap length c.self.view_is, c.self.invariant.room, c.requires.few, c.requires.room)

pub returns-clause-value : goal.returns-clause-value
returns-clause-value c =
    let octets = c.self.inside.octets.items in
    let bounds = c.self.inside.bounds.items in
    let key = c.args.key.now in
    ap (λ o. parts_of o c.push_part.new.bounds.items) c.in_ok-push_part.ensures.octets
    ∙ (ap (λ b. parts_of (octets ++ key) b) c.in_ok-push_part.ensures.bounds
    ∙ (part_added octets key bounds (length octets + length key) c.self.invariant refl
    ∙ ap (λ keys. keys ++ key ∷ []) c.self.view_is))
