use Rattle.std.proofs.Common.{◌∙◌, sym, ap, arith, length, get_or, []}
use Rattle.dz_index.proofs.PartLemmas.{parts_length, part_at}
use Rattle.dz_index.proofs.keys.Keys.key.Goals as goal

pub part-requires-clause-within : goal.part-requires-clause-within
part-requires-clause-within c =
    let long = parts_length c.self.inside.octets.items c.self.inside.bounds.items c.self.invariant.some in
    omega (arith, long, ap length c.self.view_is, c.requires)

pub returns : goal.returns
returns c =
    let long = parts_length c.self.inside.octets.items c.self.inside.bounds.items c.self.invariant.some in
    rw (c.as_slice.ensures.value, c.as_slice-2.ensures.value) at c.part.ensures
    ∙ (sym (part_at c.self.inside.octets.items c.self.inside.bounds.items c.args.number
    (omega (arith, long, ap length c.self.view_is, c.requires)))
    ∙ ap (λ keys. get_or keys c.args.number []) c.self.view_is)
