use Rattle.std.proofs.Common.{arith, length-take-le}
use Rattle.dz_index.proofs.OctetLemmas.{first_octets, groups_in_order}
use Rattle.dz_index.proofs.octets.compare_group.Goals as goal

pub returns : goal.returns
returns c = rw (c.cmp.ensures, c.number_of_group.ensures, c.number_of_group-2.ensures)
    (groups_in_order _ _ (length-take-le 8 c.args.left.now c.requires.left)
    (length-take-le 8 c.args.right.now c.requires.right)
    (first_octets 8 c.args.left.now (λ i. omega (arith, c.type_inv.left i)))
    (first_octets 8 c.args.right.now (λ i. omega (arith, c.type_inv.right i))))
