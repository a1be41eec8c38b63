use Rattle.std.proofs.Common.{rules}
use Rattle.dz_member.proofs.OctetLemmas.{numbers_in_order}
use Rattle.dz_member.proofs.keyed.compare_leads.Goals as goal

pub returns : goal.returns
returns c = rw (c.cmp.ensures, c.from_be_bytes.ensures, c.from_be_bytes-2.ensures)
    (numbers_in_order c.args.left.now c.args.right.now (search rules) (search rules) c.fits-left c.fits-right)
