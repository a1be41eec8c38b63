use Rattle.dz_zone.proofs.version.check.Goals as goal

pub check_risen-requires : goal.check_risen-requires
check_risen-requires c = rw c.as_slice.ensures.value at (rw c.in-Some.is at c.in_ok-index_rising.ensures)
