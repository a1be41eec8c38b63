use Rattle.std.proofs.Common.{add-zero}
use Rattle.dz_request.proofs.FrameLemmas.{same_header}
use Rattle.dz_request.proofs.frame.reply_header.Goals as goal

pub returns : goal.returns
returns c =
    rw c.reply_flags.ensures
    (same_header _ _ _ _ _ _ _ _ (rw add-zero at c.low.ensures) (rw add-zero at c.low-2.ensures) c.low-3.ensures)
