use Rattle.std.proofs.Common.{◌≡◌, take}
use Rattle.dz_history.proofs.held.share_all.Given as goal

abbrev pub invariant-held : goal.invariant-held
invariant-held l = l.copies.items ≡ take l.one-index l.held
