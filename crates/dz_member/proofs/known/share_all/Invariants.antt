use Rattle.std.proofs.Common.{◌≡◌, take}
use Rattle.dz_member.proofs.known.share_all.Given as goal

abbrev pub invariant-known : goal.invariant-known
invariant-known l = l.copies.items ≡ take l.one-index l.known
