use Rattle.std.proofs.Common.{◌≡◌, take}
use Rattle.dz_member.proofs.listing.Texts.try_clone.Given as goal

abbrev pub invariant-items : goal.invariant-items
invariant-items l = l.items.items ≡ take l.text-index l.self
