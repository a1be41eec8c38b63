use Rattle.dz_member.proofs.PlaceLemmas.{empty_placed}
use Rattle.dz_member.proofs.listing.Listing.empty.Goals as goal

pub invariant_of-result : goal.invariant_of-result
invariant_of-result c = rw (c.new.ensures.items, c.new-2.ensures.items) empty_placed
