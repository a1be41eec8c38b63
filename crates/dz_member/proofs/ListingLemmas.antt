-- Listings.
use Rattle.std.proofs.Common.{[], refl, arith}
use Rattle.std.specs.List.Sorted.{IsStrictlySortedBy}
use Rattle.dz_member.specs.Listing.{IsListing}

pub empty_listing : IsListing []
unfolding IsStrictlySortedBy
empty_listing = record { labels = tt; zones = refl; few = omega arith }
