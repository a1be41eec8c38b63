-- Judge: a catalog's listing doesn't depend on the order of its records (RFC 9432 section 4).
use Rattle.std.specs.Prelude.{◌≡◌, List}
use Rattle.dz_name.specs.Words.{Name}
use Rattle.dz_record.specs.Record.{Record}
use Rattle.dz_record.specs.Records.{in_order}
use Rattle.dz_catalog.specs.Listing.{listing_of}

-- records that are the same once they are put in order have one listing, or one reason
abbrev pub OrderIsFree : Type 0
OrderIsFree = (apex : Name) (rs ss : List Record) → in_order rs ≡ in_order ss → listing_of apex rs ≡ listing_of apex ss
