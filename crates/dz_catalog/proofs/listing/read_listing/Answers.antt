use Rattle.dz_catalog.proofs.ListingLemmas.{reads_broken}
use Rattle.dz_catalog.proofs.listing.read_listing.Goals as goal

pub returns-in-Some : goal.returns-in-Some
returns-in-Some c = reads_broken c.args.version.now.apex c.args.version.now.records _ c.in-Some.ensures
