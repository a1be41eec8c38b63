-- Answer: what the readers of a listing and of edits answer.
use Rattle.std.specs.Prelude.{◌≡◌, ◌<◌, ◌+◌, ◌⊎◌, List, length, Result, Ok, Err, ⊤}
use Rattle.dz_member.specs.declared.listing.Node.{Node}
use Rattle.dz_member.specs.declared.listing.Broken.{Broken as Reason}
use Rattle.dz_zone.specs.Apart.{missing_in}
use Rattle.dz_zone.specs.Version.{Zone}
use Rattle.dz_zone.specs.declared.apart.TheConstants.{MOST_APART}
use Rattle.dz_catalog.specs.Broken.{broken_records, by_count}
use Rattle.dz_catalog.specs.declared.fault.CatalogError.{CatalogError}
use Rattle.dz_catalog.specs.declared.fault.CatalogError.TheVariants.{Broken, OutOfMemory}

-- what a call read: that listing or that reason; out of memory tells nothing
abbrev pub Reads : Result (List Node) CatalogError → Result (List Node) Reason → Type 0
Reads (Ok nodes) listing = listing ≡ Ok nodes
Reads (Err (Broken reason)) listing = listing ≡ Err reason
Reads (Err OutOfMemory) listing = ⊤

-- why no edits lead from an earlier version to a later one: too many records differ, or that one is broken for a reason
-- other than the number of its members
abbrev pub IsNotRead : Zone → Zone → Type 0
IsNotRead before after =
    (MOST_APART < length (missing_in after.records before.records) + length (missing_in before.records after.records))
    ⊎ (broken_records after.apex after.records ≡ by_count after.apex after.records → ⊥)
