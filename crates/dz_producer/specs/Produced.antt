-- Meaning: the catalog of nodes.
use Rattle.std.specs.Prelude.{ℕ, List}
use Rattle.dz_name.specs.Words.{Name}
use Rattle.dz_member.specs.declared.listing.Node.{Node}
use Rattle.dz_zone.specs.Version.{Zone, zone_of}
use Rattle.dz_producer.specs.Records.{all_records}

-- the catalog of these nodes with this serial
abbrev pub produced : Name → ℕ → List Node → Zone
produced apex serial nodes = zone_of apex (all_records apex serial nodes)
