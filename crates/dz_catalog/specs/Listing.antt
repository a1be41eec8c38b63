-- Meaning: what a catalog zone lists, or why it is broken (RFC 9432 sections 4 and 5.1).
use Rattle.std.specs.Prelude.{List, Option, Some, None, Result, Ok, Err}
use Rattle.dz_name.specs.Words.{Name}
use Rattle.dz_record.specs.Record.{Record}
use Rattle.dz_member.specs.declared.listing.Node.{Node}
use Rattle.dz_catalog.specs.Member.{nodes_of}
use Rattle.dz_catalog.specs.Broken.{broken_of}
use Rattle.dz_member.specs.declared.listing.Broken.{Broken as Reason}

-- a listing of member nodes, or the reason why the catalog is broken
abbrev pub listing_from : List Node → Option Reason → Result (List Node) Reason
listing_from nodes None = Ok nodes
listing_from nodes (Some reason) = Err reason

-- the member nodes that a catalog lists, or the first reason why it is broken
abbrev pub listing_of : Name → List Record → Result (List Node) Reason
listing_of apex records = listing_from (nodes_of apex records) (broken_of apex records)
