-- Inner: the records of a difference, by the nodes after the change, those that go and those that come.
use Rattle.std.specs.Prelude.{ℕ, List, [], ◌∷◌, ◌++◌, flat_map}
use Rattle.dz_name.specs.Words.{Name}
use Rattle.dz_record.specs.Record.{Record}
use Rattle.dz_zone.specs.Version.{Zone}
use Rattle.dz_xfr.specs.Apex.{held_serial}
use Rattle.dz_member.specs.declared.listing.Node.{Node}
use Rattle.dz_producer.specs.Amended.{listed, digest_of}
use Rattle.dz_producer.specs.Records.{soa, node_records}

-- records of some nodes of a catalog, and its digest
abbrev pub half_of : Name → ℕ → List Node → List Node → List Record
half_of apex serial all nodes = flat_map (node_records apex) nodes ++ digest_of apex serial all ∷ []

-- the records of the difference, in their order (RFC 1995 section 4)
abbrev pub spelled : Zone → ℕ → List Node → List Node → List Node → List Record
spelled old serial nodes gone added =
    soa old.apex serial
    ∷ soa old.apex (held_serial old)
    ∷ (half_of old.apex (held_serial old) (listed old) gone ++ soa old.apex serial
    ∷ (half_of old.apex serial nodes added ++ soa old.apex serial ∷ []))
