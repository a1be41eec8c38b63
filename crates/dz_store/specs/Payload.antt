-- Meaning: what a payload says of a zone: it is read strictly, as just what is written of a kept or a forgotten one.
use Rattle.std.specs.Prelude.{ℕ, ◌+◌, ◌^◌, Bool, ◌==◌, ◌&&◌, ◌||◌, nat_le, nat_lt, is_some, [], ◌∷◌, length, take}
use Rattle.std.specs.Prelude.{drop, slice_index, Option, Some, None, Ok, Err, option_map, option_and_then}
use Rattle.std.specs.Prelude.{if◌then◌else◌}
use Rattle.std.specs.Str.{bytes_eq}
use Rattle.dz_name.specs.Words.{Name, Octets}
use Rattle.dz_name.specs.Label.{label_of}
use Rattle.dz_name.specs.Name.{wire_of}
use Rattle.dz_name.specs.Reading.{Reading, name_at}
use Rattle.dz_header.specs.Shape.{◌>>=◌}
use Rattle.dz_zone.specs.Version.{Zone}
use Rattle.dz_take.specs.Outcome.{outcome}
use Rattle.dz_take.specs.Transfer.{Transfer, Decision, up_to_date, new, refused}
use Rattle.dz_take.specs.declared.ask.Ask.TheVariants.{Axfr}
use Rattle.dz_outward.specs.Stream.{is_fit}
use Rattle.dz_store.specs.Kept.{KeptZone, number_of_eight, payload_of}
use Rattle.dz_store.specs.declared.places.TheConstants.{MOST}

-- the name that was read at the beginning of some octets, and what follows it
abbrev pub name_and_rest : Octets → Reading → Option (Name × Octets)
name_and_rest octets (Ok r) = Some (r.0, drop r.1 octets)
name_and_rest octets (Err fault) = None

-- the name at the beginning of some octets, and what follows it
unfoldable pub first_name : Octets → Option (Name × Octets)
first_name octets = name_and_rest octets (name_at octets 0)

-- a kept zone before its version is read, and the octets of the version
pub record Head : Type 0 where
  pub zone : Name
  pub catalog : Name
  pub label : Option Octets
  pub refreshed : ℕ
  pub stream : Octets

-- what follows both names: a label preceded by its length, a moment in 8 octets, and the octets of the version
unfoldable pub after_names : Name → Name → Octets → Option Head
after_names zone catalog octets =
    if nat_lt (length octets) (slice_index octets 0 + 9) then None
    else Some (record {
      zone = zone;
      catalog = catalog;
      label = label_of (take (slice_index octets 0) (drop 1 octets));
      refreshed = number_of_eight (drop (slice_index octets 0 + 1) octets);
      stream = drop (slice_index octets 0 + 9) octets;
    })

-- both names, and what follows them
unfoldable pub names_of : Octets → Option Head
names_of octets = do
  zone ← first_name octets
  catalog ← first_name zone.1
  after_names zone.0 catalog.0 catalog.1

-- the head of a payload of a kept zone, whose first octet is 1
unfoldable pub head_of : Octets → Option Head
head_of payload = if slice_index payload 0 == 1 then names_of (drop 1 payload) else None

-- the transfer of the whole zone with ID 0, where none is held
abbrev pub transfer_of : Name → Transfer
transfer_of zone = record { apex = zone; ask = Axfr; id = 0; held = None }

-- the version that came of a transfer
abbrev pub new_version : Decision → Option Zone
new_version up_to_date = None
new_version (new zone) = Some zone
new_version (refused fault) = None

-- the version of a zone whose stream some octets are
unfoldable pub version_in : Name → Octets → Option Zone
version_in zone octets = new_version (outcome (transfer_of zone) octets)

-- a kept zone, of its head and its version
abbrev pub kept_with : Head → Zone → KeptZone
kept_with head version = record {
  zone = head.zone;
  catalog = head.catalog;
  label = head.label;
  refreshed = head.refreshed;
  version = version;
}

-- just this is written of the kept zone
unfoldable pub is_written_of : KeptZone → Octets → Bool
is_written_of k payload = nat_lt k.refreshed (2 ^ 40) && (is_fit k.version && bytes_eq payload (payload_of k))

-- the kept zone, where just this payload is written of it
abbrev pub if_written : Octets → KeptZone → Option KeptZone
if_written payload k = if is_written_of k payload then Some k else None

-- the kept zone of which a payload is written
unfoldable pub kept_of : Octets → Option KeptZone
kept_of payload = do
  head ← head_of payload
  version ← version_in head.zone head.stream
  if_written payload (kept_with head version)

-- the name of which all these octets are the wire form
abbrev pub if_whole : Octets → Name × Octets → Option Name
if_whole octets name = if bytes_eq octets (wire_of name.0) then Some name.0 else None

-- the name of which some octets are the wire form
unfoldable pub whole_name : Octets → Option Name
whole_name octets = option_and_then (if_whole octets) (first_name octets)

-- the forgotten zone of which a payload is written, whose first octet is 2
unfoldable pub forgotten_of : Octets → Option Name
forgotten_of payload = if slice_index payload 0 == 2 then whole_name (drop 1 payload) else None

-- a payload can be read where it is written of a kept or a forgotten zone; none of these is longer than `MOST`
unfoldable pub reads : Octets → Bool
reads payload = nat_le (length payload) MOST && (is_some (forgotten_of payload) || is_some (kept_of payload))

-- the kept zone's name, or else the forgotten one's
abbrev pub zone_or : Option KeptZone → Option Name → Option Name
zone_or (Some k) other = Some k.zone
zone_or None other = other

-- the zone that a payload is of
unfoldable pub zone_of : Octets → Option Name
zone_of payload = zone_or (kept_of payload) (forgotten_of payload)
