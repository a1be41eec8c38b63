-- Meaning: kept and forgotten zones, and the payloads that are written of them.
use Rattle.std.specs.Prelude.{◌≡◌, ◌<◌, ◌^◌, ℕ, true, [], ◌∷◌, ◌++◌, length, Option, Some, None, IfSome}
use Rattle.std.specs.Arc.{arc_value}
use Rattle.std.specs.Int.{w64, to_be_bytes, from_be_bytes}
use Rattle.dz_name.specs.Words.{Name, Octets}
use Rattle.dz_name.specs.Name.{wire_of, IsLabel, IsName}
use Rattle.dz_message.specs.Frame.{stream}
use Rattle.dz_message.specs.Piece.{written}
use Rattle.dz_zone.specs.Version.{Zone, IsVersion}
use Rattle.dz_outward.specs.Stream.{messages_of, is_fit}
use Rattle.dz_store.specs.declared.kept.Kept.{Kept}

-- a kept zone: its catalog, and its label there, which a catalog doesn't have; when it was refreshed; and its version
pub record KeptZone : Type 0 where
  pub zone : Name
  pub catalog : Name
  pub label : Option Octets
  pub refreshed : ℕ
  pub version : Zone

-- a kept zone, without where its version is in memory
abbrev pub meaning_of : Kept → KeptZone
meaning_of k = record {
  zone = k.zone;
  catalog = k.catalog;
  label = k.label;
  refreshed = k.refreshed;
  version = arc_value k.version;
}

-- a number in eight octets, the most significant first
unfoldable pub eight : ℕ → Octets
eight n = to_be_bytes w64 n

-- the number in the first eight octets
unfoldable pub number_of_eight : Octets → ℕ
number_of_eight octets = from_be_bytes w64 octets

-- a label preceded by its length; a catalog has one octet, 0
abbrev pub label_octets : Option Octets → Octets
label_octets None = 0 ∷ []
label_octets (Some label) = length label ∷ label

-- what a payload has before the version: 1, the zone, its catalog, its label there, and when it was refreshed
unfoldable pub head_octets : KeptZone → Octets
head_octets k = 1 ∷ (wire_of k.zone ++ (wire_of k.catalog ++ (label_octets k.label ++ eight k.refreshed)))

-- a version as it is sent, with ID 0
unfoldable pub sent : Zone → Octets
sent version = stream (written (messages_of 0 version))

-- the payload of a kept zone
unfoldable pub payload_of : KeptZone → Octets
payload_of k = head_octets k ++ sent k.version

-- the payload of a forgotten zone
unfoldable pub forgotten : Name → Octets
forgotten zone = 2 ∷ wire_of zone

-- what can be kept: a version of that zone which can be sent
pub record CanBeKept (k : KeptZone) : Type 0 where
  pub zone : IsName k.zone
  pub catalog : IsName k.catalog
  pub label : IfSome k.label (λ label. IsLabel label)
  pub refreshed : k.refreshed < 2 ^ 40
  pub apex : k.version.apex ≡ k.zone
  pub version : IsVersion k.version
  pub fit : is_fit k.version ≡ true
