-- Meaning: what a text configures, or its least fault.
use Rattle.std.specs.Prelude.{◌≡◌, ◌≤◌, length, Some, Err, IsUtf8}
use Rattle.dz_name.specs.Words.{Octets}
use Rattle.toml.specs.Data.{Members}
use Rattle.toml.specs.Parse.{parse_document}
use Rattle.dz_config.specs.Document.{config_of}
use Rattle.dz_config.specs.declared.config.TheConstants.{TEXT_OCTETS}
use Rattle.dz_config.specs.declared.fault.ConfigFault.{ConfigFault}
use Rattle.dz_config.specs.declared.fault.ConfigFault.TheVariants.{NotToml}

-- a text of at most 1,048,576 octets that is UTF-8 and a TOML document: its table
pub record IsDocument (text : Octets) (table : Members) : Type 0 where
  pub short : length text ≤ TEXT_OCTETS
  pub utf8 : IsUtf8 text
  pub toml : parse_document text ≡ Some table

-- a fault of a text: the least of its document, or, where it is no document, NotToml; no other fault comes without one
pub record IsFaultOf (text : Octets) (fault : ConfigFault) : Type 0 where
  pub least : (table : Members) → IsDocument text table → config_of table ≡ Err fault
  pub document : (fault ≡ NotToml → ⊥) → (table : Members) × IsDocument text table
