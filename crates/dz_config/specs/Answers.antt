-- Answer: what the readers of a configuration answer.
use Rattle.std.specs.Prelude.{◌≡◌, List, Result, Ok, Err, ⊤}
use Rattle.dz_io.specs.declared.peer.Peer.{Peer}
use Rattle.dz_settings.specs.declared.config.CatalogSettings.{CatalogSettings}
use Rattle.dz_name.specs.Words.{Octets}
use Rattle.toml.specs.Data.{Members}
use Rattle.dz_config.specs.Reading.{Reading}
use Rattle.dz_config.specs.Document.{config_of, downstream_of}
use Rattle.dz_config.specs.declared.config.Said.{Said}
use Rattle.dz_config.specs.declared.fault.ConfigError.{ConfigError}
use Rattle.dz_config.specs.declared.fault.ConfigError.TheVariants.{Fault, OutOfMemory}
use Rattle.dz_config.specs.Config.{IsDocument, IsFaultOf}

-- what a call read: what the text's document gives, or its fault; out of memory tells nothing
abbrev pub ReadsBy : {X : Type 0} → (Members → Reading X) → Octets → Result X ConfigError → Type 0
ReadsBy read text (Ok x) = (table : Members) × IsDocument text table × (read table ≡ Ok x)
ReadsBy read text (Err (Fault fault)) = IsFaultOf text fault
ReadsBy read text (Err OutOfMemory) = ⊤

-- what a call read of the configuration
abbrev pub Reads : Octets → Result (Peer × List CatalogSettings) ConfigError → Type 0
Reads text result = ReadsBy config_of text result

-- what a call read of the addresses to which zones are sent
abbrev pub ReadsDownstream : Octets → Result (List Octets) ConfigError → Type 0
ReadsDownstream text result = ReadsBy downstream_of text result

-- what a call read of a document: what it says, or its fault; out of memory tells nothing
abbrev pub ReadsTable : Result Said ConfigError → Reading Said → Type 0
ReadsTable (Ok said) reading = reading ≡ Ok said
ReadsTable (Err (Fault fault)) reading = reading ≡ Err fault
ReadsTable (Err OutOfMemory) reading = ⊤
