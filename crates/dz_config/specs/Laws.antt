-- Judge: only texts that are no TOML document are said to be none.
use Rattle.dz_name.specs.Words.{Octets}
use Rattle.toml.specs.Data.{Members}
use Rattle.dz_config.specs.Config.{IsDocument, IsFaultOf}
use Rattle.dz_config.specs.declared.fault.ConfigFault.TheVariants.{NotToml}

-- no document has the fault NotToml
abbrev pub NotTomlIsExact : Type 0
NotTomlIsExact = (text : Octets) → IsFaultOf text NotToml → (table : Members) → IsDocument text table → ⊥
