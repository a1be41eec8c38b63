-- Answer: the command `serve`: what its input configures, and what it says where that is nothing.
use Rattle.std.specs.Prelude.{⊤, ◌≡◌, ◌≢◌, ◌≤◌, ◌+◌, ℕ, Bool, true, List, [], ◌∷◌, ◌++◌, length, take, codes, Option}
use Rattle.std.specs.Prelude.{Some, Result, Ok, Err}
use Rattle.dz_name.specs.Words.{Octets}
use Rattle.dz_io.specs.Device.{Gains, GainsPrefix, Gives, IsAtEnd, Tells}
use Rattle.dz_io.specs.declared.peer.Peer.{Peer}
use Rattle.dz_settings.specs.declared.config.CatalogSettings.{CatalogSettings}
use Rattle.dz_history.specs.declared.entry.Entry.{Entry}
use Rattle.dz_config.specs.Answers.{Reads, ReadsDownstream}
use Rattle.dz_config.specs.Reading.{number_of}
use Rattle.dz_config.specs.declared.config.TheConstants.{TEXT_OCTETS}
use Rattle.dz_config.specs.declared.fault.ConfigFault.{ConfigFault}
use Rattle.dz_config.specs.declared.fault.ConfigError.{ConfigError}
use Rattle.dz_config.specs.declared.fault.ConfigError.TheVariants.{Fault, OutOfMemory}
use Rattle.dz_serve.specs.Rows.{Rows, AreUnused}
use Rattle.dz_serve.specs.Runs.{HasRunLogged, IsListOf}
use Rattle.dz_serve.specs.declared.status.ServeEnd.{ServeEnd}
use Rattle.dz_serve.specs.declared.status.ServeEnd.TheVariants as ends
use Rattle.dz_serve.specs.declared.served.ServerConfig.{ServerConfig}
use Rattle.dz_serve.specs.declared.command.Unconfigured.{Unconfigured}
use Rattle.dz_serve.specs.declared.command.Unconfigured.TheVariants as unconfigured

-- a text was read to the source's end, or as much of it as is longer than any configuration
pub record IsText (text : Octets) (before after : Option Octets) : Type 0 where
  pub gives : Gives text before after
  pub all : length text ≤ TEXT_OCTETS → IsAtEnd after

-- what was read from a text: its configuration and the addresses to which zones are sent, or its fault; where memory
-- runs out, nothing is told
abbrev pub IsServerConfig : Octets → Result ServerConfig ConfigError → Type 0
IsServerConfig octets (Ok server) =
    Reads octets (Ok (server.listen, server.config)) × ReadsDownstream octets (Ok server.downstream)
IsServerConfig octets (Err (Fault fault)) = Reads octets (Err (Fault fault))
IsServerConfig octets (Err OutOfMemory) = ⊤

-- what was read from an input with these octets: its configuration and the addresses to which zones are sent, or its
-- fault; where the source fails or memory runs out, nothing is told
abbrev pub IsServerConfigOf : Octets → Result ServerConfig Unconfigured → Type 0
IsServerConfigOf octets (Ok server) =
    Reads octets (Ok (server.listen, server.config)) × ReadsDownstream octets (Ok server.downstream)
IsServerConfigOf octets (Err (unconfigured.Bad fault)) = Reads octets (Err (Fault fault))
IsServerConfigOf octets (Err unconfigured.Read) = ⊤
IsServerConfigOf octets (Err unconfigured.OutOfMemory) = ⊤

-- the line that is said of a fault
abbrev pub bad_config : ConfigFault → Octets
bad_config fault = codes "bad config " ++ ((48 + number_of fault) ∷ 10 ∷ [])

-- the line was written; or the write failed after a prefix of it
abbrev pub SaysBad : ConfigFault → ServeEnd → Option Octets → Option Octets → Type 0
SaysBad fault ends.BadInput before after = Gains (bad_config fault) before after
SaysBad fault ends.WriteFault before after = GainsPrefix (bad_config fault) before after
SaysBad fault how before after = ⊥

-- an input has this fault, where it tells its octets
abbrev pub HasFault : Option Octets → ConfigFault → Type 0
HasFault input fault = (octets : Octets) → input ≡ Some octets → Reads octets (Err (Fault fault))

-- what is written where no worker was started: the fault of an input that is no configuration, as far as it could be
-- written; and else nothing
abbrev pub IsIdle : ServeEnd → Option Octets → Option Octets → Type 0
IsIdle ends.BadInput input held = (fault : ConfigFault) × HasFault input fault × Tells (bad_config fault) held
IsIdle ends.WriteFault input held =
    (fault : ConfigFault) × HasFault input fault × ((n : ℕ) × Tells (take n (bad_config fault)) held)
IsIdle how input held = Tells [] held

-- a server ran with the configuration of the input and sent zones to the addresses that it has: the list begins with
-- the configuration, and the log of the list is written, with as many lines of want of memory as dials ended so
pub record IsServed (keeps : Bool) (how : ServeEnd) (may_fail : Type 0) (may_give : ℕ → Bool)
    (input held : Option Octets) (list : List Entry) (before after : Rows) : Type 0 where
  pub listen : Peer
  pub config : List CatalogSettings
  pub downstream : List Octets
  pub reads : (octets : Octets) → input ≡ Some octets → Reads octets (Ok (listen, config))
  pub lists : (octets : Octets) → input ≡ Some octets → ReadsDownstream octets (Ok downstream)
  pub begins : IsListOf config list
  pub ran : HasRunLogged keeps how downstream may_fail may_give held list listen before after

-- what came of the command, of a server that keeps zones or not: no worker was started, the list has no entry, and
-- what was opened is closed; or the list has begun
pub record IsServe (keeps : Bool) (how : ServeEnd) (may_fail : Type 0) (may_give : ℕ → Bool) (may_stop : Bool)
    (input held : Option Octets) (list : List Entry) (before after : Rows) : Type 0 where
  pub unserved : list ≡ [] → IsIdle how input held × AreUnused before after
  pub served : list ≢ [] → IsServed keeps how may_fail may_give input held list before after
  pub done : how ≡ ends.Done → (list ≢ []) × (may_stop ≡ true)
  pub bad : how ≡ ends.BadInput → (list ≡ []) × (after ≡ before)
