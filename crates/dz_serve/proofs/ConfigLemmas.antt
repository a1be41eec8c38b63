-- What is configured is allowed.
use Rattle.std.proofs.Common.{◌≡◌, inl, inr, ◌≤◌, Bool, List, [], ◌++◌, length, Option, None, Some, Ok, Err, refl, sym}
use Rattle.std.proofs.Common.{ap, subst, ◌∙◌}
use Rattle.std.proofs.lemmas.Bool.{cases_Bool}
use Rattle.std.specs.Prelude.{nat_lt, not, if◌then◌else◌}
use Rattle.std.specs.Option.{option_map}
use Rattle.toml.specs.Data.{Members}
use Rattle.dz_io.specs.declared.peer.Peer.{Peer}
use Rattle.dz_settings.specs.declared.config.CatalogSettings.{CatalogSettings}
use Rattle.dz_settings.specs.Config.{is_within_limits, has_each_once, has_secrets, IsAllowed}
use Rattle.dz_name.specs.Words.{Octets}
use Rattle.dz_io.specs.Device.{Gains, GainsPrefix, IsAtEnd}
use Rattle.dz_config.specs.declared.fault.ConfigFault.{ConfigFault}
use Rattle.dz_config.specs.declared.config.TheConstants.{TEXT_OCTETS}
use Rattle.dz_config.specs.Reading.{Reading, made, read_in}
use Rattle.dz_config.specs.Document.{addresses_of, judged, settings_of, said_of, config_of}
use Rattle.dz_config.specs.declared.config.Said.{Said}
use Rattle.dz_config.specs.declared.fault.ConfigFault.TheVariants.{OutOfLimits, Twice, BadSecret}
use Rattle.dz_serve.specs.Command.{bad_config, IsText, SaysBad}
use Rattle.dz_serve.specs.declared.status.ServeEnd.{ServeEnd}
use Rattle.dz_serve.specs.declared.status.ServeEnd.TheVariants as ends

tests_allowed : (config : List CatalogSettings) (beyond : Bool) (said t : Said) → said.config ≡ config
    → (if not (is_within_limits config) then Err OutOfLimits else if beyond then Err OutOfLimits else if not
    (has_each_once config) then Err Twice else if not (has_secrets config) then Err BadSecret else Ok said) ≡ Ok t
    → IsAllowed t.config
tests_allowed config beyond said t same is = elim (cases_Bool (is_within_limits config)) [
  | inl limits ↦ elim (cases_Bool beyond) [
    | inl more ↦ absurd (cc (rw (limits, more) at is))
    | inr few ↦ elim (cases_Bool (has_each_once config)) [
      | inl once ↦ elim (cases_Bool (has_secrets config)) [
        | inl usable ↦
            let one : said ≡ t = cc (rw (limits, few, once, usable) at is) in
            rw (sym one, same) (rw (limits, once, usable) refl)
        | inr unusable ↦ absurd (cc (rw (limits, few, once, unusable) at is))
      ]
      | inr twice ↦ absurd (cc (rw (limits, few, twice) at is))
    ]
  ]
  | inr out ↦ absurd (cc (rw out at is))
]

read_allowed : (r : Reading (Peer × (List CatalogSettings × List Peer))) (t : Said) → read_in judged r ≡ Ok t
    → IsAllowed t.config
read_allowed (Ok s) t is = tests_allowed s.1.0 (nat_lt 16 (length s.1.1))
    (record { listen = s.0; config = s.1.0; downstream = addresses_of s.1.1 }) t refl is
read_allowed (Err fault) t is = absurd (cc is)

made_allowed : (r : Reading Said) (t : Peer × List CatalogSettings)
    → ((said : Said) → r ≡ Ok said → IsAllowed said.config) → made (λ s. (s.listen, s.config)) r ≡ Ok t → IsAllowed t.1
made_allowed (Ok said) t each is =
    let same : (said.listen, said.config) ≡ t = cc (is) in
    subst (λ (t : Peer × List CatalogSettings). IsAllowed t.1) same (each said refl)
made_allowed (Err fault) t each is = absurd (cc is)

pub config_allowed : (table : Members) (t : Peer × List CatalogSettings) → config_of table ≡ Ok t → IsAllowed t.1
config_allowed table t is = made_allowed (said_of table) t (λ said. read_allowed (settings_of table) said) is

-- what was said of a fault
pub says_bad : (fault : ConfigFault) (how : ServeEnd) (before after : Option Octets) → how ≡ ends.BadInput
    → Gains (bad_config fault) before after → SaysBad fault how before after
says_bad fault how before after is gained = rw is gained

pub says_part : (fault : ConfigFault) (how : ServeEnd) (before after : Option Octets) → how ≡ ends.WriteFault
    → GainsPrefix (bad_config fault) before after → SaysBad fault how before after
says_part fault how before after is part = rw is part

-- a text that is no longer than a configuration was all there was
emptied : (octets text : Octets) (after : Option Octets) → Some octets ≡ option_map (λ rest. text ++ rest) after
    → IsAtEnd after → after ≡ Some []
emptied octets text None gives end = absurd (cc gives)
emptied octets text (Some rest) gives end = ap Some end

pub all_read : (octets text : Octets) (before after : Option Octets) → IsText text before after
    → length text ≤ TEXT_OCTETS → before ≡ Some octets → after ≡ Some []
all_read octets text before after is short told = emptied octets text after (sym told ∙ is.gives) (is.all short)
