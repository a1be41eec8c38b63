-- Meaning: the configuration that a document has, or the least fault of it. A document is a table as TOML defines it
-- (TOML 1.1): however it is written, by headers, dotted keys or inline tables.
use Rattle.std.specs.Prelude.{Bool, ◌||◌, not, nat_le, nat_lt, List, [], ◌∷◌, length, map, codes, Option, Some, None}
use Rattle.std.specs.Prelude.{Result, Ok, Err, if◌then◌else◌}
use Rattle.std.specs.List.{list_any}
use Rattle.std.specs.Option.{option_and_then, option_map_or}
use Rattle.std.specs.Str.{bytes_eq}
use Rattle.dz_io.specs.declared.peer.Peer.{Peer}
use Rattle.dz_settings.specs.Config.{is_within_limits, has_each_once, has_secrets}
use Rattle.dz_settings.specs.declared.config.CatalogSettings.{CatalogSettings}
use Rattle.dz_settings.specs.declared.config.GroupSettings.{GroupSettings}
use Rattle.dz_settings.specs.declared.config.Policy.{Policy}
use Rattle.dz_settings.specs.declared.key.Key.{Key}
use Rattle.dz_settings.specs.declared.limits.TheConstants.{SECRET_OCTETS}
use Rattle.dz_name.specs.Text.{name_of_text}
use Rattle.dz_name.specs.Words.{Name, Octets}
use Rattle.hex.specs.Hex.{decode_of}
use Rattle.hex.specs.declared.error.FromHexError.{FromHexError}
use Rattle.toml.specs.Data.{Data, Items, no_items, item, Members, no_members, member, get_member, as_str, as_array}
use Rattle.toml.specs.Data.{as_table}
use Rattle.dz_settings.specs.Peer.{host_of, peer_of, policy_of}
use Rattle.dz_config.specs.Reading.{Reading, both, made, read_in, gathered}
use Rattle.dz_config.specs.declared.downstream.TheConstants.{DOWNSTREAM}
use Rattle.dz_config.specs.declared.config.Said.{Said}
use Rattle.dz_config.specs.declared.fault.ConfigFault.TheVariants.{UnknownKey, MissingValue, BadName, UnknownPolicy}
use Rattle.dz_config.specs.declared.fault.ConfigFault.TheVariants.{BadPeer, OutOfLimits, Twice, BadSecret}
use Rattle.dz_config.specs.declared.keys.Place.{Place}
use Rattle.dz_config.specs.declared.keys.Place.TheVariants.{Document, Catalog, Group}

-- a key of the document, of a catalog or of a group
abbrev pub is_key : Place → Octets → Bool
is_key Document key =
    bytes_eq key (codes "listen") || (bytes_eq key (codes "catalog") || bytes_eq key (codes "downstream"))
is_key Catalog key =
    bytes_eq key (codes "name") || (bytes_eq key (codes "policy") || (bytes_eq key (codes "primaries")
    || (bytes_eq key (codes "group") || (bytes_eq key (codes "key") || bytes_eq key (codes "secret")))))
is_key Group key = bytes_eq key (codes "word") || (bytes_eq key (codes "policy") || bytes_eq key (codes "primaries"))

-- the keys of a table
abbrev pub keys_of : Members → List Octets
keys_of no_members = []
keys_of (member key value members) = key ∷ keys_of members

-- success where a table has no unknown key
abbrev pub known : Place → Members → Reading (Unit {0})
known place table = if list_any (λ key. not (is_key place key)) (keys_of table) then Err UnknownKey else Ok tt

-- a value of the expected kind, which is missing where there is none
abbrev pub wanted : {X : Type 0} → Option X → Reading X
wanted (Some x) = Ok x
wanted None = Err MissingValue

-- the values of an array
abbrev pub list_of : Items → List Data
list_of no_items = []
list_of (item value items) = value ∷ list_of items

-- the text at a key
abbrev pub text_at : Octets → Members → Reading Octets
text_at key table = wanted (option_and_then as_str (get_member key table))

-- the values of the array at a key
abbrev pub values_at : Octets → Members → Reading (List Data)
values_at key table = made list_of (wanted (option_and_then as_array (get_member key table)))

-- a name, where its text can be read
abbrev pub name_read : {E : Type 0} → Result Name E → Reading Name
name_read (Ok name) = Ok name
name_read (Err fault) = Err BadName

-- the name of a text
abbrev pub name_from : Octets → Reading Name
name_from text = name_read (name_of_text text)

-- the policy of a text
abbrev pub policy_from : Octets → Reading Policy
policy_from text = option_map_or Ok (policy_of text) (Err UnknownPolicy)

-- the peer of a text
abbrev pub peer_from : Octets → Reading Peer
peer_from text = option_map_or Ok (peer_of text) (Err BadPeer)

-- a primary of a catalog or a group
abbrev pub primary_of : Data → Reading Peer
primary_of value = read_in peer_from (wanted (as_str value))

-- the primaries of a catalog or a group
abbrev pub primaries_of : Members → Reading (List Peer)
primaries_of table = read_in (λ values. gathered (map primary_of values)) (values_at (codes "primaries") table)

-- the group of a table
abbrev pub group_in : Members → Reading GroupSettings
group_in table =
    made (λ p. record { word = p.1.0; policy = p.1.1.0; primaries = p.1.1.1 })
    (both (known Group table) (both (text_at (codes "word") table)
    (both (read_in policy_from (text_at (codes "policy") table)) (primaries_of table))))

-- the group of a value, which must be a table
abbrev pub group_of : Data → Reading GroupSettings
group_of value = read_in group_in (wanted (as_table value))

-- the groups of a catalog, by its key `group`, which may be missing
abbrev pub groups_from : Option Data → Members → Reading (List GroupSettings)
groups_from None table = Ok []
groups_from (Some value) table = read_in (λ values. gathered (map group_of values)) (values_at (codes "group") table)

-- the groups of a catalog
abbrev pub groups_of : Members → Reading (List GroupSettings)
groups_of table = groups_from (get_member (codes "group") table) table

-- a secret of at most 64 octets; a longer one reads as the secret of no octets, which is refused after everything else
abbrev pub secret_kept : Octets → Octets
secret_kept octets = if nat_le (length octets) SECRET_OCTETS then octets else []

-- a secret as it was read from hex; a text that isn't hex reads as the secret of no octets
abbrev pub secret_read : Result Octets FromHexError → Octets
secret_read (Ok octets) = secret_kept octets
secret_read (Err error) = []

-- the octets of a secret in hex
abbrev pub secret_from : Octets → Octets
secret_from text = secret_read (decode_of text)

-- a key of a name and a secret, both of which must be there
abbrev pub key_in : Members → Reading Key
key_in table =
    made (λ p. record { name = p.0; secret = p.1 })
    (both (read_in name_from (text_at (codes "key") table)) (made secret_from (text_at (codes "secret") table)))

-- the key of a catalog, by its keys `key` and `secret`: both, or neither
abbrev pub key_from : Option Data → Option Data → Members → Reading (Option Key)
key_from None None table = Ok None
key_from None (Some secret) table = made Some (key_in table)
key_from (Some name) secret table = made Some (key_in table)

-- the key of a catalog: a name and a secret, or neither
abbrev pub key_of : Members → Reading (Option Key)
key_of table = key_from (get_member (codes "key") table) (get_member (codes "secret") table) table

-- the catalog of a table
abbrev pub catalog_in : Members → Reading CatalogSettings
catalog_in table =
    made
    (λ p. record { name = p.1.0; policy = p.1.1.0; primaries = p.1.1.1.0; groups = p.1.1.1.1.0; key = p.1.1.1.1.1 })
    (both (known Catalog table)
    (both (read_in name_from (text_at (codes "name") table)) (both (read_in policy_from
    (text_at (codes "policy") table)) (both (primaries_of table) (both (groups_of table) (key_of table))))))

-- the catalog of a value, which must be a table
abbrev pub catalog_of : Data → Reading CatalogSettings
catalog_of value = read_in catalog_in (wanted (as_table value))

-- the catalogs of a document
abbrev pub catalogs_of : Members → Reading (List CatalogSettings)
catalogs_of table = read_in (λ values. gathered (map catalog_of values)) (values_at (codes "catalog") table)

-- a host to which zones are sent, by its address alone
abbrev pub host_from : Octets → Reading Peer
host_from text = option_map_or Ok (host_of text) (Err BadPeer)

-- the host of a value, which must be a text
abbrev pub downstream_host : Data → Reading Peer
downstream_host value = read_in host_from (wanted (as_str value))

-- the hosts to which zones are sent, by the key `downstream`, which may be missing
abbrev pub hosts_from : Option Data → Members → Reading (List Peer)
hosts_from None table = Ok []
hosts_from (Some value) table =
    read_in (λ values. gathered (map downstream_host values)) (values_at (codes "downstream") table)

-- the hosts to which zones are sent
abbrev pub hosts_of : Members → Reading (List Peer)
hosts_of table = hosts_from (get_member (codes "downstream") table) table

-- the settings of a document, within their limits or not: where the peer listens, the catalogs, and the hosts
abbrev pub settings_of : Members → Reading (Peer × (List CatalogSettings × List Peer))
settings_of table =
    made (λ p. p.1)
    (both (known Document table)
    (both (read_in peer_from (text_at (codes "listen") table)) (both (catalogs_of table) (hosts_of table))))

-- the addresses of hosts
abbrev pub addresses_of : List Peer → List Octets
addresses_of hosts = map (λ p. p.address) hosts

-- settings judged: counts and words after all that was read, then whether a catalog or a word appears twice, and last
-- the secrets
abbrev pub judged : Peer × (List CatalogSettings × List Peer) → Reading Said
judged settings =
    if not (is_within_limits settings.1.0) then Err OutOfLimits
    else if nat_lt DOWNSTREAM (length settings.1.1) then Err OutOfLimits
    else if not (has_each_once settings.1.0) then Err Twice
    else if not (has_secrets settings.1.0) then Err BadSecret
    else Ok (record { listen = settings.0; config = settings.1.0; downstream = addresses_of settings.1.1 })

-- what a document says, or its least fault
abbrev pub said_of : Members → Reading Said
said_of table = read_in judged (settings_of table)

-- the configuration of a document: where the peer listens, and the catalogs
abbrev pub config_of : Members → Reading (Peer × List CatalogSettings)
config_of table = made (λ s. (s.listen, s.config)) (said_of table)

-- the addresses to which zones are sent
abbrev pub downstream_of : Members → Reading (List Octets)
downstream_of table = made (λ s. s.downstream) (said_of table)
