-- Meaning: which configurations are within the limits.
use Rattle.std.specs.Prelude.{◌≡◌, ℕ, Bool, true, nat_le, not, ◌&&◌, List, length}
use Rattle.std.specs.List.{list_all}
use Rattle.std.specs.Option.{option_map_or}
use Rattle.std.specs.Str.{bytes_eq}
use Rattle.dz_name.specs.Words.{Octets}
use Rattle.dz_name.specs.Name.{same_name}
use Rattle.dz_io.specs.declared.peer.Peer.{Peer}
use Rattle.dz_settings.specs.declared.key.Key.{Key}
use Rattle.dz_settings.specs.declared.config.GroupSettings.{GroupSettings}
use Rattle.dz_settings.specs.declared.config.CatalogSettings.{CatalogSettings}
use Rattle.dz_settings.specs.Twice.{has_twice}

-- a count from 1 to this many
abbrev pub is_count : ℕ → ℕ → Bool
is_count most n = nat_le 1 n && nat_le n most

-- an octet is visible ASCII
abbrev pub is_visible : ℕ → Bool
is_visible octet = nat_le 33 octet && nat_le octet 126

-- a word has 1 to 255 octets of visible ASCII
abbrev pub is_word : Octets → Bool
is_word word = is_count 255 (length word) && list_all is_visible word

-- there are 1 to 8 primaries, and no port is 0
abbrev pub are_primaries : List Peer → Bool
are_primaries peers = is_count 8 (length peers) && list_all (λ peer. nat_le 1 peer.port) peers

-- a group has a word and primaries within these limits
abbrev pub is_group : GroupSettings → Bool
is_group group = is_word group.word && are_primaries group.primaries

-- a catalog has primaries within these limits, and at most 64 groups
abbrev pub is_catalog : CatalogSettings → Bool
is_catalog catalog =
    are_primaries catalog.primaries && (nat_le (length catalog.groups) 64 && list_all is_group catalog.groups)

-- there are 1 to 8 catalogs, each within its limits
abbrev pub is_within_limits : List CatalogSettings → Bool
is_within_limits catalogs = is_count 8 (length catalogs) && list_all is_catalog catalogs

-- two groups have one word
abbrev pub same_word : GroupSettings → GroupSettings → Bool
same_word a b = bytes_eq a.word b.word

-- two catalogs have one name
abbrev pub same_catalog : CatalogSettings → CatalogSettings → Bool
same_catalog a b = same_name a.name b.name

-- no word appears twice in a catalog
abbrev pub has_words_once : CatalogSettings → Bool
has_words_once catalog = not (has_twice same_word catalog.groups)

-- no catalog appears twice, and no word twice in one catalog
abbrev pub has_each_once : List CatalogSettings → Bool
has_each_once catalogs = not (has_twice same_catalog catalogs) && list_all has_words_once catalogs

-- the secret of a catalog's key, if it has one, has 1 to 64 octets
abbrev pub has_secret : CatalogSettings → Bool
has_secret catalog = option_map_or (λ (key : Key). is_count 64 (length key.secret)) catalog.key true

-- each secret has 1 to 64 octets
abbrev pub has_secrets : List CatalogSettings → Bool
has_secrets catalogs = list_all has_secret catalogs

-- a configuration is within the limits, names nothing twice, and has secrets that can be used
abbrev pub is_allowed : List CatalogSettings → Bool
is_allowed catalogs = (is_within_limits catalogs && has_each_once catalogs) && has_secrets catalogs

-- the same as a statement
abbrev pub IsAllowed : List CatalogSettings → Type 0
IsAllowed catalogs = is_allowed catalogs ≡ true
