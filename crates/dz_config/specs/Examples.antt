-- Judge: documents with each fault, computed by the checker.
use Rattle.std.specs.Prelude.{◌≡◌, refl, pos, [], ◌∷◌, replicate, Option, Some, None, Ok, Err, codes, ℕ, List, Float}
use Rattle.hex.specs.Hex.{decode_pairs}
use Rattle.toml.specs.Data.{Data, Items, string, integer, array, table, no_items, item, Members, no_members, member}
use Rattle.toml.specs.Data.{float, datetime}
use Rattle.dz_settings.specs.declared.config.CatalogSettings.{CatalogSettings}
use Rattle.dz_settings.specs.declared.config.Policy.TheVariants.{Off, Present}
use Rattle.dz_settings.specs.declared.key.Key.{Key}
use Rattle.dz_name.specs.Name.{wire_of}
use Rattle.dz_name.specs.Text.{items, labels_from, with_label, name_of_text}
use Rattle.dz_name.specs.Words.{Octets}
use Rattle.dz_config.specs.Document.{catalog_in, config_of, downstream_of}
use Rattle.dz_config.specs.declared.fault.ConfigFault.TheVariants.{UnknownKey, MissingValue, BadName, BadPeer}
use Rattle.dz_config.specs.declared.fault.ConfigFault.TheVariants.{OutOfLimits, Twice, BadSecret, UnknownPolicy}
use Rattle.dz_config.specs.declared.config.TheConstants.{TEXT_OCTETS}
use Rattle.dz_config.specs.declared.downstream.TheConstants.{DOWNSTREAM}

-- an address at which the peer listens
abbrev listen : Data
listen = string (codes "192.0.2.10")

pub empty : config_of no_members ≡ Err MissingValue
empty = refl

pub unknown_first : config_of
    (member (codes "listen") (integer (pos 1)) (member (codes "x") (integer (pos 1)) no_members)) ≡ Err UnknownKey
unknown_first = refl

pub no_catalogs : config_of (member (codes "catalog") (array no_items) (member (codes "listen") listen no_members))
    ≡ Err OutOfLimits
no_catalogs = refl

pub bad_listen : config_of (member (codes "catalog") (array no_items)
    (member (codes "listen") (string (codes "1.2.3")) no_members)) ≡ Err BadPeer
bad_listen = refl

pub table_for_array : config_of (member (codes "catalog") (table (member (codes "x") (integer (pos 1)) no_members))
    (member (codes "listen") listen no_members)) ≡ Err MissingValue
table_for_array = refl

-- a host is an address alone
pub bad_host : config_of (member (codes "catalog") (array no_items) (member (codes "downstream")
    (array (item (string (codes "1.2.3.4:53")) no_items)) (member (codes "listen") listen no_members)))
    ≡ Err BadPeer
bad_host = refl

pub no_hosts : config_of (member (codes "catalog") (array no_items)
    (member (codes "downstream") (array no_items) (member (codes "listen") listen no_members))) ≡ Err OutOfLimits
no_hosts = refl

-- ---- keys
-- one primary
abbrev primaries : Items
primaries = item (string (codes "192.0.2.1")) no_items

-- a catalog with these primaries, and with further members
abbrev catalog : Items → Members → Members
catalog hosts more = member (codes "name") (string (codes "c"))
    (member (codes "policy") (string (codes "off")) (member (codes "primaries") (array hosts) more))

-- the name of a key, before further members
abbrev key : Octets → Members → Members
key name more = member (codes "key") (string name) more

-- the secret of a key in hex
abbrev secret : Octets → Members
secret text = member (codes "secret") (string text) no_members

-- a document of catalogs
abbrev document : Items → Members
document catalogs = member (codes "catalog") (array catalogs) (member (codes "listen") listen no_members)

-- a document of one catalog
abbrev one : Members → Members
one catalog = document (item (table catalog) no_items)

-- the settings of that catalog with this key
abbrev read_with : Option Key → CatalogSettings
read_with key = record {
  name = codes "c" ∷ [];
  policy = Off;
  primaries = record { address = 192 ∷ 0 ∷ 2 ∷ 1 ∷ []; port = 53 } ∷ [];
  groups = [];
  key = key;
}

pub no_key : catalog_in (catalog primaries no_members) ≡ Ok (read_with None)
unfolding name_of_text items labels_from with_label wire_of
no_key = refl

-- either case is hex
pub a_key : catalog_in (catalog primaries (key (codes "k") (secret (codes "00fF"))))
    ≡ Ok (read_with (Some (record { name = codes "k" ∷ []; secret = 0 ∷ 255 ∷ [] })))
unfolding name_of_text items labels_from with_label wire_of decode_pairs
a_key = refl

pub long_secret : catalog_in (catalog primaries (key (codes "k") (secret (replicate 128 97))))
    ≡ Ok (read_with (Some (record { name = codes "k" ∷ []; secret = replicate 64 170 })))
unfolding name_of_text items labels_from with_label wire_of decode_pairs
long_secret = refl

pub longer_secret : config_of (one (catalog primaries (key (codes "k") (secret (replicate 130 97))))) ≡ Err BadSecret
unfolding name_of_text items labels_from with_label wire_of decode_pairs
longer_secret = refl

pub half_an_octet : config_of (one (catalog primaries (key (codes "k") (secret (codes "0"))))) ≡ Err BadSecret
unfolding name_of_text items labels_from with_label wire_of
half_an_octet = refl

pub not_hex : config_of (one (catalog primaries (key (codes "k") (secret (codes "c2Vj"))))) ≡ Err BadSecret
unfolding name_of_text items labels_from with_label wire_of decode_pairs
not_hex = refl

pub no_octets : config_of (one (catalog primaries (key (codes "k") (secret [])))) ≡ Err BadSecret
unfolding name_of_text items labels_from with_label wire_of decode_pairs
no_octets = refl

-- one without the other
pub key_alone : config_of (one (catalog primaries (key (codes "k") no_members))) ≡ Err MissingValue
unfolding name_of_text items labels_from with_label wire_of
key_alone = refl

pub secret_alone : config_of (one (catalog primaries (secret (codes "00")))) ≡ Err MissingValue
unfolding name_of_text items labels_from with_label wire_of decode_pairs
secret_alone = refl

pub bad_key_name : config_of (one (catalog primaries (key (codes "a..b") (secret (codes "0"))))) ≡ Err BadName
unfolding name_of_text items labels_from with_label wire_of
bad_key_name = refl

-- a bad secret yields to every other fault
pub limits_first : config_of (one (catalog no_items (key (codes "k") (secret (codes "0"))))) ≡ Err OutOfLimits
unfolding name_of_text items labels_from with_label wire_of
limits_first = refl

pub twice_first : config_of (document (item (table (catalog primaries (key (codes "k") (secret (codes "0")))))
    (item (table (catalog primaries no_members)) no_items))) ≡ Err Twice
unfolding name_of_text items labels_from with_label wire_of
twice_first = refl

-- ---- documents of catalogs with these names, policies and primaries, and of further members
abbrev texts : List Octets → Items
texts [] = no_items
texts (text ∷ rest) = item (string text) (texts rest)

abbrev tables : List Members → Items
tables [] = no_items
tables (members ∷ rest) = item (table members) (tables rest)

abbrev settings : Octets → List Octets → Members → Members
settings policy hosts more =
    member (codes "policy") (string policy) (member (codes "primaries") (array (texts hosts)) more)

abbrev named : Octets → Octets → List Octets → Members
named name policy hosts = member (codes "name") (string name) (settings policy hosts no_members)

abbrev sample : Members → Members
sample more =
    member (codes "name") (string (codes "catalog.example.")) (settings (codes "present") (codes "192.0.2.1" ∷
    codes "192.0.2.2:5353" ∷ []) more)

abbrev group : Octets → List Octets → Members
group word hosts = member (codes "word") (string word) (settings (codes "off") hosts no_members)

abbrev grouped : List Members → Members
grouped groups = member (codes "group") (array (tables groups)) no_members

abbrev listening : Members → Members
listening more = member (codes "listen") (string (codes "192.0.2.10:53")) more

abbrev documented : List Members → Members → Members
documented catalogs more = listening (member (codes "catalog") (array (tables catalogs)) more)

abbrev plain : Members
plain = sample no_members

abbrev x : Members
x = member (codes "x") (integer (pos 1)) no_members

-- ---- each fault alone, beside a catalog without one
abbrev missing : Members
missing = member (codes "name") (string (codes "b")) (member (codes "policy") (string (codes "off")) no_members)

abbrev bad_name : Members
bad_name = named (codes "a..b") (codes "off") (codes "192.0.2.1" ∷ [])

abbrev bad_policy : Members
bad_policy = named (codes "c") (codes "maybe") (codes "192.0.2.1" ∷ [])

abbrev bad_peer : Members
bad_peer = named (codes "d") (codes "off") (codes "192.0.2.01" ∷ [])

abbrev no_primaries : Members
no_primaries = named (codes "e") (codes "off") []

pub an_unknown_key : config_of (documented (plain ∷ []) x) ≡ Err UnknownKey
unfolding name_of_text items labels_from with_label wire_of
an_unknown_key = refl

pub a_missing_value : config_of (documented (missing ∷ plain ∷ []) no_members) ≡ Err MissingValue
unfolding name_of_text items labels_from with_label wire_of
a_missing_value = refl

pub a_bad_name : config_of (documented (bad_name ∷ plain ∷ []) no_members) ≡ Err BadName
unfolding name_of_text items labels_from with_label wire_of
a_bad_name = refl

pub an_unknown_policy : config_of (documented (bad_policy ∷ plain ∷ []) no_members) ≡ Err UnknownPolicy
unfolding name_of_text items labels_from with_label wire_of
an_unknown_policy = refl

pub a_bad_peer : config_of (documented (bad_peer ∷ plain ∷ []) no_members) ≡ Err BadPeer
unfolding name_of_text items labels_from with_label wire_of
a_bad_peer = refl

pub a_catalog_without_primaries : config_of (documented (no_primaries ∷ plain ∷ []) no_members) ≡ Err OutOfLimits
unfolding name_of_text items labels_from with_label wire_of
a_catalog_without_primaries = refl

pub a_catalog_twice : config_of (documented (plain ∷ plain ∷ []) no_members) ≡ Err Twice
unfolding name_of_text items labels_from with_label wire_of
a_catalog_twice = refl

-- ---- of several the least counts
pub least_is_an_unknown_key : config_of (documented (missing ∷ bad_name ∷ plain ∷ plain ∷ []) x) ≡ Err UnknownKey
unfolding name_of_text items labels_from with_label wire_of
least_is_an_unknown_key = refl

pub least_is_a_missing_value : config_of (documented (plain ∷ plain ∷ no_primaries ∷ bad_peer ∷ bad_policy ∷ bad_name ∷
    missing ∷ []) no_members)
    ≡ Err MissingValue
unfolding name_of_text items labels_from with_label wire_of
least_is_a_missing_value = refl

pub least_is_a_bad_name : config_of (documented (plain ∷ plain ∷ no_primaries ∷ bad_peer ∷ bad_policy ∷ bad_name ∷
    []) no_members)
    ≡ Err BadName
unfolding name_of_text items labels_from with_label wire_of
least_is_a_bad_name = refl

pub least_is_an_unknown_policy : config_of (documented (plain ∷ plain ∷ no_primaries ∷ bad_peer ∷ bad_policy ∷
    []) no_members)
    ≡ Err UnknownPolicy
unfolding name_of_text items labels_from with_label wire_of
least_is_an_unknown_policy = refl

pub least_is_a_bad_peer : config_of (documented (plain ∷ plain ∷ no_primaries ∷ bad_peer ∷ []) no_members)
    ≡ Err BadPeer
unfolding name_of_text items labels_from with_label wire_of
least_is_a_bad_peer = refl

pub least_is_out_of_limits : config_of (documented (plain ∷ plain ∷ no_primaries ∷ []) no_members) ≡ Err OutOfLimits
unfolding name_of_text items labels_from with_label wire_of
least_is_out_of_limits = refl

-- ---- keys and kinds are exact
pub an_unknown_key_alone : config_of (listening x) ≡ Err UnknownKey
unfolding name_of_text items labels_from with_label wire_of
an_unknown_key_alone = refl

pub no_catalog_key : config_of (listening no_members) ≡ Err MissingValue
unfolding name_of_text items labels_from with_label wire_of
no_catalog_key = refl

pub no_listen_key : config_of (member (codes "catalog") (array (tables (plain ∷ []))) no_members) ≡ Err MissingValue
unfolding name_of_text items labels_from with_label wire_of
no_listen_key = refl

-- whatever its value
pub an_unknown_key_of_a_group : (value : Data) →
    config_of (documented (sample (grouped (member (codes "x") value (group (codes "edge") (codes "192.0.2.3" ∷ [])) ∷
    [])) ∷ []) no_members)
    ≡ Err UnknownKey
unfolding name_of_text items labels_from with_label wire_of
an_unknown_key_of_a_group value = refl

pub an_unknown_key_of_a_catalog : (value : Data) →
    config_of (documented (sample (member (codes "x") (table (member (codes "y") value no_members)) (grouped [])) ∷
    []) no_members)
    ≡ Err UnknownKey
unfolding name_of_text items labels_from with_label wire_of
an_unknown_key_of_a_catalog value = refl

pub a_number_to_listen : (number : Float) →
    config_of (member (codes "listen") (float number) (member (codes "catalog") (array (tables (plain ∷
    []))) no_members))
    ≡ Err MissingValue
unfolding name_of_text items labels_from with_label wire_of
a_number_to_listen number = refl

pub a_table_to_listen : config_of (member (codes "listen") (table x) (member (codes "catalog") (array (tables (plain ∷
    []))) no_members))
    ≡ Err MissingValue
unfolding name_of_text items labels_from with_label wire_of
a_table_to_listen = refl

pub a_day_as_catalog : (day : _) →
    config_of (listening (member (codes "catalog") (array (item (datetime day) no_items)) no_members))
    ≡ Err MissingValue
unfolding name_of_text items labels_from with_label wire_of
a_day_as_catalog day = refl

pub a_number_as_groups : config_of (documented (sample (member (codes "group") (integer (pos 1)) no_members) ∷
    []) no_members)
    ≡ Err MissingValue
unfolding name_of_text items labels_from with_label wire_of
a_number_as_groups = refl

pub a_word_twice : config_of (documented (sample (grouped (group (codes "edge") (codes "192.0.2.3" ∷ []) ∷
    group (codes "edge") (codes "192.0.2.3" ∷ []) ∷ [])) ∷ []) no_members)
    ≡ Err Twice
unfolding name_of_text items labels_from with_label wire_of
a_word_twice = refl

-- ---- limits: up to 8 primaries, and words of 1 to 255 visible octets; within them a word that is there twice is the
-- first fault
abbrev limited : ℕ → Octets → Members
limited hosts word = group word (replicate hosts (codes "192.0.2.1"))

abbrev with_groups : List Members → Members
with_groups groups = documented (sample (grouped groups) ∷ []) no_members

pub at_the_limits : config_of (with_groups (limited 8 (replicate 255 119) ∷ limited 8 (replicate 255 119) ∷ []))
    ≡ Err Twice
unfolding name_of_text items labels_from with_label wire_of
at_the_limits = refl

pub nine_primaries : config_of (with_groups (limited 9 (replicate 255 119) ∷ [])) ≡ Err OutOfLimits
unfolding name_of_text items labels_from with_label wire_of
nine_primaries = refl

pub a_word_of_256 : config_of (with_groups (limited 8 (replicate 256 119) ∷ [])) ≡ Err OutOfLimits
unfolding name_of_text items labels_from with_label wire_of
a_word_of_256 = refl

pub a_word_of_none : config_of (with_groups (limited 8 [] ∷ [])) ≡ Err OutOfLimits
unfolding name_of_text items labels_from with_label wire_of
a_word_of_none = refl

pub a_word_with_a_space : config_of (with_groups (limited 8 (codes "a b") ∷ [])) ≡ Err OutOfLimits
unfolding name_of_text items labels_from with_label wire_of
a_word_with_a_space = refl

-- ---- a key with its secret, and a bad secret beside a catalog without primaries
pub a_key_with_its_secret : catalog_in (sample (key (codes "Key.example") (secret (codes "00fF7a"))))
    ≡ Ok (record {
      name = codes "catalog" ∷ codes "example" ∷ [];
      policy = Present;
      primaries = record {
        address = 192 ∷
            0 ∷ 2 ∷ 1 ∷ [];
        port = 53;
      } ∷ record { address = 192 ∷ 0 ∷ 2 ∷ 2 ∷ []; port = 5353 } ∷ [];
      groups = [];
      key =
          Some (record { name = codes "key" ∷ codes "example" ∷ []; secret = 0 ∷ 255 ∷ 122 ∷ [] });
    })
unfolding name_of_text items labels_from with_label wire_of decode_pairs
a_key_with_its_secret = refl

pub limits_of_another_catalog_first : config_of (documented (sample (key (codes "key.example") (secret (codes "0"))) ∷
    no_primaries ∷ []) no_members)
    ≡ Err OutOfLimits
unfolding name_of_text items labels_from with_label wire_of
limits_of_another_catalog_first = refl

-- ---- the addresses to which zones are sent, at most sixteen
abbrev sent_to : List Octets → Members
sent_to hosts = member (codes "downstream") (array (texts hosts)) no_members

pub sent_nowhere : downstream_of (documented (plain ∷ []) no_members) ≡ Ok []
unfolding name_of_text items labels_from with_label wire_of
sent_nowhere = refl

pub sent_to_two : downstream_of (documented (plain ∷ []) (sent_to (codes "192.0.2.7" ∷ codes "192.0.2.8" ∷ [])))
    ≡ Ok ((192 ∷ 0 ∷ 2 ∷ 7 ∷ []) ∷ (192 ∷ 0 ∷ 2 ∷ 8 ∷ []) ∷ [])
unfolding name_of_text items labels_from with_label wire_of
sent_to_two = refl

pub sent_to_a_port : downstream_of (documented (plain ∷ []) (sent_to (codes "192.0.2.7:53" ∷ []))) ≡ Err BadPeer
unfolding name_of_text items labels_from with_label wire_of
sent_to_a_port = refl

pub sent_to_sixteen : downstream_of (documented (plain ∷ []) (sent_to (replicate 16 (codes "192.0.2.7"))))
    ≡ Ok (replicate 16 (192 ∷ 0 ∷ 2 ∷ 7 ∷ []))
unfolding name_of_text items labels_from with_label wire_of
sent_to_sixteen = refl

pub sent_to_seventeen : downstream_of (documented (plain ∷ []) (sent_to (replicate 17 (codes "192.0.2.7"))))
    ≡ Err OutOfLimits
unfolding name_of_text items labels_from with_label wire_of
sent_to_seventeen = refl

-- ---- the limits of texts, so that none can change
pub text_octets_is_1048576 : TEXT_OCTETS ≡ 1048576
text_octets_is_1048576 = refl

pub downstream_is_16 : DOWNSTREAM ≡ 16
downstream_is_16 = refl
