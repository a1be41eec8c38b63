-- Meaning: catalogs and groups as the lines of a script have them.
use Rattle.std.specs.Prelude.{nat_le, List, [], ◌∷◌, length, Option, Some, None, Result, Ok, Err, if◌then◌else◌}
use Rattle.std.specs.Option.{option_and_then}
use Rattle.dz_io.specs.declared.peer.Peer.{Peer}
use Rattle.dz_settings.specs.Peer.{peer_of, policy_of, word_of}
use Rattle.dz_settings.specs.declared.config.CatalogSettings.{CatalogSettings}
use Rattle.dz_settings.specs.declared.config.GroupSettings.{GroupSettings}
use Rattle.dz_settings.specs.declared.config.Policy.{Policy}
use Rattle.dz_settings.specs.declared.limits.TheConstants.{PRIMARIES}
use Rattle.dz_name.specs.Text.{name_of_text}
use Rattle.dz_name.specs.declared.text.NameError.{NameError}
use Rattle.dz_name.specs.Words.{Name, Octets}
use Rattle.dz_script.specs.Fields.{parts_of, three}

-- a name, where a text was read as one
abbrev pub read_name : Result Name NameError → Option Name
read_name (Ok name) = Some name
read_name (Err error) = None

-- the name of a text (RFC 1035 section 5.1)
abbrev pub name_of : Octets → Option Name
name_of text = read_name (name_of_text text)

-- a peer put before others
abbrev pub in_front : Option Peer → Option (List Peer) → Option (List Peer)
in_front (Some peer) (Some peers) = Some (peer ∷ peers)
in_front _ _ = None

-- peers, each of one part
unfoldable pub peers_of : List Octets → Option (List Peer)
peers_of [] = Some []
peers_of (part ∷ parts) = in_front (peer_of part) (peers_of parts)

-- 1 to 8 peers with commas between them
unfoldable pub primaries_of : Octets → Option (List Peer)
primaries_of text = if nat_le (length (parts_of 44 text)) PRIMARIES then peers_of (parts_of 44 text) else None

-- a catalog of what its fields were read as, without groups and without a key
abbrev pub catalog_from : Option Name → Option Policy → Option (List Peer) → Option CatalogSettings
catalog_from (Some name) (Some policy) (Some primaries) =
    Some (record { name = name; policy = policy; primaries = primaries; groups = []; key = None })
catalog_from _ _ _ = None

-- `<name> <policy> <primaries>`
abbrev pub catalog_of : List Octets → Option CatalogSettings
catalog_of fields = option_and_then (λ f. catalog_from (name_of f.0) (policy_of f.1) (primaries_of f.2)) (three fields)

-- a group of what its fields were read as
abbrev pub group_from : Option Octets → Option Policy → Option (List Peer) → Option GroupSettings
group_from (Some word) (Some policy) (Some primaries) =
    Some (record { word = word; policy = policy; primaries = primaries })
group_from _ _ _ = None

-- `<word> <policy> <primaries>`
abbrev pub settings_of : List Octets → Option GroupSettings
settings_of fields = option_and_then (λ f. group_from (word_of f.0) (policy_of f.1) (primaries_of f.2)) (three fields)

-- a group under the name of its catalog
abbrev pub under : Option Name → Option GroupSettings → Option (Name × GroupSettings)
under (Some catalog) (Some settings) = Some (catalog, settings)
under _ _ = None

-- `<catalog> <word> <policy> <primaries>`
abbrev pub group_of : List Octets → Option (Name × GroupSettings)
group_of [] = None
group_of (catalog ∷ fields) = under (name_of catalog) (settings_of fields)
