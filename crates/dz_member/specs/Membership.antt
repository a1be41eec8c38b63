-- Meaning: members of catalogs, and the group that a member belongs to (RFC 9432 sections 4.1 and 4.3.2).
use Rattle.std.specs.Prelude.{ℕ, ◌<◌, ◌==◌, Bool, List, [], ◌∷◌, length, position, slice_index_or, Option, Some, None}
use Rattle.std.specs.Prelude.{if◌then◌else◌}
use Rattle.std.specs.Option.{option_map, option_and_then, ForSome}
use Rattle.std.specs.List.{find, filter_map, list_any}
use Rattle.std.specs.Str.{bytes_eq}
use Rattle.dz_name.specs.Words.{Name, Octets}
use Rattle.dz_name.specs.Name.{same_name}
use Rattle.dz_io.specs.declared.peer.Peer.{Peer}
use Rattle.dz_settings.specs.declared.config.Policy.{Policy}
use Rattle.dz_settings.specs.declared.config.Policy.TheVariants.{Off}
use Rattle.dz_settings.specs.declared.key.Key.{Key}
use Rattle.dz_settings.specs.declared.config.GroupSettings.{GroupSettings}
use Rattle.dz_settings.specs.declared.config.CatalogSettings.{CatalogSettings}
use Rattle.dz_member.specs.declared.membership.Membership.{Membership}

-- a zone that a catalog assigns: the label of its node there, the position of the listing that it entered by, and the
-- word of the group that it belongs to
pub record MemberOf : Type 0 where
  pub zone : Name
  pub catalog : Name
  pub label : Octets
  pub incarnation : ℕ
  pub choice : Option Octets

-- the text of RDATA that is one character string: a length octet and the given number of octets (RFC 1035 section 3.3)
abbrev pub string_of : Octets → Option Octets
string_of [] = None
string_of (count ∷ octets) = if count == length octets then Some octets else None

-- a group of the configuration has this word
abbrev pub is_known : List GroupSettings → Octets → Bool
is_known groups word = list_any (λ group. bytes_eq group.word word) groups

-- the first word that a group of the configuration has, among those of some TXT records (RFC 9432 section 4.3.2)
unfoldable pub choice_of : List GroupSettings → List Octets → Option Octets
choice_of groups texts = find (is_known groups) (filter_map string_of texts)

-- the settings of the catalog of a number
abbrev pub settings_at : List CatalogSettings → ℕ → CatalogSettings
settings_at catalogs number =
    slice_index_or catalogs number record { name = []; policy = Off; primaries = []; groups = []; key = None }

-- the group of a number
abbrev pub group_at : List GroupSettings → ℕ → GroupSettings
group_at groups number = slice_index_or groups number record { word = []; policy = Off; primaries = [] }

-- the catalog and the group of a membership's numbers exist
pub record IsNumbered (catalogs : List CatalogSettings) (m : Membership) : Type 0 where
  pub catalog : m.catalog < length catalogs
  pub group : ForSome m.group (λ number. number < length (settings_at catalogs m.catalog).groups)

-- a membership with the names that its numbers represent
abbrev pub shown : List CatalogSettings → Membership → MemberOf
shown catalogs m = record {
  zone = m.zone;
  catalog = (settings_at catalogs m.catalog).name;
  label = m.label;
  incarnation = m.incarnation;
  choice = option_map (λ number. (group_at (settings_at catalogs m.catalog).groups number).word) m.group;
}

-- the policy for a zone of this group: the group's, or else the catalog's own
abbrev pub policy_in : CatalogSettings → Option ℕ → Policy
policy_in catalog None = catalog.policy
policy_in catalog (Some number) = (group_at catalog.groups number).policy

-- the primaries of a zone of this group: the group's, or else the catalog's own
abbrev pub primaries_in : CatalogSettings → Option ℕ → List Peer
primaries_in catalog None = catalog.primaries
primaries_in catalog (Some number) = (group_at catalog.groups number).primaries

-- the number of the group that has the word of a choice
abbrev pub group_of : CatalogSettings → Option Octets → Option ℕ
group_of catalog choice = option_and_then (λ word. position (λ group. bytes_eq group.word word) catalog.groups) choice

-- the settings of the catalog of a name
abbrev pub settings_of : List CatalogSettings → Name → Option CatalogSettings
settings_of catalogs name = find (λ catalog. same_name catalog.name name) catalogs

-- the policy for a member, by the names of its catalog and of its choice
abbrev pub policy_of : List CatalogSettings → MemberOf → Option Policy
policy_of catalogs m =
    option_map (λ catalog. policy_in catalog (group_of catalog m.choice)) (settings_of catalogs m.catalog)

-- the primaries of a member, by the names of its catalog and of its choice
abbrev pub primaries_of : List CatalogSettings → MemberOf → Option (List Peer)
primaries_of catalogs m =
    option_map (λ catalog. primaries_in catalog (group_of catalog m.choice)) (settings_of catalogs m.catalog)

-- the key of a member is its catalog's, whatever its group
abbrev pub key_of : List CatalogSettings → MemberOf → Option Key
key_of catalogs m = option_and_then (λ catalog. catalog.key) (settings_of catalogs m.catalog)
