-- Meaning: what is assigned and held (RFC 9432 sections 4 and 5).
use Rattle.std.specs.Prelude.{◌≡◌, ℕ, ◌<◌, ◌==◌, Bool, false, List, [], length, map, replicate, slice_index_or, Option}
use Rattle.std.specs.Prelude.{Some, None}
use Rattle.std.specs.Option.{option_map, option_map_or, option_and_then, ForSome}
use Rattle.std.specs.List.{AllByRecursion}
use Rattle.dz_name.specs.Words.{Name}
use Rattle.dz_io.specs.declared.peer.Peer.{Peer}
use Rattle.dz_zone.specs.Version.{Zone}
use Rattle.dz_settings.specs.declared.config.CatalogSettings.{CatalogSettings}
use Rattle.dz_settings.specs.declared.config.Policy.{Policy}
use Rattle.dz_settings.specs.declared.key.Key.{Key}
use Rattle.dz_member.specs.Membership.{MemberOf, settings_at, key_of, policy_of, primaries_of}
use Rattle.dz_member.specs.Fold.{FoldOf, IsFold, started, number_of, member_of}
use Rattle.dz_table.specs.Slot.{SlotOf}
use Rattle.dz_table.specs.Table.{slot_of}

-- the configuration, the members and the last unbroken listings; the version of each catalog, in the order of the
-- configuration; the slot of each member, in canonical order; and how many entries led here
pub record State : Type 0 where
  pub fold : FoldOf
  pub versions : List (Option Zone)
  pub table : List SlotOf
  pub count : ℕ

-- no catalog and no member
abbrev pub nothing : State
nothing = record { fold = started []; versions = []; table = []; count = 0 }

-- what a configuration alone gives
abbrev pub opened : List CatalogSettings → State
opened config = record { fold = started config; versions = replicate (length config) None; table = []; count = 1 }

-- the number of a catalog in the order of the configuration
abbrev pub catalog_at : State → Name → Option ℕ
catalog_at s zone = number_of s.fold.config zone

-- the membership of a zone
abbrev pub member_at : State → Name → Option MemberOf
member_at s zone = member_of zone s.fold.members

-- the incarnation of a catalog, which is 0, or of a member
abbrev pub incarnation_from : State → Name → Option ℕ → Option ℕ
incarnation_from s zone (Some number) = Some 0
incarnation_from s zone None = option_map (λ m. m.incarnation) (member_at s zone)

-- the incarnation of a zone, if it is a catalog or a member
unfoldable pub incarnation_at : State → Name → Option ℕ
incarnation_at s zone = incarnation_from s zone (catalog_at s zone)

-- the version that is held of a catalog, or of a member
abbrev pub held_from : State → Name → Option ℕ → Option Zone
held_from s zone (Some number) = slice_index_or s.versions number None
held_from s zone None = option_and_then (λ slot. slot.version) (slot_of zone s.table)

-- the version that is held of a zone
unfoldable pub held_at : State → Name → Option Zone
held_at s zone = held_from s zone (catalog_at s zone)

-- the policy of a catalog, or of a member
abbrev pub policy_from : State → Name → Option ℕ → Option Policy
policy_from s zone (Some number) = Some (settings_at s.fold.config number).policy
policy_from s zone None = option_and_then (policy_of s.fold.config) (member_at s zone)

-- the policy of a zone
unfoldable pub policy_at : State → Name → Option Policy
policy_at s zone = policy_from s zone (catalog_at s zone)

-- the primaries of a catalog, or of a member
abbrev pub primaries_from : State → Name → Option ℕ → Option (List Peer)
primaries_from s zone (Some number) = Some (settings_at s.fold.config number).primaries
primaries_from s zone None = option_and_then (primaries_of s.fold.config) (member_at s zone)

-- the primaries of a zone
unfoldable pub primaries_at : State → Name → Option (List Peer)
primaries_at s zone = primaries_from s zone (catalog_at s zone)

-- the key of a catalog, or of a member's catalog, whatever its group; none where the catalog has none
abbrev pub key_from : State → Name → Option ℕ → Option Key
key_from s zone (Some number) = (settings_at s.fold.config number).key
key_from s zone None = option_and_then (key_of s.fold.config) (member_at s zone)

-- the key that transfers of a zone are signed with (RFC 8945)
unfoldable pub key_at : State → Name → Option Key
key_at s zone = key_from s zone (catalog_at s zone)

-- a member began by an entry after the configuration
abbrev pub HasBegun : ℕ → MemberOf → Type 0
HasBegun count m = (0 < m.incarnation) × (m.incarnation < count)

-- the table is that of the members, a version is of its zone, and members began by an entry after the configuration
pub record IsState (s : State) : Type 0 where
  pub fold : IsFold s.fold
  pub each : length s.versions ≡ length s.fold.config
  pub own : (number : ℕ)
      → ForSome (slice_index_or s.versions number None) (λ zone. zone.apex ≡ (settings_at s.fold.config number).name)
  pub members : map (λ slot. slot.zone) s.table ≡ map (λ m. m.zone) s.fold.members
  pub begun : AllByRecursion (HasBegun s.count) s.fold.members
  pub some : 0 < s.count

-- an incarnation of a zone is current
abbrev pub stands : State → Name → ℕ → Bool
stands s zone incarnation = option_map_or (λ i. i == incarnation) (incarnation_at s zone) false
