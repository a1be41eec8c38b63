-- Judge: what comes of the transfers of the script's zones.
use Rattle.std.specs.Prelude.{◌≡◌, ℕ, ◌<◌, ◌≤◌, ◌^◌, ◌++◌, true, List, ◌∷◌, flat_map, filter, codes, Bool, not, ◌&&◌}
use Rattle.std.specs.Prelude.{None, Some, if◌then◌else◌}
use Rattle.dz_name.specs.Name.{wire_of}
use Rattle.dz_name.specs.Words.{Name, Octets}
use Rattle.dz_name.specs.declared.dns.TheConstants.{TYPE_NS}
use Rattle.dz_record.specs.Record.{Record, same_record}
use Rattle.dz_zone.specs.Version.{Zone, zone_of}
use Rattle.dz_settings.specs.declared.config.Policy.{Policy}
use Rattle.dz_settings.specs.declared.config.Policy.TheVariants.{Present, Require}
use Rattle.dz_zonemd.specs.Acceptance.{accepts}
use Rattle.dz_zonemd.specs.Standing.{standing}
use Rattle.dz_xfr.specs.Apex.{is_apex_soa}
use Rattle.dz_take.specs.Outcome.{outcome}
use Rattle.dz_take.specs.Transfer.{Transfer, new, refused}
use Rattle.dz_take.specs.declared.ask.Ask.TheVariants.{Axfr, Ixfr}
use Rattle.dz_take.specs.declared.outcome.TakeFault.TheVariants.{Incomplete}
use Rattle.dz_gen.specs.Records.{hourly, soa, catalog, version_property, node, group, member, zone, is_strict}
use Rattle.dz_gen.specs.Records.{first_records, second_records, first_digest, second_digest}
use Rattle.dz_gen.specs.Messages.{catalog_begins, catalog_member, catalog_ends, catalog_changes, part_of, whole_of}
use Rattle.dz_gen.specs.Messages.{changes_of}
use Rattle.dz_gen.specs.Script.{numbers}
use Rattle.dz_gen.specs.Texts.{named}

-- the transfer of a whole zone of which nothing is held
abbrev pub first_of : Name → ℕ → Transfer
first_of apex id = record { apex = apex; ask = Axfr; id = id; held = None }

-- the transfer of what changed since the version that is held
abbrev pub next_of : Zone → ℕ → Transfer
next_of held id = record { apex = held.apex; ask = Ixfr; id = id; held = Some held }

-- zone k with serial 1, its digest included where it has one
abbrev pub first_version : ℕ → Zone
first_version k = zone_of (zone k) (first_records k ++ first_digest k)

-- zone k with serial 2
abbrev pub second_version : ℕ → Zone
second_version k = zone_of (zone k) (second_records k ++ second_digest k)

-- the policy of a zone: that of the group `strict`, or that of the catalog
abbrev pub policy_of : ℕ → Policy
policy_of k = if is_strict k then Require else Present

-- the octets of a transfer are those of a new version, which the policy accepts
pub record Brings (policy : Policy) (transfer : Transfer) (octets : Octets) (version : Zone) : Type 0 where
  pub comes : outcome transfer octets ≡ new version
  pub accepted : accepts policy (standing version.apex version.records) ≡ true

-- what comes of zone k's transfers, as answers to queries with this ID: of the part that it is incomplete, of the
-- whole serial 1, and of the changes, to one that holds serial 1, serial 2
pub record ZoneComes (k id : ℕ) : Type 0 where
  pub part : outcome (first_of (zone k) id) (part_of id k) ≡ refused Incomplete
  pub whole : Brings (policy_of k) (first_of (zone k) id) (whole_of id k) (first_version k)
  pub changes : Brings (policy_of k) (next_of (first_version k) id) (changes_of id k) (second_version k)

-- the transfers of each zone of the script come to what they are for
abbrev pub ZonesCome : Type 0
ZonesCome = (k id : ℕ) → 0 < k → k ≤ 1000 → id < 2 ^ 16 → ZoneComes k id

-- ---- the catalog
-- all records of the catalog with serial 1
abbrev pub catalog_records : ℕ → List Record
catalog_records n = soa catalog 1 ∷ hourly catalog TYPE_NS (wire_of (named (codes "invalid."))) ∷ version_property
    ∷ flat_map member (numbers n)

-- the catalog with serial 1
abbrev pub catalog_version : ℕ → Zone
catalog_version n = zone_of catalog (catalog_records n)

-- the catalog's first transfer, of one message for each zone and two more, comes to the catalog of all zones
abbrev pub CatalogComes : ℕ → Type 0
CatalogComes n = n ≤ 1000 → Brings Present (first_of catalog 1)
    ((catalog_begins ++ flat_map catalog_member (numbers n)) ++ catalog_ends) (catalog_version n)

-- what the catalog's change leaves: all records but its SOA, and the node and the group of the first zone
abbrev pub is_left : Record → Bool
is_left r = not (is_apex_soa catalog r) && (not (same_record (node (codes "m") 1) r) && not (same_record (group 1) r))

-- the catalog with serial 2: the first zone has a node of another label
abbrev pub changed_version : ℕ → Zone
changed_version n = zone_of catalog (soa catalog 2 ∷ node (codes "r") 1 ∷ filter is_left (catalog_records n))

-- the catalog's change, to one that holds serial 1, comes to serial 2
abbrev pub CatalogChanges : ℕ → ℕ → Type 0
CatalogChanges n id = 0 < n → n ≤ 1000 → id < 2 ^ 16
    → Brings Present (next_of (catalog_version n) id) (catalog_changes id) (changed_version n)
