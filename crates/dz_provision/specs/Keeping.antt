-- Meaning: what a store has to do after the last entry of a list, and how far it came.
use Rattle.std.specs.Prelude.{◌≡◌, ℕ, Bool, true, false, List, [], ◌∷◌, ◌++◌, map, filter, Option, Some, None}
use Rattle.std.specs.Prelude.{option_map}
use Rattle.std.specs.Option.{option_and_then, option_to_list}
use Rattle.dz_name.specs.Words.{Name, Octets}
use Rattle.dz_zone.specs.Version.{Zone}
use Rattle.dz_member.specs.declared.change.Change.{Change}
use Rattle.dz_member.specs.declared.change.What.{What}
use Rattle.dz_member.specs.declared.change.What.TheVariants.{Removed, Reset, MovedReset}
use Rattle.dz_history.specs.declared.entry.Entry.{Entry}
use Rattle.dz_history.specs.declared.aftermath.Aftermath.TheVariants.{Changes}
use Rattle.dz_history.specs.State.{State, catalog_at, member_at, held_at}
use Rattle.dz_history.specs.After.{after}
use Rattle.dz_job.specs.Job.{JobOf}
use Rattle.dz_job.specs.declared.verdict.Verdict.{Verdict}
use Rattle.dz_job.specs.declared.verdict.Verdict.TheVariants.{Published}
use Rattle.dz_fleet.specs.declared.fleet.Last.{Last}
use Rattle.dz_fleet.specs.Core.{entry_for}
use Rattle.dz_fleet.specs.Last.{last_of}
use Rattle.dz_fleet.specs.Weighing.{is_taken}
use Rattle.dz_outward.specs.Stream.{is_fit}
use Rattle.dz_store.specs.Kept.{KeptZone, payload_of, forgotten}
use Rattle.dz_provision.specs.Receipts.{verdict_after}

-- a verdict by which a list's last entry was taken
pub record IsLastVerdict (list : List Entry) (verdict : Verdict) : Type 0 where
  pub before : List Entry
  pub job : JobOf
  pub octets : Octets
  pub are : list ≡ before ++ entry_for job octets ∷ []
  pub own : verdict ≡ verdict_after before job octets
  pub taken : is_taken verdict ≡ true

-- ---- what there is to do
-- a zone's state goes: it is no longer a member, or begins anew (RFC 9432 sections 4.3.1 and 5.4)
abbrev pub goes : What → Bool
goes (Removed catalog) = true
goes (Reset catalog) = true
goes (MovedReset before catalog) = true
goes what = false

-- the zones whose state goes by a verdict, in canonical order as its changes are
abbrev pub changes_of : Verdict → List Change
changes_of (Published position serial (Changes changes)) = changes
changes_of verdict = []

unfoldable pub gone : List Change → List Name
gone changes = map (λ change. change.zone) (filter (λ change. goes change.what) changes)

-- the catalog of a zone and its label there; a catalog zone has its own name and no label
abbrev pub membership_from : State → Name → Option ℕ → Option (Name × Option Octets)
membership_from s zone (Some number) = Some (zone, None)
membership_from s zone None = option_map (λ m. (m.catalog, Some m.label)) (member_at s zone)

unfoldable pub membership_at : State → Name → Option (Name × Option Octets)
membership_at s zone = membership_from s zone (catalog_at s zone)

-- what is kept of the zone of a list's last transfer: the version that is held, and the moment
abbrev pub kept_from : Last → Name × Option Octets → Zone → KeptZone
kept_from last membership version = record {
  zone = last.zone;
  catalog = membership.0;
  label = membership.1;
  refreshed = last.moment;
  version = version;
}

abbrev pub kept_of : State → Last → Option KeptZone
kept_of s last = option_and_then (λ membership. option_map (kept_from last membership) (held_at s last.zone))
    (membership_at s last.zone)

unfoldable pub last_kept : List Entry → Option KeptZone
last_kept list = option_and_then (kept_of (after list)) (last_of list)

-- a zone is forgotten or saved
pub data Task : Type 0 where
  forget : Name → Task
  save : KeptZone → Task

abbrev pub zone_of : Task → Name
zone_of (forget zone) = zone
zone_of (save kept) = kept.zone

-- the record of it
abbrev pub record_of : Task → Octets
record_of (forget zone) = forgotten zone
record_of (save kept) = payload_of kept

-- the zones that go are forgotten, and then the last entry's zone is saved
abbrev pub tasks : List Entry → Verdict → List Task
tasks list verdict = map forget (gone (changes_of verdict)) ++ map save (option_to_list (last_kept list))

-- ---- how far it came
-- a version that can't be sent can't be saved
abbrev pub IsUnfit : Task → Type 0
IsUnfit (forget zone) = ⊥
IsUnfit (save kept) = is_fit kept.version ≡ false
