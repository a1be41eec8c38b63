-- Meaning: what is assigned and held after a list of taken transfers (RFC 9432 section 5).
use Rattle.std.specs.Prelude.{ℕ, ◌+◌, ◌==◌, List, map, fold, slice_set, Option, Some, None, Result, Ok, Err}
use Rattle.std.specs.Prelude.{if◌then◌else◌}
use Rattle.std.specs.Option.{unwrap_or}
use Rattle.dz_name.specs.Words.{Name}
use Rattle.dz_zone.specs.Version.{Zone}
use Rattle.dz_take.specs.Transfer.{Transfer, Decision, up_to_date, new, refused}
use Rattle.dz_take.specs.Outcome.{outcome}
use Rattle.dz_member.specs.declared.listing.Node.{Node}
use Rattle.dz_member.specs.declared.listing.Broken.{Broken as Reason}
use Rattle.dz_member.specs.Membership.{MemberOf}
use Rattle.dz_member.specs.Process.{process, changes}
use Rattle.dz_catalog.specs.Listing.{listing_of}
use Rattle.dz_table.specs.Slot.{SlotOf}
use Rattle.dz_table.specs.Table.{put, slot_of}
use Rattle.dz_history.specs.declared.entry.Taken.{Taken}
use Rattle.dz_history.specs.declared.entry.Entry.{Entry}
use Rattle.dz_history.specs.declared.entry.Entry.TheVariants.{Setup, Transfer as Transferred}
use Rattle.dz_history.specs.declared.aftermath.Aftermath.{Aftermath}
use Rattle.dz_history.specs.declared.aftermath.Aftermath.TheVariants.{Member, Broken, Changes}
use Rattle.dz_history.specs.State.{State, nothing, opened, catalog_at, member_at, held_at}

-- the slot of a zone that begins: it has no version
abbrev pub fresh : Name → SlotOf
fresh zone = record { zone = zone; refreshed = 0; version = None }

-- the slot of a member that was one before: unchanged where its incarnation is, and else fresh
abbrev pub kept_slot : State → MemberOf → MemberOf → SlotOf
kept_slot s m before =
    if before.incarnation == m.incarnation then unwrap_or (slot_of m.zone s.table) (fresh m.zone) else fresh m.zone

-- the slot of a member, which was this one before or none
abbrev pub slot_from : State → MemberOf → Option MemberOf → SlotOf
slot_from s m (Some before) = kept_slot s m before
slot_from s m None = fresh m.zone

-- the slot of a member after a listing
unfoldable pub slot_after : State → MemberOf → SlotOf
slot_after s m = slot_from s m (member_at s m.zone)

-- what is assigned and held after the unbroken listing of a catalog
unfoldable pub relisted : State → Name → List Node → State
relisted s catalog nodes =
    let after = process s.fold catalog nodes s.count in
    record s { fold = after; table = map (slot_after s) after.members }

-- what is assigned and held after what a catalog's version gives: a broken one changes no membership (RFC 9432 section
-- 5.1)
abbrev pub listed : State → Name → Result (List Node) Reason → State
listed s catalog (Ok nodes) = relisted s catalog nodes
listed s catalog (Err reason) = s

-- a catalog's new version is held
abbrev pub with_version : State → ℕ → Zone → State
with_version s number zone = record s { versions = slice_set s.versions number (Some zone) }

-- after what came of a catalog's transfer: a new version is held, and then its listing is processed
unfoldable pub catalog_after : State → ℕ → Name → Decision → State
catalog_after s number catalog up_to_date = s
catalog_after s number catalog (new zone) =
    listed (with_version s number zone) catalog (listing_of zone.apex zone.records)
catalog_after s number catalog (refused fault) = s

-- the slots after a member's transfer that found the held version: its zone was refreshed at this moment
abbrev pub refreshed : List SlotOf → ℕ → Option SlotOf → List SlotOf
refreshed slots moment (Some slot) = put slots (record slot { refreshed = moment })
refreshed slots moment None = slots

-- after what came of a member's transfer at a moment: unchanged it is refreshed, and a new version is held
unfoldable pub member_after : State → Name → ℕ → Decision → State
member_after s zone moment up_to_date = record s { table = refreshed s.table moment (slot_of zone s.table) }
member_after s zone moment (new version) =
    record s { table = put s.table (record { zone = zone; refreshed = moment; version = Some version }) }
member_after s zone moment (refused fault) = s

-- after what came of the transfer of a catalog, which has a number, or of a member
abbrev pub taken_from : State → Name → ℕ → Decision → Option ℕ → State
taken_from s zone moment decision (Some number) = catalog_after s number zone decision
taken_from s zone moment decision None = member_after s zone moment decision

-- one entry more is counted
unfoldable pub counted : State → State
counted s = record s { count = s.count + 1 }

-- what is assigned and held after the transfer of a zone that began at a moment
unfoldable pub taken : State → Name → ℕ → Decision → State
taken s zone moment decision = counted (taken_from s zone moment decision (catalog_at s zone))

-- the transfer that an entry records, with the version that was held before it
abbrev pub transfer_of : State → Taken → Transfer
transfer_of s t = record { apex = t.zone; ask = t.ask; id = t.id; held = held_at s t.zone }

-- what comes of an entry's transfer
unfoldable pub decision_of : State → Taken → Decision
decision_of s t = outcome (transfer_of s t) t.octets

-- what is assigned and held after one more entry
unfoldable pub step : State → Entry → State
step s (Setup config) = opened config
step s (Transferred t) = taken s t.zone t.moment (decision_of s t)

-- what is assigned and held after all entries
abbrev pub after : List Entry → State
after entries = fold step nothing entries

-- what the listing of a catalog changes
abbrev pub listing_aftermath : State → Name → Result (List Node) Reason → Aftermath
listing_aftermath s catalog (Ok nodes) = Changes (changes s.fold catalog nodes s.count)
listing_aftermath s catalog (Err reason) = Broken reason

-- what a catalog's transfer changes beyond the catalog
abbrev pub catalog_aftermath : State → Name → Decision → Aftermath
catalog_aftermath s catalog (new zone) = listing_aftermath s catalog (listing_of zone.apex zone.records)
catalog_aftermath s catalog decision = Member

-- what the transfer of a catalog, which has a number, or of a member changes beyond it
abbrev pub aftermath_from : State → Name → Decision → Option ℕ → Aftermath
aftermath_from s zone decision (Some number) = catalog_aftermath s zone decision
aftermath_from s zone decision None = Member

-- what a new version of a zone changes beyond that zone
unfoldable pub aftermath_of : State → Name → Decision → Aftermath
aftermath_of s zone decision = aftermath_from s zone decision (catalog_at s zone)
