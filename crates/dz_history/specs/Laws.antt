-- Judge: laws of what a transfer changes.
use Rattle.std.specs.Prelude.{◌≡◌, ◌≢◌, ℕ, ◌<◌, List, take, slice_get, Some, None, Err}
use Rattle.std.specs.Option.{option_map}
use Rattle.dz_name.specs.Words.{Name}
use Rattle.dz_zone.specs.Version.{Zone}
use Rattle.dz_take.specs.Transfer.{new, refused}
use Rattle.dz_take.specs.declared.outcome.TakeFault.{TakeFault}
use Rattle.dz_member.specs.declared.listing.Broken.{Broken as Reason}
use Rattle.dz_member.specs.Membership.{MemberOf}
use Rattle.dz_catalog.specs.Listing.{listing_of}
use Rattle.dz_history.specs.declared.entry.Taken.{Taken}
use Rattle.dz_history.specs.declared.entry.Entry.{Entry}
use Rattle.dz_history.specs.declared.entry.Entry.TheVariants.{Transfer}
use Rattle.dz_history.specs.State.{State, catalog_at, member_at, held_at}
use Rattle.dz_history.specs.After.{slot_after, taken, decision_of, after}
use Rattle.dz_history.specs.Legal.{IsLegal}

-- no membership, no listing and no slot of a member changed
pub record Keeps (s after : State) : Type 0 where
  pub fold : after.fold ≡ s.fold
  pub table : after.table ≡ s.table

-- a catalog's version that has no listing changes no membership, and no slot of a member (RFC 9432 section 5.1)
abbrev pub BrokenKeeps : Type 0
BrokenKeeps = (s : State) (catalog : Name) (number moment : ℕ) (zone : Zone) (reason : Reason)
    → catalog_at s catalog ≡ Some number
    → listing_of zone.apex zone.records ≡ Err reason → Keeps s (taken s catalog moment (new zone))

-- a zone that begins by a listing, for the first time or anew, shows no records that were taken before
abbrev pub BeginsEmpty : Type 0
BeginsEmpty = (s : State) (m : MemberOf) → option_map (λ before. before.incarnation) (member_at s m.zone)
    ≢ Some m.incarnation → (slot_after s m).version ≡ None

-- a transfer that is refused changes nothing but the count of entries
abbrev pub RefusedKeeps : Type 0
RefusedKeeps = (s : State) (zone : Name) (moment : ℕ) (fault : TakeFault)
    → Keeps s (taken s zone moment (refused fault))

-- a version came by an entry of this zone and this incarnation, after the one that the incarnation began by
pub record CameBy (entries : List Entry) (zone : Name) (incarnation : ℕ) (version : Zone) : Type 0 where
  pub place : ℕ
  pub taken : Taken
  pub behind : incarnation < place
  pub there : slice_get entries place ≡ Some (Transfer taken)
  pub own : taken.zone ≡ zone
  pub stood : taken.incarnation ≡ incarnation
  pub made : decision_of (after (take place entries)) taken ≡ new version

-- in every list that can come about, what is held of a member was taken for it, since it began
abbrev pub RecordsAreOwn : Type 0
RecordsAreOwn = (entries : List Entry) (m : MemberOf) (version : Zone) → IsLegal entries
    → member_at (after entries) m.zone ≡ Some m
    → held_at (after entries) m.zone ≡ Some version → CameBy entries m.zone m.incarnation version
