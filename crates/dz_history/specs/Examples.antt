-- Judge: what transfers make of memberships and slots, computed by the checker.
use Rattle.std.specs.Prelude.{◌≡◌, refl, ℕ, List, [], ◌∷◌, Some, None, Err, codes}
use Rattle.dz_name.specs.Words.{Name, Octets}
use Rattle.dz_zone.specs.Version.{Zone}
use Rattle.dz_take.specs.Transfer.{up_to_date, new}
use Rattle.dz_settings.specs.declared.config.Policy.TheVariants.{Off}
use Rattle.dz_settings.specs.declared.config.CatalogSettings.{CatalogSettings}
use Rattle.dz_member.specs.declared.listing.Node.{Node}
use Rattle.dz_member.specs.declared.listing.Broken.TheVariants.{NoVersion}
use Rattle.dz_member.specs.Membership.{choice_of}
use Rattle.dz_member.specs.Process.{judged, process}
use Rattle.dz_table.specs.Slot.{SlotOf}
use Rattle.dz_table.specs.Table.{put}
use Rattle.dz_history.specs.State.{State, opened, incarnation_at}
use Rattle.dz_history.specs.After.{fresh, slot_after, relisted, listed, member_after, counted, taken}

-- the catalog zone cat1.example.
abbrev one : Name
one = codes "cat1" ∷ codes "example" ∷ []

-- the member zone example.
abbrev zone : Name
zone = codes "example" ∷ []

-- a configuration of that catalog
abbrev settings : List CatalogSettings
settings = record {
  name = one;
  policy = Off;
  primaries = record { address = 192 ∷ 0 ∷ 2 ∷ 1 ∷ []; port = 53 } ∷ [];
  groups = [];
  key = None;
} ∷ []

-- the member node of that zone under a label (RFC 9432 section 4.1)
abbrev node : Octets → Node
node label = record { label = label; zone = zone; coo = None; groups = [] }

-- the label m1
abbrev m1 : Octets
m1 = codes "m1"

-- one listing of the zone: it begins without a version
abbrev first : State
first = counted (relisted (opened settings) one (node m1 ∷ []))

pub begins : first.table ≡ fresh zone ∷ []
unfolding counted relisted process judged slot_after choice_of
begins = refl

pub incarnation : incarnation_at first zone ≡ Some 1
unfolding incarnation_at counted relisted process judged slot_after choice_of
incarnation = refl

pub of_a_catalog : incarnation_at first one ≡ Some 0
unfolding incarnation_at counted relisted process judged slot_after choice_of
of_a_catalog = refl

-- a version at moment 100
abbrev version : Zone
version = record { apex = zone; records = [] }

-- the version was taken at moment 100
abbrev second : State
second = taken first zone 100 (new version)

-- the slot that has the version, refreshed at this moment
abbrev holding : ℕ → SlotOf
holding moment = record { zone = zone; refreshed = moment; version = Some version }

pub held : second.table ≡ holding 100 ∷ []
unfolding taken member_after put counted relisted process judged slot_after choice_of
held = refl

-- unchanged at 200: refreshed, with the same version
pub again : (taken second zone 200 up_to_date).table ≡ holding 200 ∷ []
unfolding taken member_after put counted relisted process judged slot_after choice_of
again = refl

-- listed again under the same label: the slot stays
pub stays : (relisted second one (node m1 ∷ [])).table ≡ holding 100 ∷ []
unfolding taken member_after put counted relisted process judged slot_after choice_of
stays = refl

-- under another label: all state goes
pub reset : (relisted second one (node (codes "m2") ∷ [])).table ≡ fresh zone ∷ []
unfolding taken member_after put counted relisted process judged slot_after choice_of
reset = refl

-- no longer listed: gone
pub removed : (relisted second one []).table ≡ []
unfolding taken member_after put counted relisted process judged slot_after choice_of
removed = refl

-- broken: all stays
pub broken : listed second one (Err NoVersion) ≡ second
broken = refl
