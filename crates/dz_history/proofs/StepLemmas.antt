-- What a transfer's entry makes of a state, case by case.
use Rattle.std.proofs.Common.{◌≡◌, ℕ, ◌+◌, List, refl, sym, Some, None, Ok, Err}
use Rattle.std.specs.Prelude.{Option, Result}
use Rattle.dz_name.specs.Name.{same_name}
use Rattle.dz_name.specs.Order.{same_decides}
use Rattle.dz_zone.specs.Version.{Zone}
use Rattle.dz_take.specs.Transfer.{Decision, up_to_date, new, refused}
use Rattle.dz_catalog.specs.Listing.{listing_of}
use Rattle.dz_member.specs.declared.listing.Node.{Node}
use Rattle.dz_member.specs.declared.listing.Broken.{Broken as Reason}
use Rattle.dz_member.specs.Process.{process}
use Rattle.dz_table.specs.Slot.{SlotOf}
use Rattle.dz_table.specs.Table.{put, slot_of}
use Rattle.dz_history.specs.declared.entry.Taken.{Taken}
use Rattle.dz_history.specs.declared.entry.Entry.TheVariants.{Transfer as Transferred}
use Rattle.dz_history.specs.State.{State, catalog_at}
use Rattle.dz_history.specs.After.{counted, taken, taken_from, catalog_after, member_after, decision_of, relisted}
use Rattle.dz_history.specs.After.{listed, with_version, refreshed, step}
use Rattle.dz_history.proofs.FindLemmas.{found_passes}

module _ (s : State) (t : Taken) (P : State → Type 0)
    (same : P (counted s))
    (with_slot : (slot : SlotOf) → None ≡ catalog_at s t.zone → slot.zone ≡ t.zone
    → P (counted (record s { table = put s.table slot })))
    (broken : (number : ℕ) (zone : Zone) → Some number ≡ catalog_at s t.zone → decision_of s t ≡ new zone
    → P (counted (with_version s number zone)))
    (processed : (number : ℕ) (zone : Zone) (nodes : List Node) → Some number ≡ catalog_at s t.zone
    → decision_of s t ≡ new zone → listing_of zone.apex zone.records ≡ Ok nodes
    → P (counted (relisted (with_version s number zone) t.zone nodes))) where
  by_listing : (number : ℕ) (zone : Zone) → Some number ≡ catalog_at s t.zone → decision_of s t ≡ new zone
      → (r : Result (List Node) Reason) → listing_of zone.apex zone.records ≡ r
      → P (counted (listed (with_version s number zone) t.zone r))
  by_listing number zone at d (Ok nodes) l = processed number zone nodes at d l
  by_listing number zone at d (Err reason) l = broken number zone at d

  by_catalog : (number : ℕ) → Some number ≡ catalog_at s t.zone → (d : Decision) → decision_of s t ≡ d
      → P (counted (catalog_after s number t.zone d))
  unfolding catalog_after
  by_catalog number at up_to_date d = same
  by_catalog number at (new zone) d = by_listing number zone at d (listing_of zone.apex zone.records) refl
  by_catalog number at (refused fault) d = same

  by_slot : None ≡ catalog_at s t.zone → (o : Option SlotOf) → slot_of t.zone s.table ≡ o
      → P (counted (record s { table = refreshed s.table t.moment o }))
  by_slot at None e = same
  by_slot at (Some x) e = with_slot (record x { refreshed = t.moment })
      at ((same_decides x.zone t.zone).0 (found_passes (λ y. same_name y.zone t.zone) s.table x (sym e)))

  by_member : None ≡ catalog_at s t.zone → (d : Decision) → P (counted (member_after s t.zone t.moment d))
  unfolding member_after
  by_member at up_to_date = by_slot at (slot_of t.zone s.table) refl
  by_member at (new version) =
      with_slot (record { zone = t.zone; refreshed = t.moment; version = Some version }) at refl
  by_member at (refused fault) = same

  by_number : (o : Option ℕ) → o ≡ catalog_at s t.zone → P (counted (taken_from s t.zone t.moment (decision_of s t) o))
  by_number None at = by_member at (decision_of s t)
  by_number (Some number) at = by_catalog number at (decision_of s t) refl

  pub step_by : P (step s (Transferred t))
  unfolding step taken
  step_by = by_number (catalog_at s t.zone) refl

pub count_step : (s : State) (t : Taken) → (step s (Transferred t)).count ≡ s.count + 1
unfolding counted relisted
count_step s t = step_by s t (λ x. x.count ≡ s.count + 1) refl (λ _ _ _. refl) (λ _ _ _ _. refl) (λ _ _ _ _ _ _. refl)

pub config_step : (s : State) (t : Taken) → (step s (Transferred t)).fold.config ≡ s.fold.config
unfolding counted relisted process
config_step s t =
    step_by s t (λ x. x.fold.config ≡ s.fold.config) refl (λ _ _ _. refl) (λ _ _ _ _. refl) (λ _ _ _ _ _ _. refl)
