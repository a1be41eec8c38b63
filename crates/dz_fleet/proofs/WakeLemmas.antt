-- A zone that a NOTIFY wakes.
use Rattle.std.proofs.Common.{◌≡◌, ℕ, ◌<◌, Bool, true, false, List, length, refl, subst, Some}
use Rattle.std.specs.Prelude.{slice_get, slice_set}
use Rattle.std.proofs.lemmas.Option.{get_or_from_slice_get}
use Rattle.dz_timer.specs.Timing.{Timing}
use Rattle.dz_timer.specs.Timing as timer
use Rattle.dz_timer.specs.Values.{ValuesOf, fresh, notified}
use Rattle.dz_history.specs.declared.entry.Entry.{Entry}
use Rattle.dz_history.specs.State.{State}
use Rattle.dz_history.specs.After.{after}
use Rattle.dz_history.specs.Places.{place_at}
use Rattle.dz_history.proofs.PlaceLemmas.{place_within}
use Rattle.dz_notify.specs.declared.notify.Heard.TheVariants.{Taken}
use Rattle.dz_fleet.specs.declared.flight.Flying.{Flying}
use Rattle.dz_fleet.specs.Values.{value_at}
use Rattle.dz_fleet.specs.Core.{after_notify}
use Rattle.dz_fleet.specs.inner.Kept.{core_in, IsKept}
use Rattle.dz_fleet.proofs.KeptLemmas.{kept_changed}

pub same_busy : (t : Timing) (b : Bool) → t.busy ≡ b → (timer.notified t).busy ≡ t.busy
same_busy t true e = rw e refl
same_busy t false e = rw e refl

module _ (h : State) (list : List Entry) (tickets : ℕ) (fs : List Flying) (values : List ValuesOf)
    (k : IsKept h list tickets fs values) (zone : List (List ℕ)) (place : ℕ) where
  pub wake_fits : place_at h zone ≡ Some place → place < length values
  wake_fits at = rw (k.sound.sized, ← k.after) (place_within h zone place at)

  pub kept_wake : (v : ValuesOf) → place_at h zone ≡ Some place → slice_get values place ≡ Some v
      → IsKept h list tickets fs (slice_set values place (notified v))
  kept_wake v at is =
      let e : value_at values place ≡ v = get_or_from_slice_get values place v fresh is in
      kept_changed h list tickets fs values place (notified v) k (wake_fits at)
      (rw e (same_busy v.timing v.timing.busy refl)) (rw e refl)

  pub wake_core : (v : ValuesOf) → place_at h zone ≡ Some place → slice_get values place ≡ Some v
      → core_in list tickets fs (slice_set values place (notified v))
      ≡ after_notify (core_in list tickets fs values) zone Taken
  wake_core v at is =
      let e : value_at values place ≡ v = get_or_from_slice_get values place v fresh is in
      let there : place_at (after list) zone ≡ Some place = subst (λ s. place_at s zone ≡ Some place) k.after at in
      rw (there, e) refl
