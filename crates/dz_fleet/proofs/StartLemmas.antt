-- The core of a configuration.
use Rattle.std.proofs.Common.{◌≡◌, ℕ, ◌<◌, List, [], ◌∷◌, length, replicate, refl, sym, ◌∙◌, ap, subst, arith, Some}
use Rattle.std.specs.Prelude.{slice_get}
use Rattle.std.proofs.lemmas.List.{length-replicate, get_or-replicate}
use Rattle.std.proofs.lemmas.Option.{slice_get_within}
use Rattle.dz_settings.specs.declared.config.CatalogSettings.{CatalogSettings}
use Rattle.dz_settings.specs.Config.{IsAllowed}
use Rattle.dz_timer.specs.Values.{fresh}
use Rattle.dz_history.specs.declared.entry.Entry.TheVariants.{Setup}
use Rattle.dz_history.specs.State.{State, IsState, opened}
use Rattle.dz_history.specs.After.{after, step}
use Rattle.dz_history.specs.Legal.{IsLegalFrom, IsLegal}
use Rattle.dz_history.specs.Places.{Seat, seats}
use Rattle.dz_history.proofs.ApartLemmas.{apart_opened}
use Rattle.dz_history.proofs.PlaceLemmas.{seats_size}
use Rattle.dz_history.proofs.PrimaryLemmas.{placed_opened}
use Rattle.dz_fleet.specs.Core.{opened_core}
use Rattle.dz_fleet.specs.Sound.{AreApart, IsSound, IsWaiting}
use Rattle.dz_fleet.specs.Values.{value_at}
use Rattle.dz_fleet.specs.inner.Kept.{IsKept}
use Rattle.dz_fleet.proofs.RelistLemmas.{some_primary}

pub opened_state : (config : List CatalogSettings) → after (Setup config ∷ []) ≡ opened config
unfolding step
opened_state config = refl

opened_legal : (config : List CatalogSettings) → IsAllowed config → IsLegal (Setup config ∷ [])
unfolding IsLegalFrom
opened_legal config allowed = ((refl, allowed), tt)

opened_size : (config : List CatalogSettings)
    → length (replicate (length config) fresh) ≡ length (seats (opened config))
opened_size config = length-replicate (length config) fresh ∙ omega (arith, seats_size (opened config))

fresh_at : (n k : ℕ) → k < n → value_at (replicate n fresh) k ≡ fresh
fresh_at n k lt = get_or-replicate n k fresh fresh lt

opened_waits : (config : List CatalogSettings) → IsState (opened config)
    → (place : ℕ) (seat : Seat) → slice_get (seats (opened config)) place ≡ Some seat
    → IsWaiting (opened config) [] seat (value_at (replicate (length config) fresh) place)
opened_waits config ok place seat there =
    let lt : place < length config =
    omega (arith, slice_get_within (seats (opened config)) place seat there, seats_size (opened config)) in
    rw (fresh_at (length config) place lt) record { busy = refl; turn = some_primary (opened config) seat.zone ok }

none_apart : AreApart []
unfolding AreApart
none_apart = tt

opened_sound : (config : List CatalogSettings) → IsAllowed config → IsState (opened config)
    → IsSound (opened_core config)
opened_sound config allowed ok = record {
  legal = opened_legal config allowed;
  begun = omega arith;
  sized = opened_size config ∙ sym (ap (λ s. length (seats s)) (opened_state config));
  waiting = λ place seat there. subst (λ s. IsWaiting s [] seat (value_at (replicate (length config) fresh) place))
      (sym (opened_state config)) (opened_waits config ok place seat
      (subst (λ s. slice_get (seats s) place ≡ Some seat) (opened_state config) there));
  sent = tt;
  apart = none_apart;
  few = omega arith;
  drawn = omega arith;
  most = omega arith;
}

pub opened_kept : (config : List CatalogSettings) (h : State) → IsAllowed config → h ≡ opened config → IsState h
    → IsKept h (Setup config ∷ []) 0 [] (replicate (length config) fresh)
opened_kept config h allowed is ok = record {
  after = is ∙ sym (opened_state config);
  state = ok;
  sound = opened_sound config allowed (subst IsState is ok);
  apart = rw is (apart_opened config);
  placed = rw is (placed_opened config);
  marked = tt;
}

-- an entry that sets up has one configuration
pub same_setup : (a b : List CatalogSettings) → Setup a ≡ Setup b → a ≡ b
same_setup a b e = cc
