-- The job of a place.
use Rattle.std.proofs.Common.{◌≡◌, ℕ, ◌+◌, ◌^◌, ◌%◌, ◌<◌, List, length, refl, ap, ◌∙◌, subst, Some}
use Rattle.std.specs.Prelude.{Option, slice_get, IsSome}
use Rattle.std.proofs.lemmas.Option.{get_or_from_slice_get}
use Rattle.dz_io.specs.declared.peer.Peer.{Peer}
use Rattle.dz_zone.specs.Version.{Zone}
use Rattle.dz_take.specs.declared.ask.Ask.{Ask}
use Rattle.dz_timer.specs.Values.{ValuesOf, fresh}
use Rattle.dz_history.specs.declared.entry.Entry.{Entry}
use Rattle.dz_settings.specs.declared.key.Key.{Key}
use Rattle.dz_history.specs.State.{State, held_at, key_at, primaries_at}
use Rattle.dz_history.specs.After.{after}
use Rattle.dz_history.specs.Places.{Seat, seats}
use Rattle.dz_history.proofs.ListLemmas.{count_is}
use Rattle.dz_history.proofs.PlaceLemmas.{place_seat}
use Rattle.dz_history.proofs.PrimaryLemmas.{primaries_there}
use Rattle.dz_fleet.specs.declared.flight.Flying.{Flying}
use Rattle.dz_fleet.specs.Values.{value_at}
use Rattle.dz_fleet.specs.Core.{ask_of, primary_at, primaries_of, job_at}
use Rattle.dz_fleet.specs.inner.Kept.{core_in, IsKept}
use Rattle.dz_fleet.proofs.HandLemmas.{job_is}
use Rattle.dz_fleet.proofs.TakeLemmas.{stands_some}
use Rattle.dz_fleet.proofs.WaitLemmas.{seat_stands}

module _ (h : State) (list : List Entry) (tickets : ℕ) (fs : List Flying) (values : List ValuesOf)
    (k : IsKept h list tickets fs values) (place : ℕ) (seat : Seat) (b : ValuesOf)
    (there : slice_get (seats h) place ≡ Some seat) (is : slice_get values place ≡ Some b) where
  pub job_turn : b.turn < primaries_of (after list) seat.zone
  job_turn =
      let v : value_at values place ≡ b = get_or_from_slice_get values place b fresh is in
      rw v at (k.sound.waiting place seat (subst (λ s. slice_get (seats s) place ≡ Some seat) k.after there)).turn

  pub job_primaries : IsSome (primaries_at (after list) seat.zone)
  job_primaries =
      let at = place_seat h k.state k.apart place seat there in
      subst (λ s. IsSome (primaries_at s seat.zone)) k.after
      (primaries_there h k.placed seat.zone (stands_some h seat.zone seat.incarnation (seat_stands h seat at.1)))

  pub job_made : (now entries : ℕ) (held : Option Zone) (ask : Ask) (primary : Peer) (key : Option Key)
      → entries ≡ h.count → held ≡ held_at h seat.zone → key ≡ key_at h seat.zone → ask ≡ ask_of held b.whole
      → primary ≡ primary_at (primaries_at (after list) seat.zone) b.turn
      → record {
        flight = record {
          ticket = tickets + 1;
          zone = seat.zone;
          incarnation = seat.incarnation;
          ask = ask;
          id = (tickets + 1) % 2 ^ 16;
          primary = primary;
          moment = now;
          entries = entries;
        };
        held = held;
        key = key;
      } ≡ job_at (core_in list tickets fs values) now place
  job_made now entries held ask primary key n e d f g =
      let count : entries ≡ length list = n ∙ (ap (λ (s : State). s.count) k.after ∙ count_is list k.sound.legal) in
      let v : value_at values place ≡ b = get_or_from_slice_get values place b fresh is in
      rw (
        job_is (core_in list tickets fs values) now place seat
            (subst (λ s. slice_get (seats s) place ≡ Some seat) k.after there),
        v,
        f,
        g,
        count,
        e,
        d,
        k.after,
      ) refl
