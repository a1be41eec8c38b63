-- Members that a listing leaves as they are keep their values.
use Rattle.std.proofs.Common.{◌≡◌, ℕ, ◌+◌, ◌-◌, ◌<◌, ◌≤◌, true, List, map, take, drop, length, refl, sym, ◌∙◌, ap}
use Rattle.std.proofs.Common.{arith, Some, None, get_or}
use Rattle.std.specs.Prelude.{Option, slice_get}
use Rattle.std.specs.Option.{option_map, option_eq}
use Rattle.std.specs.Str.{bytes_eq}
use Rattle.std.proofs.lemmas.List.{length-map, length-drop, drop-map, take-map, get_or-map, get_or-drop, get_or_default}
use Rattle.std.proofs.lemmas.List.{same_lists}
use Rattle.std.proofs.lemmas.Option.{slice_get-get_or, slice_get-map}
use Rattle.std.proofs.lemmas.Slice.Eq.{bytes_eq-Decides}
use Rattle.dz_name.specs.Order.{same_decides}
use Rattle.dz_name.specs.Name.{same_name}
use Rattle.dz_member.specs.Membership.{MemberOf}
use Rattle.dz_timer.specs.Values.{ValuesOf, fresh}
use Rattle.dz_history.specs.State.{State, IsState}
use Rattle.dz_history.specs.Places.{seats, catalog_seat, member_seat, place_at}
use Rattle.dz_history.proofs.PlaceLemmas.{get_behind, place_seat, seats_size}
use Rattle.dz_fleet.specs.Values.{value_at, same_primaries, carried}
use Rattle.dz_fleet.specs.inner.Relisting.{IsRelisting}
use Rattle.dz_fleet.proofs.CarryLemmas.{carried_same}
use Rattle.dz_fleet.proofs.RelistLemmas.{found_own}
use Rattle.dz_fleet.proofs.ReachLemmas.{drop_by, some_member}

same_word : (o : Option (List ℕ)) → option_eq bytes_eq o o ≡ true
same_word None = refl
same_word (Some w) = (bytes_eq-Decides w w).1 refl

same_itself : (m : MemberOf) → same_primaries m m ≡ true
same_itself m =
    let a : same_name m.catalog m.catalog ≡ true = (same_decides m.catalog m.catalog).1 refl in
    rw a (same_word m.choice)

member_there : (s : State) (i : ℕ) (m : MemberOf) → slice_get s.fold.members i ≡ Some m
    → slice_get (seats s) (length s.fold.config + i) ≡ Some (member_seat m)
member_there s i m there =
    let n : length (map catalog_seat s.fold.config) ≡ length s.fold.config = length-map s.fold.config catalog_seat in
    let e : slice_get (seats s) (length (map catalog_seat s.fold.config) + i) ≡ Some (member_seat m) =
    get_behind (map catalog_seat s.fold.config) (map member_seat s.fold.members) i
    ∙ (slice_get-map member_seat s.fold.members i ∙ ap (option_map member_seat) there) in
    rw n at e

module _ (s : State) (values : List ValuesOf) (members : List MemberOf) (ok : IsState s)
    (is : IsRelisting s values members) where
  stay_value : (i : ℕ) (m : MemberOf) → slice_get s.fold.members i ≡ Some m
      → carried s values m ≡ value_at values (length s.fold.config + i)
  stay_value i m there =
      let found = found_own s.fold.members i m ok.fold.rises there in
      let at : place_at s m.zone ≡ Some (length s.fold.config + i) =
      (place_seat s ok is.apart (length s.fold.config + i) (member_seat m) (member_there s i m there)).0 in
      carried_same s values m m found refl
      ∙ (let t = same_itself m in rw (at, t) refl)

  pub stay_values : map (carried s values) s.fold.members ≡ drop (length s.fold.config) values
  stay_values =
      let size : length values ≡ length s.fold.config + length s.fold.members = is.sized ∙ seats_size s in
      same_lists (map (carried s values) s.fold.members) (drop (length s.fold.config) values)
      (omega (arith, size, length-map s.fold.members (carried s values), length-drop (length s.fold.config) values))
      (λ i d lt.
      let inside : i < length s.fold.members = omega (arith, lt, length-map s.fold.members (carried s values)) in
      let m : MemberOf = get_or s.fold.members i some_member in
      let at : get_or (map (carried s values) s.fold.members) i d ≡ carried s values m =
      get_or-map (carried s values) s.fold.members i _ d inside in
      at ∙ (stay_value i m (slice_get-get_or s.fold.members i _ inside)
      ∙ (get_or_default values (length s.fold.config + i) fresh d (omega arith)
      ∙ sym (get_or-drop (length s.fold.config) values i d))))

  pub run_values : (from upto : ℕ) → from ≤ upto → upto ≤ length s.fold.members
      → take (upto - from) (drop (length s.fold.config + from) values)
      ≡ map (carried s values) (take (upto - from) (drop from s.fold.members))
  run_values from upto le fits =
      ap (take (upto - from)) (sym (drop_by values (length s.fold.config) from) ∙ (ap (drop from) (sym stay_values)
      ∙ drop-map (carried s values) from s.fold.members))
      ∙ take-map (carried s values) (upto - from) (drop from s.fold.members)

  pub run_copied : (k from upto : ℕ) (vs : List ValuesOf) → k ≡ length s.fold.config → vs ≡ values → from ≤ upto
      → upto ≤ length s.fold.members → take ((k + upto) - (k + from)) (drop (k + from) vs)
      ≡ map (carried s values) (take (upto - from) (drop from s.fold.members))
  run_copied k from upto vs config all le fits =
      let n : (k + upto) - (k + from) ≡ upto - from = omega arith in
      rw (n, config, all) (run_values from upto le fits)
