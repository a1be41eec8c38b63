-- The first of the least waits is the first zone that is due.
use Rattle.std.proofs.Common.{◌≡◌, ◌≢◌, ℕ, ◌-◌, ◌<◌, ◌≤◌, ◌^◌, Bool, true, false, List, [], ◌∷◌, map, length, get_or}
use Rattle.std.proofs.Common.{refl, sym, ◌∙◌, ap, arith, inl, inr}
use Rattle.std.specs.Prelude.{Some, None, nat_lt}
use Rattle.std.specs.List.{list_any, position}
use Rattle.std.proofs.Math.ListN.{set}
use Rattle.std.proofs.lemmas.List.{map-set, get_or-map, length-map}
use Rattle.std.proofs.lemmas.List.Elements.{All-set, All-from_get_or, All-get_or}
use Rattle.std.proofs.lemmas.List.Folds.{list_any_at, list_any_none}
use Rattle.std.proofs.lemmas.List.Sums.{position_or_len_is}
use Rattle.std.proofs.lemmas.Bool.{cases_Bool}
use Rattle.std.proofs.lemmas.Bool.Decides.{nat_tests}
use Rattle.dz_timer.specs.Values.{ValuesOf, fresh}
use Rattle.dz_timer.specs.Schedule.{is_earlier, is_first}
use Rattle.dz_timer.specs.inner.Tournament.{IsFirstOfLeast, IsSoon, AreKept, wait_of}

pub kept_set : (zones : List ValuesOf) (waits new : List ℕ) (place : ℕ) (v : ValuesOf) → AreKept zones waits → IsSoon v
    → new ≡ set waits place (wait_of v) → AreKept (set zones place v) new
kept_set zones waits new place v k soon e = record {
  kept = rw (e, k.kept) (sym (map-set wait_of zones place v));
  soon = All-set IsSoon zones place v soon k.soon;
}

position_at : {X : Type 0} (p : X → Bool) (xs : List X) (i : ℕ) (d : X) → i < length xs → p (get_or xs i d) ≡ true
    → ((k : ℕ) → k < i → p (get_or xs k d) ≡ false) → Some i ≡ position p xs
position_at p xs i d lt t f =
    let e = position_or_len_is p xs i d (omega arith) f (λ l. t) in
    let below : nat_lt i (length xs) ≡ true = grind (arith, nat_tests) in
    rw (e, below) refl

pub position_none : {X : Type 0} (p : X → Bool) (xs : List X) (d : X)
    → ((k : ℕ) → k < length xs → p (get_or xs k d) ≡ false) → None ≡ position p xs
position_none p xs d f =
    let e = position_or_len_is p xs (length xs) d (omega arith) f (λ l. absurd (omega arith)) in
    let n : nat_lt (length xs) (length xs) ≡ false = grind (arith, nat_tests) in
    rw (e, n) refl

idle_waits : (v : ValuesOf) → v.timing.busy ≡ false → wait_of v ≡ v.timing.next
idle_waits v f = rw f refl

-- a zone that waits for a moment has no job in flight
idle_of : (v : ValuesOf) → wait_of v ≢ 2 ^ 64 - 1 → v.timing.busy ≡ false
idle_of v ne = elim (cases_Bool v.timing.busy) [ inl t ↦ absurd (ne (rw t refl)) | inr f ↦ f ]

wait_at : (zones : List ValuesOf) (k : ℕ) → k < length zones
    → get_or (map wait_of zones) k 0 ≡ wait_of (get_or zones k fresh)
wait_at zones k lt = get_or-map wait_of zones k fresh 0 lt

-- of two zones without a job in flight, by what they wait for
earlier_by_waits : (u v : ValuesOf) → u.timing.busy ≡ false → v.timing.busy ≡ false → wait_of u < wait_of v
    → is_earlier u v ≡ true
earlier_by_waits u v f g lt =
    let less : u.timing.next < v.timing.next = omega (arith, lt, idle_waits u f, idle_waits v g) in
    let q : nat_lt u.timing.next v.timing.next ≡ true = grind (arith, nat_tests) in
    rw (f, q) refl

not_earlier_by_waits : (u v : ValuesOf) → v.timing.busy ≡ false → wait_of v ≤ wait_of u → is_earlier u v ≡ false
not_earlier_by_waits u v g le =
    elim (cases_Bool u.timing.busy) [
      | inl t ↦ rw t refl
      | inr f ↦
          let least : v.timing.next ≤ u.timing.next = omega (arith, le, idle_waits u f, idle_waits v g) in
          let q : nat_lt u.timing.next v.timing.next ≡ false = grind (arith, nat_tests) in
          rw (f, q) refl
    ]

pub first_found : (zones : List ValuesOf) (waits : List ℕ) (place : ℕ) → AreKept zones waits
    → IsFirstOfLeast waits place → get_or waits place 0 ≢ 2 ^ 64 - 1
    → Some place ≡ position (is_first zones) zones
first_found zones waits place k h ne =
    let h' : IsFirstOfLeast (map wait_of zones) place = rw k.kept at h in
    let ne' : get_or (map wait_of zones) place 0 ≢ 2 ^ 64 - 1 = rw k.kept at ne in
    let v = get_or zones place fresh in
    let within : place < length zones = omega (arith, h'.within, length-map zones wait_of) in
    let here = wait_at zones place within in
    let idle : v.timing.busy ≡ false = idle_of v (λ e. ne' (here ∙ e)) in
    let none : list_any (λ u. is_earlier u v) zones ≡ false =
    list_any_none (λ u. is_earlier u v) zones (All-from_get_or (λ u. is_earlier u v ≡ false) zones fresh
    (λ i lt. not_earlier_by_waits (get_or zones i fresh) v idle
    (omega (arith, h'.least i (omega (arith, length-map zones wait_of)), wait_at zones i lt, here)))) in
    position_at (is_first zones) zones place fresh within (rw (idle, none) refl)
    (λ i less.
    let u = get_or zones i fresh in
    elim (cases_Bool u.timing.busy) [
      | inl t ↦ rw t refl
      | inr f ↦
          let e = earlier_by_waits v u idle f (omega (arith, h'.first i less, wait_at zones i (omega arith), here)) in
          let any : list_any (λ w. is_earlier w u) zones ≡ true =
          list_any_at (λ w. is_earlier w u) zones place fresh within e in
          rw (f, any) refl
    ])

pub none_found : (zones : List ValuesOf) (waits : List ℕ) (place : ℕ) → AreKept zones waits
    → IsFirstOfLeast waits place → get_or waits place 0 ≡ 2 ^ 64 - 1
    → None ≡ position (is_first zones) zones
none_found zones waits place k h e =
    let h' : IsFirstOfLeast (map wait_of zones) place = rw k.kept at h in
    let e' : get_or (map wait_of zones) place 0 ≡ 2 ^ 64 - 1 = rw k.kept at e in
    position_none (is_first zones) zones fresh (λ i lt.
    let u = get_or zones i fresh in
    elim (cases_Bool u.timing.busy) [
      | inl t ↦ rw t refl
      | inr f ↦ absurd (let le = h'.least i (omega (arith, length-map zones wait_of)) in
          let soon = All-get_or IsSoon zones i fresh lt k.soon f in
          omega (arith, le, wait_at zones i lt, idle_waits u f, soon, e'))
    ])

pub no_zone : (zones : List ValuesOf) (waits : List ℕ) → AreKept zones waits → length waits ≡ 0
    → None ≡ position (is_first zones) zones
no_zone [] waits k e = refl
no_zone (v ∷ vs) waits k e = absurd (omega (arith, e, ap length k.kept))

pub length-kept : (zones : List ValuesOf) (waits : List ℕ) → AreKept zones waits → length waits ≡ length zones
length-kept zones waits k = ap length k.kept ∙ length-map zones wait_of
