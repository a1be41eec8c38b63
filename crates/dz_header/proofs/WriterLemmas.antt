-- Octets that are written up to a limit.
use Rattle.std.proofs.Common.{◌≡◌, ℕ, ◌+◌, ◌-◌, ◌<◌, ◌≤◌, List, [], ◌++◌, length, take, drop, refl, sym, ap}
use Rattle.std.proofs.Common.{append_assoc, arith, length-append, Option, Some, None, length-take-le, length-drop}
use Rattle.std.proofs.Common.{if◌then◌else◌, inl, inr, ◌∙◌}
use Rattle.std.specs.Prelude.{nat_le, true, false, option_map, IsSome, IsNone}
use Rattle.std.proofs.lemmas.List.{take_at, take_all, append-nil, take-append-drop, take-append-le}
use Rattle.std.proofs.lemmas.List.{drop-append-le}
use Rattle.std.specs.Option.{ForSome}
use Rattle.std.proofs.lemmas.Bool.Decides.{nat_tests, leb_tells}
use Rattle.std.proofs.lemmas.Bool.{false_from_ne_true}
use Rattle.dz_header.specs.Writing.{Writing, octets_with, also, room_with, left, over, changed}

-- what was written is at the beginning of some octets; more is put after it where it fits
pub joined_at : (limit n : ℕ) (before after more : List ℕ) (end : Option ℕ) → n ≤ limit → limit ≤ length before
    → end ≡ (if nat_le (length more) (limit - n) then Some (n + length more) else None)
    → (IsSome end → after ≡ take n before ++ (more ++ drop (n + length more) before))
    → option_map (λ k. take k after) end ≡ octets_with limit (Some (take n before)) more
unfolding octets_with
joined_at limit n before after more end le room is kept =
    let size : length (take n before) ≡ n = length-take-le n before (omega arith) in
    elim (leb_tells (length more) (limit - n)) [
      | inl w ↦
          let some : end ≡ Some (n + length more) = rw w.0 at is in
          let front : take (n + length more) after ≡ take n before ++ more =
          rw (kept (rw some refl), ← append_assoc) (take_at (take n before ++ more) (drop (n + length more) before)
          (n + length more) (omega (arith, length-append (take n before) more))) in
          rw (size, w.0, some) (ap Some front)
      | inr w ↦ let none : end ≡ None = rw w.0 at is in rw (size, w.0, none) refl
    ]

-- what was written is at the beginning, followed by what was there
pub room_at : (limit n : ℕ) (before after more : List ℕ) (end : Option ℕ) → n ≤ limit → limit ≤ length before
    → end ≡ (if nat_le (length more) (limit - n) then Some (n + length more) else None)
    → (IsSome end → after ≡ take n before ++ (more ++ drop (n + length more) before))
    → (IsNone end → after ≡ before)
    → after ≡ room_with before (option_map (λ k. take k after) end)
room_at limit n before after more end le room is kept same =
    let size : length (take n before) ≡ n = length-take-le n before (omega arith) in
    elim (leb_tells (length more) (limit - n)) [
      | inl w ↦
          let some : end ≡ Some (n + length more) = rw w.0 at is in
          let whole : after ≡ (take n before ++ more) ++ drop (n + length more) before =
          rw append_assoc (kept (rw some refl)) in
          let count : length (take n before ++ more) ≡ n + length more =
          omega (arith, length-append (take n before) more) in
          let front : take (n + length more) after ≡ take n before ++ more =
          ap (take (n + length more)) whole ∙ take_at (take n before ++ more) (drop (n + length more) before)
          (n + length more) (omega (arith, count)) in
          let all : take (length before) ((take n before ++ more) ++ drop (n + length more) before)
          ≡ (take n before ++ more) ++ drop (n + length more) before =
          take_all (length before) ((take n before ++ more) ++ drop (n + length more) before)
          (omega (
            arith,
            count,
            length-append (take n before ++ more) (drop (n + length more) before),
            length-drop (n + length more) before,
          )) in
          rw (some, front, count) (whole ∙ sym all)
      | inr w ↦ let none : end ≡ None = rw w.0 at is in rw none (same (rw none refl))
    ]

joined_append : (limit : ℕ) (octets : Option (List ℕ)) (a b : List ℕ)
    → octets_with limit octets (a ++ b) ≡ octets_with limit (octets_with limit octets a) b
unfolding octets_with
joined_append limit None a b = refl
joined_append limit (Some octets) a b =
    let whole = length-append a b in
    let front = length-append octets a in
    elim (leb_tells (length a) (limit - length octets)) [
      | inl w ↦
          elim (leb_tells (length b) (limit - length (octets ++ a))) [
            | inl v ↦
                let e : nat_le (length (a ++ b)) (limit - length octets) ≡ true = grind (arith, nat_tests) in
                rw (e, w.0, v.0) (ap Some (sym (append_assoc octets a b)))
            | inr v ↦
                let more : limit - length octets < length (a ++ b) = omega (arith, whole, front, v.1, w.1) in
                let e : nat_le (length (a ++ b)) (limit - length octets) ≡ false = grind (arith, nat_tests) in
                rw (e, w.0, v.0) refl
          ]
      | inr w ↦
          let e : nat_le (length (a ++ b)) (limit - length octets) ≡ false = grind (arith, nat_tests) in
          rw (e, w.0) refl
    ]

-- to write two pieces is to write one after the other
pub also_append : (w : Writing) (a b : List ℕ) → also w (a ++ b) ≡ also (also w a) b
unfolding also
also_append w a b = rw (joined_append w.limit w.octets a b) refl

joined_nil : (limit : ℕ) (octets : Option (List ℕ)) → octets_with limit octets [] ≡ octets
unfolding octets_with
joined_nil limit None = refl
joined_nil limit (Some octets) =
    let e : nat_le 0 (limit - length octets) ≡ true = grind (arith, nat_tests) in
    rw (e, append-nil octets) refl

pub also_nil : (w : Writing) → also w [] ≡ w
unfolding also
also_nil w = rw (joined_nil w.limit w.octets) refl

-- once over, over
pub also_over : (w : Writing) (more : List ℕ) → w.octets ≡ None → also w more ≡ w
unfolding also octets_with
also_over w more h = rw h refl

past : (limit : ℕ) (octets : Option (List ℕ)) (more : List ℕ)
    → left (record { limit = limit; octets = octets }) < length more → octets_with limit octets more ≡ None
unfolding octets_with
past limit None more long = refl
past limit (Some octets) more long =
    let e : nat_le (length more) (limit - length octets) ≡ false = grind (arith, nat_tests) in
    rw e refl

-- more than may be written goes over the limit
pub also_past : (w : Writing) (more : List ℕ) → left w < length more → also w more ≡ over w
unfolding also
also_past w more long = rw (past w.limit w.octets more long) refl

-- octets replaced in the first of two parts
pub changed_front : (at : ℕ) (new xs ys : List ℕ) → at + length new ≤ length xs
    → changed at new (xs ++ ys) ≡ changed at new xs ++ ys
unfolding changed
changed_front at new xs ys fits =
    let past : List ℕ = drop (at + length new) xs in
    rw (take-append-le at xs ys (omega (arith, fits)), drop-append-le (at + length new) xs ys fits)
    (sym (append_assoc (take at xs) (new ++ past) ys ∙ ap (λ zs. take at xs ++ zs) (append_assoc new past ys)))

-- there are as many octets as before
pub changed_length : (at : ℕ) (new xs : List ℕ) → at + length new ≤ length xs → length (changed at new xs) ≡ length xs
unfolding changed
changed_length at new xs fits = omega (
  arith,
  length-append (take at xs) (new ++ drop (at + length new) xs),
  length-append new (drop (at + length new) xs),
  length-drop (at + length new) xs,
  length-take-le at xs (omega (arith, fits)),
)

changed_taken : (at n : ℕ) (new xs : List ℕ) → at + length new ≤ n → n ≤ length xs
    → take n (changed at new xs) ≡ changed at new (take n xs)
changed_taken at n new xs fits within =
    let size : length (take n xs) ≡ n = length-take-le n xs within in
    let there : at + length new ≤ length (take n xs) = omega (arith, size, fits) in
    ap (λ zs. take n (changed at new zs)) (sym (take-append-drop n xs))
    ∙ ap (take n) (changed_front at new (take n xs) (drop n xs) there)
    ∙ take_at (changed at new (take n xs)) (drop n xs) n (changed_length at new (take n xs) there ∙ size)

-- what was written is changed as the room is
pub written_changed : (at : ℕ) (new before after : List ℕ) (len : Option ℕ) → after ≡ changed at new before
    → ForSome len (λ n. n ≤ length before)
    → ForSome (option_map (λ n. take n before) len) (λ octets. at + length new ≤ length octets)
    → option_map (λ n. take n after) len ≡ option_map (changed at new) (option_map (λ n. take n before) len)
written_changed at new before after None is within fits = refl
written_changed at new before after (Some n) is within fits =
    let low : n ≤ length before = within n refl in
    let size : length (take n before) ≡ n = length-take-le n before low in
    let there : at + length new ≤ n = omega (arith, size, fits (take n before) refl) in
    ap Some (rw is (changed_taken at n new before there low))
