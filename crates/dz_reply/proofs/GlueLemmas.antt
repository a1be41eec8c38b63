-- Glue: what was found of each server, counted and written one after the other.
use Rattle.std.proofs.Common.{◌≡◌, ℕ, ◌+◌, ◌%◌, ◌<◌, ◌≤◌, List, [], ◌∷◌, ◌++◌, length, drop, get_or, refl, sym}
use Rattle.std.proofs.Common.{◌∙◌, ap, arith, length-append, append_assoc, Some, None}
use Rattle.std.specs.Prelude.{Option, IsSome, is_some, not, true}
use Rattle.std.specs.List.{flat_map, AllByRecursion}
use Rattle.std.proofs.lemmas.Grind.{flat_map-append}
use Rattle.std.proofs.lemmas.List.{drop_more, drop_all, append-nil}
use Rattle.dz_record.specs.Record.{Record}
use Rattle.dz_zone.specs.Version.{Zone}
use Rattle.dz_runs.specs.Runs.{of_type, records_of}
use Rattle.dz_runs.specs.declared.runs.Addresses.{Addresses}
use Rattle.dz_header.specs.Writing.{Writing, also}
use Rattle.dz_reply.specs.Layout.{entries_octets, entries}
use Rattle.dz_reply.specs.Answer.{own_entries, inner_target, addresses_of, glue_of}
use Rattle.dz_reply.specs.inner.Glue.{shown}
use Rattle.dz_reply.proofs.AnswerLemmas.{both_written, none_written, length-own_entries}

-- records of one owner are written under it
own_is : (name : List (List ℕ)) (rs : List Record) → AllByRecursion (λ r. r.owner ≡ name) rs
    → own_entries rs ≡ entries name rs
unfolding own_entries entries
own_is name [] h = refl
own_is name (r ∷ rs) h = ap (λ owner. entries owner (r ∷ rs)) h.0

pub shown_is : (zone : Zone) (server : Record) (name : List (List ℕ)) (a : Addresses)
    → Some name ≡ inner_target zone server
    → a.four.now ≡ of_type 1 (records_of zone.records name) → a.six.now ≡ of_type 28 (records_of zone.records name)
    → AllByRecursion (λ r. r.owner ≡ name) a.four.now → AllByRecursion (λ r. r.owner ≡ name) a.six.now
    → shown a ≡ glue_of zone server
unfolding shown glue_of addresses_of
shown_is zone server name a is four six all_four all_six =
    let e : own_entries a.four.now ≡ entries name (of_type 1 (records_of zone.records name)) =
    own_is name a.four.now all_four ∙ ap (entries name) four in
    let f : own_entries a.six.now ≡ entries name (of_type 28 (records_of zone.records name)) =
    own_is name a.six.now all_six ∙ ap (entries name) six in
    rw (← is, e, f) refl

pub none_shown : (zone : Zone) (server : Record) (a : Addresses) → None ≡ inner_target zone server → a.four.now ≡ []
    → a.six.now ≡ [] → shown a ≡ glue_of zone server
unfolding shown glue_of addresses_of own_entries
none_shown zone server a is four six = rw (← is, four, six) refl

pub length-shown : (a : Addresses) → length (shown a) ≡ length a.four.now + length a.six.now
unfolding shown
length-shown a =
    let e = length-append (own_entries a.four.now) (own_entries a.six.now) in
    let f = length-own_entries a.four.now in
    let g = length-own_entries a.six.now in
    omega (arith, e, f, g)

pub shown_written : (q : List (List ℕ)) (a : Addresses) (w w1 w2 : Writing)
    → w1 ≡ also w (entries_octets q (own_entries a.four.now)) → w2 ≡ also w1 (entries_octets q (own_entries a.six.now))
    → w2 ≡ also w (entries_octets q (shown a))
unfolding shown
shown_written q a w w1 w2 e f = both_written q _ _ w w1 w2 e f

-- a writer that is over has no octets
pub over_no : {X : Type 0} (octets : Option (List ℕ)) → not (is_some octets) ≡ true → IsSome octets → X
over_no None over some = absurd (cc)
over_no (Some xs) over some = absurd (cc)

-- one by one
module _ {X : Type 0} (f : X → List Record) where
  step_on : (xs : List X) (k : ℕ) (x : X) → k < length xs → x ≡ get_or xs k x
      → flat_map f (drop k xs) ≡ f x ++ flat_map f (drop (k + 1) xs)
  step_on xs k x lt item = ap (flat_map f) (drop_more xs k x lt ∙ ap (λ s. s ∷ drop (k + 1) xs) (sym item))

  at_last : (xs : List X) (k : ℕ) → length xs ≤ k → flat_map f (drop k xs) ≡ []
  at_last xs k le = ap (flat_map f) (drop_all k xs le)

  pub joined : {Y : Type 0} (g : Y → List Record) (xs : List X) (ys : List Y) (k : ℕ) (x : X) (y : Y) → k < length xs
      → x ≡ get_or xs k x → g y ≡ f x
      → flat_map g ys ++ flat_map f (drop k xs) ≡ flat_map f xs
      → flat_map g (ys ++ y ∷ []) ++ flat_map f (drop (k + 1) xs) ≡ flat_map f xs
  joined g xs ys k x y lt item same so_far =
      let one : flat_map g (y ∷ []) ≡ f x = append-nil (g y) ∙ same in
      ap (λ l. l ++ flat_map f (drop (k + 1) xs)) (flat_map-append g ys (y ∷ []) ∙ ap (λ l. flat_map g ys ++ l) one)
      ∙ (append_assoc (flat_map g ys) (f x) (flat_map f (drop (k + 1) xs))
      ∙ (ap (λ l. flat_map g ys ++ l) (sym (step_on xs k x lt item)) ∙ so_far))

  pub joined_all : (xs : List X) (all : List Record) (k : ℕ) → length xs ≤ k
      → all ++ flat_map f (drop k xs) ≡ flat_map f xs → all ≡ flat_map f xs
  joined_all xs all k le so_far = sym (append-nil all) ∙ (ap (λ l. all ++ l) (sym (at_last xs k le)) ∙ so_far)

  pub counted : (xs : List X) (k count one : ℕ) (x : X) → k < length xs → x ≡ get_or xs k x
      → one ≡ length (f x) % 65536
      → (count + length (flat_map f (drop k xs))) % 65536 ≡ length (flat_map f xs) % 65536
      → ((count + one) % 65536 + length (flat_map f (drop (k + 1) xs))) % 65536 ≡ length (flat_map f xs) % 65536
  counted xs k count one x lt item is so_far =
      let g = rw (step_on xs k x lt item) at so_far in
      let h = length-append (f x) (flat_map f (drop (k + 1) xs)) in
      omega (arith, g, h, is)

  pub counted_all : (xs : List X) (k count : ℕ) → length xs ≤ k → count < 65536
      → (count + length (flat_map f (drop k xs))) % 65536 ≡ length (flat_map f xs) % 65536
      → count ≡ length (flat_map f xs) % 65536
  counted_all xs k count le small so_far =
      let g = rw (at_last xs k le) at so_far in
      omega (arith, g)

  pub written : (q : List (List ℕ)) (xs : List X) (k : ℕ) (start w w1 : Writing) (x : X) → k < length xs
      → x ≡ get_or xs k x → w1 ≡ also w (entries_octets q (f x))
      → also w (entries_octets q (flat_map f (drop k xs))) ≡ also start (entries_octets q (flat_map f xs))
      → also w1 (entries_octets q (flat_map f (drop (k + 1) xs))) ≡ also start (entries_octets q (flat_map f xs))
  written q xs k start w w1 x lt item is so_far =
      let rest : List Record = flat_map f (drop (k + 1) xs) in
      let g : also w (entries_octets q (f x ++ rest)) ≡ also start (entries_octets q (flat_map f xs)) =
      rw (step_on xs k x lt item) at so_far in
      both_written q (f x) rest w w1 (also w1 (entries_octets q rest)) is refl ∙ g

  pub written_all : (q : List (List ℕ)) (xs : List X) (k : ℕ) (start w : Writing) → length xs ≤ k
      → also w (entries_octets q (flat_map f (drop k xs))) ≡ also start (entries_octets q (flat_map f xs))
      → w ≡ also start (entries_octets q (flat_map f xs))
  written_all q xs k start w le so_far = none_written q w ∙ (rw (at_last xs k le) at so_far)
