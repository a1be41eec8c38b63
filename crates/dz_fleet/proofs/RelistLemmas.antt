-- What zones wait for after a listing.
use Rattle.std.proofs.Common.{◌≡◌, ℕ, ◌+◌, ◌-◌, ◌<◌, ◌≤◌, true, false, List, [], ◌∷◌, ◌++◌, map, take, length, refl}
use Rattle.std.proofs.Common.{sym, ◌∙◌, ap, subst, arith, inl, inr, Some, None}
use Rattle.std.specs.Prelude.{◌⊎◌, Option, ◌==◌, slice_get, position, zero, suc}
use Rattle.std.specs.Option.{option_map, option_map_or, option_and_then, option_eq}
use Rattle.std.specs.List.{AllByRecursion, list_any}
use Rattle.std.specs.Str.{bytes_eq}
use Rattle.std.specs.List.Sorted.{IsStrictlySortedBy}
use Rattle.std.specs.Ordering.{is_eq}
use Rattle.std.specs.declared.cmp.Ordering.TheVariants.{Less}
use Rattle.std.proofs.lemmas.Bool.{cases_Bool, cases_lt, eqb-true}
use Rattle.std.proofs.lemmas.List.{get_or-append_right, get_or_append_left, length-append, length-map, length-take-le}
use Rattle.std.proofs.lemmas.List.{get_or-take, get_or-map}
use Rattle.std.proofs.lemmas.Option.{slice_get-get_or, slice_get_within, get_or_from_slice_get, slice_get-map}
use Rattle.std.proofs.lemmas.Slice.Eq.{bytes_eq-Decides}
use Rattle.dz_io.specs.declared.peer.Peer.{Peer}
use Rattle.dz_name.specs.Name.{same_name, canonical_order}
use Rattle.dz_name.specs.Order.{same_decides, same_ties}
use Rattle.dz_member.specs.Membership.{MemberOf}
use Rattle.dz_member.specs.Fold.{number_of, member_of}
use Rattle.dz_member.specs.Membership as membership
use Rattle.dz_timer.specs.Values.{ValuesOf, fresh}
use Rattle.dz_history.specs.State.{State, IsState, stands, catalog_at, member_at, incarnation_at, primaries_at}
use Rattle.dz_history.specs.Places.{Seat, seats, catalog_seat, member_seat, place_from, place_at, IsApart}
use Rattle.dz_history.proofs.StateLemmas.{incarnation_member, primaries_catalog, primaries_member}
use Rattle.dz_history.proofs.PlaceLemmas.{place_seat, place_there}
use Rattle.dz_history.proofs.PrimaryLemmas.{primaries_some, primaries_kept}
use Rattle.dz_job.specs.Job.{JobOf}
use Rattle.dz_fleet.specs.Values.{value_at, same_primaries, kept, carried_from, carried, relisted_values}
use Rattle.dz_fleet.specs.Core.{primaries_of}
use Rattle.dz_fleet.specs.Sound.{is_of, IsWaiting}
use Rattle.dz_fleet.proofs.FlightLemmas.{of_parts}
use Rattle.dz_fleet.proofs.WaitLemmas.{AreWaiting, seat_stands}

-- ---- places of two lists
slice_left : {X : Type 0} (xs ys : List X) (p : ℕ) (d : X) → p < length xs → slice_get (xs ++ ys) p ≡ slice_get xs p
slice_left xs ys p d lt =
    slice_get-get_or (xs ++ ys) p d (omega (arith, length-append xs ys))
    ∙ (ap Some (get_or_append_left xs ys d p lt) ∙ sym (slice_get-get_or xs p d lt))

slice_right : {X : Type 0} (xs ys : List X) (p : ℕ) (d : X) → length xs ≤ p → p < length xs + length ys
    → slice_get (xs ++ ys) p ≡ slice_get ys (p - length xs)
slice_right xs ys p d le lt =
    slice_get-get_or (xs ++ ys) p d (omega (arith, length-append xs ys))
    ∙ (ap Some (get_or-append_right xs ys (length xs) p d refl le)
    ∙ sym (slice_get-get_or ys (p - length xs) d (omega arith)))

-- a primary at least
counted_some : (o : Option (List Peer)) → ((ps : List Peer) → o ≡ Some ps → 1 ≤ length ps)
    → 1 ≤ option_map_or (λ ps. length ps) o 1
counted_some None h = omega arith
counted_some (Some ps) h = h ps refl

pub some_primary : (s : State) (zone : List (List ℕ)) → IsState s → 1 ≤ primaries_of s zone
some_primary s zone ok = counted_some (primaries_at s zone) (λ ps e. (primaries_some s ok zone ps e).0)

-- ---- a seat is a catalog's or a member's
pub record IsCatalogSeat (s : State) (place : ℕ) (seat : Seat) : Type 0 where
  pub within : place < length s.fold.config
  pub there : slice_get (map catalog_seat s.fold.config) place ≡ Some seat

pub record IsMemberSeat (s : State) (place : ℕ) (seat : Seat) : Type 0 where
  pub behind : length s.fold.config ≤ place
  pub member : MemberOf
  pub there : slice_get s.fold.members (place - length s.fold.config) ≡ Some member
  pub own : seat ≡ member_seat member

mapped_from : {X Y : Type 0} (f : X → Y) (o : Option X) (y : Y) → option_map f o ≡ Some y
    → (x : X) × (o ≡ Some x) × (y ≡ f x)
mapped_from f None y e = absurd (cc)
mapped_from f (Some x) y e = (x, refl, (let s : f x ≡ y = cc in sym s))

pub mapped_there : {X Y : Type 0} (f : X → Y) (xs : List X) (k : ℕ) (y : Y) → slice_get (map f xs) k ≡ Some y
    → (x : X) × (slice_get xs k ≡ Some x) × (y ≡ f x)
mapped_there f xs k y e = mapped_from f (slice_get xs k) y (sym (slice_get-map f xs k) ∙ e)

which : (s : State) (place : ℕ) (seat : Seat) → slice_get (seats s) place ≡ Some seat
    → IsCatalogSeat s place seat ⊎ IsMemberSeat s place seat
which s place seat there = elim (cases_lt place (length s.fold.config)) [
  | inl lt ↦ inl record {
    within = lt;
    there = sym (slice_left (map catalog_seat s.fold.config)
        (map member_seat s.fold.members) place seat (rw length-map lt)) ∙ there;
  }
  | inr ge ↦
      let size : place < length (seats s) = slice_get_within (seats s) place seat there in
      let parts : length (seats s)
      ≡ length (map catalog_seat s.fold.config) + length (map member_seat s.fold.members) =
      length-append (map catalog_seat s.fold.config) (map member_seat s.fold.members) in
      let n : length (map catalog_seat s.fold.config) ≡ length s.fold.config = length-map s.fold.config catalog_seat in
      let at : slice_get (map member_seat s.fold.members) (place - length (map catalog_seat s.fold.config))
      ≡ Some seat =
      sym (slice_right (map catalog_seat s.fold.config) (map member_seat s.fold.members) place seat (omega arith)
      (omega arith)) ∙ there in
      let found = mapped_there member_seat s.fold.members (place - length s.fold.config) seat (rw n at at) in
      inr record { behind = ge; member = found.0; there = found.1; own = found.2 }
]

-- ---- catalogs
place_number : (s : State) (zone : List (List ℕ)) (place : ℕ) (o : Option ℕ) → place_from s zone o ≡ Some place
    → place < length s.fold.config → o ≡ Some place
place_number s zone place (Some n) e lt = e
place_number s zone place None e lt = absurd (let f = mapped_from (λ k. length s.fold.config + k)
    (position (λ m. same_name m.zone zone) s.fold.members) place e in omega (arith, f.2))

catalog_of_place : (s : State) (zone : List (List ℕ)) (place : ℕ) → place_at s zone ≡ Some place
    → place < length s.fold.config → catalog_at s zone ≡ Some place
unfolding place_at
catalog_of_place s zone place e lt = place_number s zone place (catalog_at s zone) e lt

catalog_primaries : (s t : State) (zone : List (List ℕ)) (number : ℕ) → t.fold.config ≡ s.fold.config
    → catalog_at s zone ≡ Some number → primaries_of t zone ≡ primaries_of s zone
catalog_primaries s t zone number same e =
    let there : catalog_at t zone ≡ Some number = rw same e in
    let before = primaries_catalog s zone number (sym e) in
    let after = primaries_catalog t zone number (sym there) in
    rw (before, after, same) refl

value_left : (values more : List ValuesOf) (n place : ℕ) → place < n → n ≤ length values
    → value_at (take n values ++ more) place ≡ value_at values place
value_left values more n place lt le =
    get_or_append_left (take n values) more fresh place (rw (length-take-le n values le) lt)
    ∙ get_or-take n values place fresh lt

value_right : (values : List ValuesOf) (f : MemberOf → ValuesOf) (ms : List MemberOf) (n place : ℕ) (m : MemberOf)
    → n ≤ place → n ≤ length values → slice_get ms (place - n) ≡ Some m
    → value_at (take n values ++ map f ms) place ≡ f m
value_right values f ms n place m le fits there =
    let inside : place - n < length ms = slice_get_within ms (place - n) m there in
    get_or-append_right (take n values) (map f ms) n place fresh (length-take-le n values fits) le
    ∙ (get_or-map f ms (place - n) m fresh inside ∙ ap f (get_or_from_slice_get ms (place - n) m m there))

-- ---- members
all_there : (P : List (List ℕ) → Type 0) (ms : List MemberOf) (k : ℕ) (m : MemberOf)
    → AllByRecursion P (map (λ x. x.zone) ms) → slice_get ms k ≡ Some m → P m.zone
all_there P [] k m h e = absurd (cc)
all_there P (x ∷ xs) zero m h e = let s : x ≡ m = cc in subst (λ (y : MemberOf). P y.zone) s h.0
all_there P (x ∷ xs) (suc k) m h e = all_there P xs k m h.1 e

other_than : (z k : List (List ℕ)) → canonical_order z k ≡ Less → same_name z k ≡ false
other_than z k h = same_ties z k ∙ ap is_eq h

pub found_own : (ms : List MemberOf) (k : ℕ) (m : MemberOf) → IsStrictlySortedBy canonical_order (map (λ x. x.zone) ms)
    → slice_get ms k ≡ Some m → member_of m.zone ms ≡ Some m
unfolding IsStrictlySortedBy
found_own [] k m up e = absurd (cc)
found_own (x ∷ xs) zero m up e =
    let s : x ≡ m = cc in
    let t : same_name x.zone m.zone ≡ true = (same_decides x.zone m.zone).1 (ap (λ (y : MemberOf). y.zone) s) in
    rw t (ap Some s)
found_own (x ∷ xs) (suc k) m up e =
    let lt : canonical_order x.zone m.zone ≡ Less = all_there (λ z. canonical_order x.zone z ≡ Less) xs k m up.0 e in
    rw (other_than x.zone m.zone lt) (found_own xs k m up.1 e)

pub apart_there : (s : State) (ms : List MemberOf) (k : ℕ) (m : MemberOf)
    → AllByRecursion (λ x. number_of s.fold.config x.zone ≡ None) ms → slice_get ms k ≡ Some m
    → catalog_at s m.zone ≡ None
apart_there s [] k m h e = absurd (cc)
apart_there s (x ∷ xs) zero m h e = let is : x ≡ m = cc in subst (λ (y : MemberOf). catalog_at s y.zone ≡ None) is h.0
apart_there s (x ∷ xs) (suc k) m h e = apart_there s xs k m h.1 e

-- the values of a zone that begins: none of the jobs is of its incarnation
none_of : (seat : Seat) (jobs : List JobOf) (count : ℕ) → seat.incarnation ≡ count
    → AllByRecursion (λ j. j.flight.incarnation < count) jobs → list_any (is_of seat) jobs ≡ false
none_of seat [] count e h = refl
none_of seat (j ∷ js) count e h = elim (cases_Bool (is_of seat j)) [
  | inl t ↦ absurd (let p = (of_parts seat j t).1 in omega (arith, p, h.0))
  | inr f ↦ rw (f, none_of seat js count e h.1) refl
]

-- primaries of the same catalog and the same group
same_words : (a b : Option (List ℕ)) → option_eq bytes_eq a b ≡ true → a ≡ b
same_words None None h = refl
same_words None (Some y) h = absurd (cc)
same_words (Some x) None h = absurd (cc)
same_words (Some x) (Some y) h = ap Some ((bytes_eq-Decides x y).0 h)

same_parts : (before m : MemberOf) → same_primaries before m ≡ true
    → (before.catalog ≡ m.catalog) × (before.choice ≡ m.choice)
same_parts before m h = elim (cases_Bool (same_name before.catalog m.catalog)) [
  | inl t ↦ ((same_decides before.catalog m.catalog).0 t, same_words before.choice m.choice (rw t at h))
  | inr f ↦ absurd (let e : false ≡ true = rw f at h in cc)
]

module _ (s t : State) (jobs : List JobOf) (values : List ValuesOf) (ok : IsState s) (later : IsState t)
    (apart : IsApart s) (config : t.fold.config ≡ s.fold.config)
    (old : AllByRecursion (λ j. j.flight.incarnation < s.count) jobs) (waits : AreWaiting s jobs values) where
  begins : (seat : Seat) → seat.incarnation ≡ s.count → IsWaiting t jobs seat fresh
  begins seat e = record { busy = sym (none_of seat jobs s.count e old); turn = some_primary t seat.zone later }

  -- the values of a member that stays
  stays : (m before : MemberOf) (place : ℕ) → catalog_at s m.zone ≡ None → catalog_at t m.zone ≡ None
      → member_at s m.zone ≡ Some before → member_at t m.zone ≡ Some m → before.incarnation ≡ m.incarnation
      → place_at s m.zone ≡ Some place → slice_get (seats s) place ≡ Some (member_seat m)
      → IsWaiting t jobs (member_seat m) (kept (value_at values place) before m)
  stays m before place none none' held here same at there =
      let old_one = waits place (member_seat m) there in
      elim (cases_Bool (same_primaries before m)) [
        | inl t' ↦
            let parts = same_parts before m t' in
            let a = primaries_member s m.zone (sym none) in
            let b = primaries_member t m.zone (sym none') in
            let c : option_and_then (membership.primaries_of t.fold.config) (member_at t m.zone)
            ≡ option_and_then (membership.primaries_of s.fold.config) (member_at s m.zone) =
            rw (held, here) (sym (primaries_kept s t m before (sym config) parts.0 parts.1)) in
            let d : primaries_at t m.zone ≡ primaries_at s m.zone = b ∙ (c ∙ sym a) in
            rw t' record { busy = old_one.busy; turn = rw d old_one.turn }
        | inr f' ↦ rw f' record { busy = old_one.busy; turn = some_primary t m.zone later }
      ]

  carried_by : (m : MemberOf) (o : Option MemberOf) → member_at s m.zone ≡ o → catalog_at s m.zone ≡ None
      → catalog_at t m.zone ≡ None → member_at t m.zone ≡ Some m
      → ((stands s m.zone m.incarnation ≡ true) ⊎ (m.incarnation ≡ s.count))
      → IsWaiting t jobs (member_seat m) (carried_from s values m o)
  carried_by m None e none none' here (inr new) = begins (member_seat m) new
  carried_by m None e none none' here (inl st) =
      absurd (let i : incarnation_at s m.zone ≡ None = incarnation_member s m.zone (sym none)
      ∙ ap (option_map (λ x. x.incarnation)) e in let f : false ≡ true = rw i at st in cc)
  carried_by m (Some before) e none none' here came =
      let i : incarnation_at s m.zone ≡ Some before.incarnation =
      incarnation_member s m.zone (sym none) ∙ ap (option_map (λ x. x.incarnation)) e in
      elim (cases_Bool (before.incarnation == m.incarnation)) [
        | inl t' ↦
            let same : before.incarnation ≡ m.incarnation = eqb-true before.incarnation m.incarnation t' in
            let seated = place_there s m.zone m.incarnation (seat_stands s (member_seat m) (i ∙ ap Some same)) in
            rw (t', seated.at) (stays m before seated.place none none' e here same seated.at seated.there)
        | inr f' ↦ rw f' (elim came [
          | inl st ↦ absurd (let f : (before.incarnation == m.incarnation) ≡ true = rw i at st in cc)
          | inr new ↦ begins (member_seat m) new
        ])
      ]

  carried_waits : (m : MemberOf) → catalog_at s m.zone ≡ None → catalog_at t m.zone ≡ None
      → member_at t m.zone ≡ Some m → ((stands s m.zone m.incarnation ≡ true) ⊎ (m.incarnation ≡ s.count))
      → IsWaiting t jobs (member_seat m) (carried s values m)
  unfolding carried
  carried_waits m none none' here came = carried_by m (member_at s m.zone) refl none none' here came

  -- what each zone waits for after a listing
  pub waiting_relisted : IsApart t → length s.fold.config ≤ length values
      → ((zone : List (List ℕ)) (i : ℕ) → stands t zone i ≡ true → (stands s zone i ≡ true) ⊎ (i ≡ s.count))
      → AreWaiting t jobs (relisted_values s values t.fold.members)
  unfolding relisted_values
  waiting_relisted apart' fits came place seat there = elim (which t place seat there) [
    | inl c ↦
        let lt : place < length s.fold.config = rw config at c.within in
        let before_there : slice_get (seats s) place ≡ Some seat =
        slice_left (map catalog_seat s.fold.config) (map member_seat s.fold.members) place seat (rw length-map lt)
        ∙ rw config at c.there in
        let before = waits place seat before_there in
        let number = catalog_of_place s seat.zone place (place_seat s ok apart place seat before_there).0 lt in
        let value = value_left values (map (carried s values) t.fold.members) (length s.fold.config) place lt fits in
        rw value
        record { busy = before.busy; turn = rw (catalog_primaries s t seat.zone place config number) before.turn }
    | inr m ↦
        let le : length s.fold.config ≤ place = rw config at m.behind in
        let at : slice_get t.fold.members (place - length s.fold.config) ≡ Some m.member = rw config at m.there in
        let value =
        value_right values (carried s values) t.fold.members (length s.fold.config) place m.member le fits at in
        let none' : catalog_at t m.member.zone ≡ None =
        apart_there t t.fold.members (place - length s.fold.config) m.member apart' at in
        let none : catalog_at s m.member.zone ≡ None = rw config at none' in
        let here = found_own t.fold.members (place - length s.fold.config) m.member later.fold.rises at in
        let own : slice_get (seats t) place ≡ Some (member_seat m.member) = rw m.own at there in
        let stood =
        seat_stands t (member_seat m.member) (place_seat t later apart' place (member_seat m.member) own).1 in
        rw (m.own, value) (carried_waits m.member none none' here (came m.member.zone m.member.incarnation stood))
  ]
