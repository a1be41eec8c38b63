-- Places: each of them has a zone with its incarnation, and each assigned zone has one.
use Rattle.std.proofs.Common.{◌≡◌, ℕ, zero, suc, ◌+◌, ◌-◌, ◌<◌, Bool, true, false, List, [], ◌∷◌, ◌++◌, map, length}
use Rattle.std.proofs.Common.{get_or, refl, sym, ◌∙◌, ap, subst, arith, inl, inr, Some, None}
use Rattle.std.specs.Prelude.{Option, ◌==◌, position, slice_get, IsSome}
use Rattle.std.specs.Option.{option_map, option_map_or}
use Rattle.std.specs.List.{AllByRecursion, find}
use Rattle.std.proofs.lemmas.Bool.{cases_lt}
use Rattle.std.proofs.lemmas.Bool.Decides.{nat_tests}
use Rattle.std.proofs.lemmas.Cmp.{tied_itself}
use Rattle.std.proofs.lemmas.List.{length-map, length-append}
use Rattle.std.proofs.lemmas.Option.{slice_get-get_or, slice_get-map, slice_get_within, get_or_from_slice_get}
use Rattle.dz_name.specs.Words.{Name}
use Rattle.dz_name.specs.Name.{canonical_order, same_name}
use Rattle.dz_name.specs.Order.{canonical_total, same_decides, same_ties}
use Rattle.dz_settings.specs.declared.config.CatalogSettings.{CatalogSettings}
use Rattle.dz_member.specs.Membership.{MemberOf, settings_at}
use Rattle.dz_member.specs.Fold.{number_of}
use Rattle.dz_member.proofs.NumberLemmas.{number_back, number_names}
use Rattle.dz_member.proofs.SearchLemmas.{place_at as place_of, place_found, place_missing}
use Rattle.dz_history.specs.State.{State, IsState, catalog_at, member_at, incarnation_at, stands}
use Rattle.dz_history.specs.Places.{Seat, catalog_seat, member_seat, seats, place_from, place_at, IsApart, IsSeated}
use Rattle.dz_history.proofs.FindLemmas.{found_passes, place_within as within}
use Rattle.dz_history.proofs.StateLemmas.{incarnation_catalog, incarnation_member}

pub seats_size : (s : State) → length (seats s) ≡ length s.fold.config + length s.fold.members
seats_size s =
    omega (
      arith,
      length-append (map catalog_seat s.fold.config) (map member_seat s.fold.members),
      length-map s.fold.config catalog_seat,
      length-map s.fold.members member_seat,
    )

-- ---- a list after another
pub get_front : {X : Type 0} (xs ys : List X) (k : ℕ) → k < length xs → slice_get (xs ++ ys) k ≡ slice_get xs k
get_front [] ys k h = absurd (omega arith)
get_front (x ∷ xs) ys zero h = refl
get_front (x ∷ xs) ys (suc k) h = get_front xs ys k (omega arith)

pub get_behind : {X : Type 0} (xs ys : List X) (k : ℕ) → slice_get (xs ++ ys) (length xs + k) ≡ slice_get ys k
get_behind [] ys k = ap (λ (n : ℕ). slice_get ys n) (omega arith)
get_behind (x ∷ xs) ys k =
    ap (λ (n : ℕ). slice_get (x ∷ xs ++ ys) n) (let e : length (x ∷ xs) + k ≡ suc (length xs + k) = omega arith in e)
    ∙ get_behind xs ys k

-- ---- what a search finds, and where
pub record Spot {X : Type 0} (p : X → Bool) (xs : List X) (x : X) : Type 0 where
  pub place : ℕ
  pub at : position p xs ≡ Some place
  pub there : slice_get xs place ≡ Some x

pub spot_of : {X : Type 0} (p : X → Bool) (xs : List X) (x : X) (o : Option ℕ) → position p xs ≡ o → find p xs ≡ Some x
    → Spot p xs x
spot_of p xs x None e f = absurd (let q : None ≡ Some x = place_missing p xs e ∙ f in cc)
spot_of p xs x (Some k) e f =
    let there : slice_get xs k ≡ Some (get_or xs k x) = slice_get-get_or xs k x (within p xs k (sym e)) in
    record { place = k; at = e; there = there ∙ (place_found p xs k (get_or xs k x) e there ∙ f) }

-- ---- of a zone
pub place_catalog : (s : State) (zone : Name) (number : ℕ) → Some number ≡ catalog_at s zone
    → place_at s zone ≡ Some number
unfolding place_at
place_catalog s zone number e = ap (place_from s zone) (sym e)

pub place_member : (s : State) (zone : Name) → None ≡ catalog_at s zone → place_at s zone
    ≡ option_map (λ place. length s.fold.config + place) (position (λ m. same_name m.zone zone) s.fold.members)
unfolding place_at
place_member s zone e = ap (place_from s zone) (sym e)

seat_is : (c : CatalogSettings) (zone : Name) (i : ℕ) → c.name ≡ zone → 0 ≡ i
    → catalog_seat c ≡ record { zone = zone; incarnation = i }
seat_is c zone i e f = λ k. record { zone = e k; incarnation = f k }

seat_of : (m : MemberOf) (zone : Name) (i : ℕ) → m.zone ≡ zone → m.incarnation ≡ i
    → member_seat m ≡ record { zone = zone; incarnation = i }
seat_of m zone i e f = λ k. record { zone = e k; incarnation = f k }

catalog_there : (s : State) (number : ℕ) → number < length s.fold.config
    → slice_get (seats s) number ≡ Some (catalog_seat (settings_at s.fold.config number))
catalog_there s number lt =
    get_front (map catalog_seat s.fold.config) (map member_seat s.fold.members) number
    (omega (arith, length-map s.fold.config catalog_seat))
    ∙ slice_get-map catalog_seat s.fold.config number
    ∙ ap (option_map catalog_seat) (slice_get-get_or s.fold.config number _ lt)

member_there : (s : State) (k : ℕ)
    → slice_get (seats s) (length s.fold.config + k) ≡ option_map member_seat (slice_get s.fold.members k)
member_there s k =
    ap (λ (n : ℕ). slice_get (seats s) (n + k)) (sym (length-map s.fold.config catalog_seat))
    ∙ get_behind (map catalog_seat s.fold.config) (map member_seat s.fold.members) k
    ∙ slice_get-map member_seat s.fold.members k

seated_catalog : (s : State) (zone : Name) (i number : ℕ) → number_of s.fold.config zone ≡ Some number → 0 ≡ i
    → IsSeated s zone i
seated_catalog s zone i number e z =
    let n = number_names s.fold.config zone number e in
    record {
      place = number;
      at = place_catalog s zone number (sym e);
      there = catalog_there s number n.within ∙ ap Some (seat_is (settings_at s.fold.config number) zone i n.is z);
    }

seated_member : (s : State) (zone : Name) (i : ℕ) (m : MemberOf) → None ≡ catalog_at s zone → member_at s zone ≡ Some m
    → m.incarnation ≡ i → IsSeated s zone i
seated_member s zone i m e f z =
    let p : MemberOf → Bool = λ x. same_name x.zone zone in
    let spot = spot_of p s.fold.members m (position p s.fold.members) refl f in
    let own : m.zone ≡ zone = (same_decides m.zone zone).0 (found_passes p s.fold.members m (sym f)) in
    record {
      place = length s.fold.config + spot.place;
      at = place_member s zone e ∙ ap (option_map (λ (k : ℕ). length s.fold.config + k)) spot.at;
      there = member_there s spot.place ∙ ap (option_map member_seat) spot.there ∙ ap Some (seat_of m zone i own z);
    }

-- an incarnation that is current, at a catalog and at a member
pub stands_zero : (s : State) (zone : Name) (i number : ℕ) → Some number ≡ catalog_at s zone
    → stands s zone i ≡ true → 0 ≡ i
stands_zero s zone i number e h = let t : (0 == i) ≡ true =
    ap (λ (o : Option ℕ). option_map_or (λ j. j == i) o false) (sym (incarnation_catalog s zone number e)) ∙ h in
    grind (arith, nat_tests)

pub record IsMember (s : State) (zone : Name) (i : ℕ) : Type 0 where
  pub member : MemberOf
  pub is : member_at s zone ≡ Some member
  pub begun : member.incarnation ≡ i

member_of_some : (s : State) (zone : Name) (i : ℕ) (o : Option MemberOf) → member_at s zone ≡ o
    → option_map_or (λ j. j == i) (option_map (λ (m : MemberOf). m.incarnation) o) false ≡ true → IsMember s zone i
member_of_some s zone i None e h = absurd (cc)
member_of_some s zone i (Some m) e h =
    record { member = m; is = e; begun = (let t : (m.incarnation == i) ≡ true = h in grind (arith, nat_tests)) }

pub stands_member : (s : State) (zone : Name) (i : ℕ) → None ≡ catalog_at s zone → stands s zone i ≡ true
    → IsMember s zone i
stands_member s zone i e h =
    member_of_some s zone i (member_at s zone) refl
    (ap (λ (o : Option ℕ). option_map_or (λ j. j == i) o false) (sym (incarnation_member s zone e)) ∙ h)

there_from : (s : State) (zone : Name) (i : ℕ) (o : Option ℕ) → o ≡ catalog_at s zone → stands s zone i ≡ true
    → IsSeated s zone i
there_from s zone i (Some number) e h = seated_catalog s zone i number (sym e) (stands_zero s zone i number e h)
there_from s zone i None e h = let m = stands_member s zone i e h in seated_member s zone i m.member e m.is m.begun

pub place_there : (s : State) (zone : Name) (i : ℕ) → stands s zone i ≡ true → IsSeated s zone i
place_there s zone i h = there_from s zone i (catalog_at s zone) refl h

-- ---- of a place
all_at : {X : Type 0} (P : X → Type 0) (xs : List X) (k : ℕ) (x : X) → AllByRecursion P xs
    → slice_get xs k ≡ Some x → P x
all_at P [] k x a e = absurd (cc)
all_at P (y ∷ ys) zero x a e = let same : y ≡ x = cc in subst P same a.0
all_at P (y ∷ ys) (suc k) x a e = all_at P ys k x a.1 e

pub record IsSeatOf (s : State) (place : ℕ) (zone : Name) (i : ℕ) : Type 0 where
  pub at : place_at s zone ≡ Some place
  pub begun : incarnation_at s zone ≡ Some i

catalog_place : (s : State) → IsState s → (p : ℕ) → p < length s.fold.config
    → IsSeatOf s p (settings_at s.fold.config p).name 0
catalog_place s ok p lt =
    let e = number_back s.fold.config p ok.fold.allowed lt in
    record {
      at = place_catalog s (settings_at s.fold.config p).name p (sym e);
      begun = incarnation_catalog s (settings_at s.fold.config p).name p (sym e);
    }

member_place : (s : State) → IsState s → IsApart s → (k : ℕ) (m : MemberOf) → slice_get s.fold.members k ≡ Some m
    → IsSeatOf s (length s.fold.config + k) m.zone m.incarnation
member_place s ok apart k m e =
    let none : None ≡ catalog_at s m.zone =
    sym (all_at (λ x. number_of s.fold.config x.zone ≡ None) s.fold.members k m apart e) in
    let p : MemberOf → Bool = λ x. same_name x.zone m.zone in
    let same : get_or s.fold.members k m ≡ m = get_or_from_slice_get s.fold.members k m m e in
    let lt : k < length s.fold.members = slice_get_within s.fold.members k m e in
    let at : Some k ≡ position p s.fold.members =
    place_of canonical_total (λ (x : MemberOf). x.zone) p m.zone
    (λ y. same_ties y.zone m.zone) s.fold.members k m lt ok.fold.rises
    (λ d. ap (λ (x : MemberOf). canonical_order x.zone m.zone) (get_or_from_slice_get s.fold.members k m d e)
    ∙ tied_itself canonical_total m.zone) in
    record {
      at = place_member s m.zone none ∙ ap (option_map (λ (n : ℕ). length s.fold.config + n)) (sym at);
      begun = incarnation_member s m.zone none
          ∙ ap (option_map (λ (x : MemberOf). x.incarnation)) (sym (place_found p s.fold.members k m (sym at) e));
    }

of_catalog : (s : State) → IsState s → (p : ℕ) (seat : Seat) → slice_get (seats s) p ≡ Some seat
    → p < length s.fold.config → IsSeatOf s p seat.zone seat.incarnation
of_catalog s ok p seat e lt =
    let some : Some (catalog_seat (settings_at s.fold.config p)) ≡ Some seat = sym (catalog_there s p lt) ∙ e in
    let same : catalog_seat (settings_at s.fold.config p) ≡ seat = cc in
    subst (λ (x : Seat). IsSeatOf s p x.zone x.incarnation) same (catalog_place s ok p lt)

of_member : (s : State) → IsState s → IsApart s → (k : ℕ) (seat : Seat) (o : Option MemberOf)
    → slice_get s.fold.members k ≡ o → option_map member_seat o ≡ Some seat
    → IsSeatOf s (length s.fold.config + k) seat.zone seat.incarnation
of_member s ok apart k seat None e f = absurd (cc)
of_member s ok apart k seat (Some m) e f =
    let same : member_seat m ≡ seat = cc in
    subst (λ (x : Seat). IsSeatOf s (length s.fold.config + k) x.zone x.incarnation) same
    (member_place s ok apart k m e)

seat_at : (s : State) → IsState s → IsApart s → (p : ℕ) (seat : Seat) → slice_get (seats s) p ≡ Some seat
    → IsSeatOf s p seat.zone seat.incarnation
seat_at s ok apart p seat e = elim (cases_lt p (length s.fold.config)) [
  | inl lt ↦ of_catalog s ok p seat e lt
  | inr ge ↦
      let k : ℕ = p - length s.fold.config in
      let is : length s.fold.config + k ≡ p = omega arith in
      let f : option_map member_seat (slice_get s.fold.members k) ≡ Some seat =
      sym (member_there s k) ∙ ap (λ (n : ℕ). slice_get (seats s) n) is ∙ e in
      subst (λ (n : ℕ). IsSeatOf s n seat.zone seat.incarnation) is
      (of_member s ok apart k seat (slice_get s.fold.members k) refl f)
]

pub place_seat : (s : State) → IsState s → IsApart s → (p : ℕ) (seat : Seat) → slice_get (seats s) p ≡ Some seat
    → (place_at s seat.zone ≡ Some p) × (incarnation_at s seat.zone ≡ Some seat.incarnation)
place_seat s ok apart p seat e = let r = seat_at s ok apart p seat e in (r.at, r.begun)

-- ---- places are within the seats
offset_within : (n count p : ℕ) (o : Option ℕ) → ((k : ℕ) → Some k ≡ o → k < count)
    → option_map (λ k. n + k) o ≡ Some p → p < n + count
offset_within n count p None h e = absurd (cc)
offset_within n count p (Some k) h e = let is : n + k ≡ p = cc in omega (arith, h k refl)

within_from : (s : State) (zone : Name) (p : ℕ) (o : Option ℕ) → o ≡ catalog_at s zone → place_at s zone ≡ Some p
    → p < length (seats s)
within_from s zone p (Some number) e h =
    let some : Some number ≡ Some p = sym (place_catalog s zone number e) ∙ h in
    let is : number ≡ p = cc in
    omega (arith, seats_size s, within (λ c. same_name c.name zone) s.fold.config number e)
within_from s zone p None e h =
    let q : MemberOf → Bool = λ m. same_name m.zone zone in
    let lt : p < length s.fold.config + length s.fold.members =
    offset_within (length s.fold.config) (length s.fold.members) p (position q s.fold.members)
    (λ k f. within q s.fold.members k f) (sym (place_member s zone e) ∙ h) in
    omega (arith, seats_size s)

pub place_within : (s : State) (zone : Name) (p : ℕ) → place_at s zone ≡ Some p → p < length (seats s)
place_within s zone p h = within_from s zone p (catalog_at s zone) refl h

-- ---- a zone has a place exactly where it is assigned
some_mapped : {X Y : Type 0} (f : X → Y) (o : Option X) → IsSome (option_map f o) → IsSome o
some_mapped f None h = absurd (cc)
some_mapped f (Some x) h = refl

map_some : {X Y : Type 0} (f : X → Y) (o : Option X) → IsSome o → IsSome (option_map f o)
map_some f None h = absurd (cc)
map_some f (Some x) h = refl

pub found_where : {X : Type 0} (p : X → Bool) (xs : List X) (o : Option X) → find p xs ≡ o → IsSome o
    → IsSome (position p xs)
found_where p xs None e h = absurd (cc)
found_where p xs (Some x) e h = rw ((spot_of p xs x (position p xs) refl e).at) refl

pub where_found : {X : Type 0} (p : X → Bool) (xs : List X) (o : Option ℕ) → o ≡ position p xs → IsSome o
    → IsSome (find p xs)
where_found p [] o e h = absurd (let f : IsSome (position p []) = subst (λ (q : Option ℕ). IsSome q) e h in cc)
where_found p (x ∷ xs) None e h = absurd (cc)
where_found p (x ∷ xs) (Some k) e h =
    let f : Some (get_or (x ∷ xs) k x) ≡ find p (x ∷ xs) = place_found p (x ∷ xs) k (get_or (x ∷ xs) k x) (sym e)
    (slice_get-get_or (x ∷ xs) k x (within p (x ∷ xs) k e)) in
    rw (← f) refl

place_some_from : (s : State) (zone : Name) (o : Option ℕ) → o ≡ catalog_at s zone → IsSome (incarnation_at s zone)
    → IsSome (place_at s zone)
place_some_from s zone (Some number) e h = rw (place_catalog s zone number e) refl
place_some_from s zone None e h =
    let q : MemberOf → Bool = λ m. same_name m.zone zone in
    rw (place_member s zone e)
    (map_some (λ k. length s.fold.config + k) (position q s.fold.members)
    (found_where q s.fold.members (find q s.fold.members) refl
    (some_mapped (λ m. m.incarnation) (member_at s zone) (rw (incarnation_member s zone e) at h))))

some_place_from : (s : State) (zone : Name) (o : Option ℕ) → o ≡ catalog_at s zone → IsSome (place_at s zone)
    → IsSome (incarnation_at s zone)
some_place_from s zone (Some number) e h = rw (incarnation_catalog s zone number e) refl
some_place_from s zone None e h =
    let q : MemberOf → Bool = λ m. same_name m.zone zone in
    rw (incarnation_member s zone e)
    (map_some (λ m. m.incarnation) (member_at s zone)
    (where_found q s.fold.members (position q s.fold.members) refl
    (some_mapped (λ k. length s.fold.config + k) (position q s.fold.members) (rw (place_member s zone e) at h))))

pub place_some : (s : State) (zone : Name) → IsSome (incarnation_at s zone) → IsSome (place_at s zone)
place_some s zone h = place_some_from s zone (catalog_at s zone) refl h

pub some_place : (s : State) (zone : Name) → IsSome (place_at s zone) → IsSome (incarnation_at s zone)
some_place s zone h = some_place_from s zone (catalog_at s zone) refl h
