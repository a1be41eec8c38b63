-- How many members come before a zone.
use Rattle.std.proofs.Common.{◌≡◌, ℕ, ◌+◌, ◌-◌, ◌<◌, ◌≤◌, Bool, true, false, List, [], ◌∷◌, map, take, drop, length}
use Rattle.std.proofs.Common.{refl, sym, ◌∙◌, ap, subst, arith, inl, inr, Some, None, zero, suc, cond, get_or}
use Rattle.std.specs.Prelude.{Option, slice_get, position, if◌then◌else◌}
use Rattle.std.specs.Option.{option_map_or}
use Rattle.std.specs.List.{prefix_len, AllByRecursion}
use Rattle.std.specs.List.Sorted.{IsStrictlySortedBy}
use Rattle.std.specs.Ordering.{is_eq, is_lt}
use Rattle.std.specs.declared.cmp.Ordering.TheVariants.{Less, Equal, Greater}
use Rattle.std.proofs.lemmas.Bool.{cases_Bool, cases_lt}
use Rattle.std.proofs.lemmas.List.{length-drop, drop_all, drop_more}
use Rattle.std.proofs.lemmas.List.Sums.{prefix_len_passes, prefix_len_stops, prefix_len-le-length}
use Rattle.std.proofs.lemmas.Option.{slice_get-get_or, slice_get_within, slice_get_past, get_or_from_slice_get}
use Rattle.std.proofs.lemmas.Cmp.{tied_itself}
use Rattle.dz_name.specs.Words.{Name}
use Rattle.dz_name.specs.Name.{same_name, canonical_order}
use Rattle.dz_name.specs.Order.{canonical_total, canonical_same, same_decides, same_ties}
use Rattle.dz_member.specs.declared.change.Change.{Change}
use Rattle.dz_member.specs.Membership.{MemberOf}
use Rattle.dz_member.proofs.EachLemmas.{by_order}
use Rattle.dz_member.proofs.SearchLemmas.{less_at, place_at, place_gap, less_from}
use Rattle.dz_fleet.specs.inner.Relisting.{count_before, is_at, next_place, AreRelisted, AreBehind}
use Rattle.dz_fleet.proofs.RelistLemmas.{mapped_there}
use Rattle.dz_fleet.proofs.StretchLemmas.{past, less_back, greater_apart, greater_back, stretch, passed}

-- ---- behind the first members
pub counted_rest : {X : Type 0} (p : X → Bool) (xs : List X) (b : ℕ) → b ≤ prefix_len p xs
    → prefix_len p (drop b xs) ≡ prefix_len p xs - b
counted_rest p xs zero le = omega arith
counted_rest p [] (suc b) le = absurd (omega arith)
counted_rest p (x ∷ xs) (suc b) le = elim (cases_Bool (p x)) [
  | inl t ↦
      let le' : suc b ≤ 1 + prefix_len p xs = rw t at le in
      let rest = counted_rest p xs b (omega arith) in
      rw t (omega (arith, rest))
  | inr f ↦ absurd (let bad : suc b ≤ 0 = rw f at le in omega (arith, bad))
]

pub there_rest : {X : Type 0} (xs : List X) (b k : ℕ) → slice_get (drop b xs) k ≡ slice_get xs (b + k)
there_rest xs zero k = let e : 0 + k ≡ k = omega arith in rw e refl
there_rest [] (suc b) k = sym (slice_get_past [] (suc b + k) (omega arith)) ∙ slice_get_past [] k (omega arith)
there_rest (x ∷ xs) (suc b) k = let e : suc b + k ≡ suc (b + k) = omega arith in rw e (there_rest xs b k)

is_at_rest : (z : Name) (ms : List MemberOf) (b : ℕ) → is_at z (drop b ms) 0 ≡ is_at z ms b
is_at_rest z ms b =
    let e : b + 0 ≡ b = omega arith in
    ap (λ o. option_map_or (λ (m : MemberOf). same_name m.zone z) o false)
    (there_rest ms b 0 ∙ ap (λ k. slice_get ms k) e)

-- what is left behind a zone
pub drop_by : {X : Type 0} (xs : List X) (b k : ℕ) → drop k (drop b xs) ≡ drop (b + k) xs
drop_by xs zero k = let e : 0 + k ≡ k = omega arith in rw e refl
drop_by [] (suc b) k = drop_all k [] (omega arith) ∙ sym (drop_all (suc b + k) [] (omega arith))
drop_by (x ∷ xs) (suc b) k = let e : suc b + k ≡ suc (b + k) = omega arith in rw e (drop_by xs b k)

after_by : (z : Name) (ms : List MemberOf) (b : ℕ) (t : Bool) → is_at z ms b ≡ t
    → past z (drop b ms) ≡ drop (cond t (b + 1) b) ms
after_by z ms b true e = rw (is_at_rest z ms b ∙ e) (drop_by ms b 1)
after_by z ms b false e = rw (is_at_rest z ms b ∙ e) refl

pub past_is : (z : Name) (ms : List MemberOf) (b : ℕ)
    → past z (drop b ms) ≡ drop (cond (is_at z ms b) (b + 1) b) ms
past_is z ms b = after_by z ms b (is_at z ms b) refl

-- ---- behind a zone no more are behind than come before a later one
past_less : (z y : Name) (ms : List MemberOf) → canonical_order z y ≡ Less
    → cond (is_at z ms (count_before z ms)) (count_before z ms + 1) (count_before z ms) ≤ count_before y ms
past_less z y [] lt = omega arith
past_less z y (m ∷ ms) lt =
    by_order (canonical_order m.zone z)
    (λ l.
    let k : count_before z (m ∷ ms) ≡ suc (count_before z ms) =
    (let more : 1 + count_before z ms ≡ suc (count_before z ms) = omega arith in rw l more) in
    let l' : canonical_order m.zone y ≡ Less = canonical_total.trans m.zone z y l lt in
    let rest = past_less z y ms lt in
    rw k (rw l' (elim (cases_Bool (is_at z ms (count_before z ms))) [
      | inl t ↦ let r : count_before z ms + 1 ≤ count_before y ms = rw t at rest in rw t (omega (arith, r))
      | inr f ↦ let r : count_before z ms ≤ count_before y ms = rw f at rest in rw f (omega (arith, r))
    ])))
    (λ q.
    let is : m.zone ≡ z = canonical_same m.zone z q in
    let t : same_name m.zone z ≡ true = (same_decides m.zone z).1 is in
    let l' : canonical_order m.zone y ≡ Less = subst (λ k. canonical_order k y ≡ Less) (sym is) lt in
    rw q (rw t (rw l' (omega arith))))
    (λ g. rw g (rw (greater_apart m.zone z g) (omega arith)))

pub all_past : (z : Name) (ms : List MemberOf) (cs : List Change)
    → AllByRecursion (λ k. canonical_order z k ≡ Less) (map (λ (c : Change). c.zone) cs)
    → AllByRecursion (λ c. cond (is_at z ms (count_before z ms)) (count_before z ms + 1) (count_before z ms)
    ≤ count_before c.zone ms) cs
all_past z ms [] a = tt
all_past z ms (c ∷ cs) a = (past_less z c.zone ms a.0, all_past z ms cs a.1)

-- ---- a search by halves
all_of : (P : Name → Type 0) (ms : List MemberOf) (k : ℕ) (m : MemberOf)
    → AllByRecursion P (map (λ x. x.zone) ms) → slice_get ms k ≡ Some m → P m.zone
all_of P [] k m h e = absurd (cc)
all_of P (x ∷ xs) zero m h e = let s : x ≡ m = cc in subst (λ (y : MemberOf). P y.zone) s h.0
all_of P (x ∷ xs) (suc k) m h e = all_of P xs k m h.1 e

counts_past : (z : Name) (ms : List MemberOf) (i : ℕ) (m : MemberOf)
    → IsStrictlySortedBy canonical_order (map (λ m. m.zone) ms) → slice_get ms i ≡ Some m
    → canonical_order m.zone z ≡ Less → i < count_before z ms
unfolding IsStrictlySortedBy
counts_past z [] i m up e lt = absurd (cc)
counts_past z (x ∷ xs) zero m up e lt =
    let is : x ≡ m = cc in
    let l : canonical_order x.zone z ≡ Less = subst (λ (y : MemberOf). canonical_order y.zone z ≡ Less) (sym is) lt in
    rw l (omega arith)
counts_past z (x ∷ xs) (suc i) m up e lt =
    let below : canonical_order x.zone m.zone ≡ Less = all_of (λ k. canonical_order x.zone k ≡ Less) xs i m up.0 e in
    let l : canonical_order x.zone z ≡ Less = canonical_total.trans x.zone m.zone z below lt in
    let rest = counts_past z xs i m up.1 e lt in
    rw l (omega (arith, rest))

counts_upto : (z : Name) (ms : List MemberOf) (i : ℕ) (m : MemberOf) → slice_get ms i ≡ Some m
    → is_lt (canonical_order m.zone z) ≡ false → count_before z ms ≤ i
counts_upto z ms i m there not_less =
    elim (cases_lt i (count_before z ms)) [
      | inl less ↦
          let passes = prefix_len_passes (λ (x : MemberOf). is_lt (canonical_order x.zone z)) ms i m less in
          let at : get_or ms i m ≡ m = get_or_from_slice_get ms i m m there in
          let bad : is_lt (canonical_order m.zone z) ≡ true = rw at at passes in
          absurd (let both : false ≡ true = sym not_less ∙ bad in cc both)
      | inr ge ↦ ge
    ]

pub counts_all : (z : Name) (ms : List MemberOf) → count_before z ms ≤ length ms
counts_all z ms = prefix_len-le-length (λ (x : MemberOf). is_lt (canonical_order x.zone z)) ms

pub some_member : MemberOf
some_member = record { zone = []; catalog = []; label = []; incarnation = 0; choice = None }

-- what the member at a place tells
abbrev is_below : Name → List MemberOf → ℕ → Bool
is_below z ms i = option_map_or (λ (m : MemberOf). is_lt (canonical_order m.zone z)) (slice_get ms i) false

yes_by : (z : Name) (ms : List MemberOf) (i : ℕ) (o : Option MemberOf) → slice_get ms i ≡ o
    → option_map_or (λ (m : MemberOf). is_lt (canonical_order m.zone z)) o false ≡ true
    → IsStrictlySortedBy canonical_order (map (λ m. m.zone) ms) → i < count_before z ms
yes_by z ms i None e t up = absurd (cc t)
yes_by z ms i (Some m) e t up = counts_past z ms i m up e (less_from (canonical_order m.zone z) t)

pub below_counts : (z : Name) (ms : List MemberOf) (i : ℕ) (t : Bool) → t ≡ is_below z ms i → t ≡ true
    → IsStrictlySortedBy canonical_order (map (λ m. m.zone) ms) → i < count_before z ms
below_counts z ms i t is e up = yes_by z ms i (slice_get ms i) refl (sym is ∙ e) up

no_by : (z : Name) (ms : List MemberOf) (i : ℕ) (o : Option MemberOf) → slice_get ms i ≡ o
    → option_map_or (λ (m : MemberOf). is_lt (canonical_order m.zone z)) o false ≡ false → count_before z ms ≤ i
no_by z ms i None e f =
    let all : count_before z ms ≤ length ms = counts_all z ms in
    elim (cases_lt i (length ms)) [
      | inl lt ↦ absurd (cc (e, slice_get-get_or ms i some_member lt))
      | inr ge ↦ omega (arith, all, ge)
    ]
no_by z ms i (Some m) e f = counts_upto z ms i m e f

pub above_counts : (z : Name) (ms : List MemberOf) (i : ℕ) (t : Bool) → t ≡ is_below z ms i → t ≡ false
    → count_before z ms ≤ i
above_counts z ms i t is e = no_by z ms i (slice_get ms i) refl (sym is ∙ e)

-- ---- the place of a zone
same_is : (z : Name) (m : MemberOf) → same_name m.zone z ≡ is_eq (canonical_order m.zone z)
same_is z m = same_ties m.zone z

not_less : (z : Name) (m : MemberOf) → is_lt (canonical_order m.zone z) ≡ false → same_name m.zone z ≡ false
    → canonical_order m.zone z ≡ Greater
not_less z m l s =
    by_order (canonical_order m.zone z)
    (λ less. absurd (let bad : true ≡ false = rw less at l in cc bad))
    (λ q. absurd (let bad : true ≡ false = sym ((same_decides m.zone z).1 (canonical_same m.zone z q)) ∙ s in cc bad))
    (λ g. g)

-- the members from the count on come behind the zone, where the first of them isn't of it
all_behind : (z : Name) (ms : List MemberOf) (d : MemberOf)
    → IsStrictlySortedBy canonical_order (map (λ m. m.zone) ms) → is_at z ms (count_before z ms) ≡ false
    → (j : ℕ) → count_before z ms ≤ j → j < length ms → canonical_order (get_or ms j d).zone z ≡ Greater
all_behind z ms d up none j le lt =
    let k = count_before z ms in
    let inside : k < length ms = omega arith in
    let first : slice_get ms k ≡ Some (get_or ms k d) = slice_get-get_or ms k d inside in
    let stops : is_lt (canonical_order (get_or ms k d).zone z) ≡ false =
    prefix_len_stops (λ (x : MemberOf). is_lt (canonical_order x.zone z)) ms d inside in
    let other : same_name (get_or ms k d).zone z ≡ false = rw first at none in
    let g : canonical_order (get_or ms k d).zone z ≡ Greater = not_less z (get_or ms k d) stops other in
    elim (cases_lt k j) [
      | inl less ↦
          let l : canonical_order (get_or ms k d).zone (get_or ms j d).zone ≡ Less =
          less_at canonical_total (λ (x : MemberOf). x.zone) ms k j d up less lt in
          let lz : canonical_order z (get_or ms j d).zone ≡ Less =
          canonical_total.trans z (get_or ms k d).zone (get_or ms j d).zone (greater_back (get_or ms k d).zone z g) l in
          less_back z (get_or ms j d).zone lz
      | inr ge ↦ let e : j ≡ k = omega (arith, le, ge) in rw e g
    ]

tie : (z : Name) (y : Name) → same_name y z ≡ true → canonical_order y z ≡ Equal
tie z y t =
    let is : y ≡ z = (same_decides y z).0 t in
    rw is (tied_itself canonical_total z)

there_by : (z : Name) (ms : List MemberOf) (k : ℕ) (o : Option MemberOf) → slice_get ms k ≡ o
    → option_map_or (λ (m : MemberOf). same_name m.zone z) o false ≡ true
    → (m : MemberOf) × (slice_get ms k ≡ Some m) × (same_name m.zone z ≡ true)
there_by z ms k None e t = absurd (cc t)
there_by z ms k (Some m) e t = (m, e, t)

-- the member at a place, where it is of the zone
pub there : (z : Name) (ms : List MemberOf) (k : ℕ) → is_at z ms k ≡ true
    → (m : MemberOf) × (slice_get ms k ≡ Some m) × (same_name m.zone z ≡ true)
there z ms k t = there_by z ms k (slice_get ms k) refl t

place_by : (z : Name) (ms : List MemberOf) (d : MemberOf) (t : Bool)
    → IsStrictlySortedBy canonical_order (map (λ m. m.zone) ms) → is_at z ms (count_before z ms) ≡ t
    → cond t (Some (count_before z ms)) None ≡ position (λ m. same_name m.zone z) ms
place_by z ms d true up at =
    let k = count_before z ms in
    let found = there z ms k at in
    place_at canonical_total (λ (x : MemberOf). x.zone) (λ m. same_name m.zone z) z (same_is z) ms k d
    (slice_get_within ms k found.0 found.1) up
    (λ e. let m : get_or ms k e ≡ found.0 = get_or_from_slice_get ms k found.0 e found.1 in
    rw m (tie z found.0.zone found.2))
place_by z ms d false up none =
    place_gap canonical_total (λ (x : MemberOf). x.zone) (λ m. same_name m.zone z) z (same_is z) ms (count_before z ms)
    d (
      λ k e _ less. less_from (canonical_order (get_or ms k e).zone z)
          (prefix_len_passes (λ (x : MemberOf). is_lt (canonical_order x.zone z)) ms k e less),
      λ k e le lt. all_behind z ms e up none k le lt,
    )

-- the place of a zone is the count of those before it, where the member there is of it
pub place_is : (z : Name) (ms : List MemberOf) → IsStrictlySortedBy canonical_order (map (λ m. m.zone) ms)
    → (if is_at z ms (count_before z ms) then Some (count_before z ms) else None)
    ≡ position (λ m. same_name m.zone z) ms
place_is z ms up = place_by z ms some_member (is_at z ms (count_before z ms)) up refl

-- ---- from one changed zone to the next
next_within : (z : Name) (ms : List MemberOf) (k : ℕ) → k ≤ length ms → next_place z ms k ≤ length ms
next_within z ms k le = elim (cases_Bool (is_at z ms k)) [
  | inl t ↦ let found = there z ms k t in
      let inside : k < length ms = slice_get_within ms k found.0 found.1 in rw t (omega (arith, inside))
  | inr f ↦ rw f le
]

pub record GoesOn (ms ns : List MemberOf) (cs : List Change) (z : Name) (b a : ℕ) : Type 0 where
  pub upward : b ≤ count_before z ms
  pub inside : a + (count_before z ms - b) ≤ length ns
  pub same : take (count_before z ms - b) (drop a ns) ≡ take (count_before z ms - b) (drop b ms)
  pub behind : AreBehind ms ns cs (next_place z ms (count_before z ms))
      (next_place z ns (a + (count_before z ms - b)))

order_rest : (c : Change) (cs : List Change)
    → IsStrictlySortedBy canonical_order (map (λ (x : Change). x.zone) (c ∷ cs))
    → AllByRecursion (λ k. canonical_order c.zone k ≡ Less) (map (λ (x : Change). x.zone) cs)
unfolding IsStrictlySortedBy
order_rest c cs up = up.0

pub goes_on : (ms ns : List MemberOf) (c : Change) (cs : List Change) (b a : ℕ) → AreBehind ms ns (c ∷ cs) b a
    → GoesOn ms ns cs c.zone b a
goes_on ms ns c cs b a h =
    let z = c.zone in
    let n = count_before z ms in
    let le : b ≤ n = h.past.0 in
    let k : count_before z (drop b ms) ≡ n - b =
    counted_rest (λ (x : MemberOf). is_lt (canonical_order x.zone z)) ms b le in
    let s = stretch c cs (drop b ms) (drop a ns) h.ahead in
    let fits : n - b ≤ length (drop a ns) = rw k at s.fits in
    let inside : a + (n - b) ≤ length ns = omega (arith, fits, length-drop a ns, h.inside) in
    let whole : b + (n - b) ≡ n = omega arith in
    let left : drop (n - b) (drop b ms) ≡ drop n ms = drop_by ms b (n - b) ∙ ap (λ i. drop i ms) whole in
    let made : drop (n - b) (drop a ns) ≡ drop (a + (n - b)) ns = drop_by ns a (n - b) in
    let ahead : AreRelisted (drop n ms) (drop (a + (n - b)) ns) (c ∷ cs) =
    rw (k, left, made) at s.ahead in
    let none : count_before z (drop n ms) ≡ 0 = rw (k, left) at s.none in
    let none' : count_before z (drop (a + (n - b)) ns) ≡ 0 = rw (k, made) at s.none_after in
    let rest = passed c cs (drop n ms) (drop (a + (n - b)) ns) ahead none none' in
    record {
      upward = le;
      inside = inside;
      same = rw k at s.same;
      behind = record {
        rose = h.rose;
        within = next_within z ms n (counts_all z ms);
        inside = next_within z ns (a + (n - b)) inside;
        ahead = rw (past_is z ms n, past_is z ns (a + (n - b))) at rest;
        past = all_past z ms cs (order_rest c cs h.ahead.order);
      };
    }

-- the change at a place, of which the zone alone is known
pub goes_to : (ms ns : List MemberOf) (cs : List Change) (place : ℕ) (z : Name) (b a : ℕ)
    → slice_get (map (λ (x : Change). x.zone) cs) place ≡ Some z → AreBehind ms ns (drop place cs) b a
    → GoesOn ms ns (drop (place + 1) cs) z b a
goes_to ms ns cs place z b a there h =
    let found = mapped_there (λ (x : Change). x.zone) cs place z there in
    let c = found.0 in
    let more : drop place cs ≡ get_or cs place c ∷ drop (place + 1) cs =
    drop_more cs place c (slice_get_within cs place c found.1) in
    let at : get_or cs place c ≡ c = get_or_from_slice_get cs place c c found.1 in
    let h' : AreBehind ms ns (c ∷ drop (place + 1) cs) b a = rw (more, at) at h in
    subst (λ y. GoesOn ms ns (drop (place + 1) cs) y b a) (sym found.2)
    (goes_on ms ns c (drop (place + 1) cs) b a h')

-- before the first change none is behind
all_zero : (ms : List MemberOf) (cs : List Change) → AllByRecursion (λ c. 0 ≤ count_before c.zone ms) cs
all_zero ms [] = tt
all_zero ms (c ∷ cs) = (omega arith, all_zero ms cs)

pub none_behind : (ms ns : List MemberOf) (cs : List Change) → AreRelisted ms ns cs → AreBehind ms ns cs 0 0
none_behind ms ns cs h = record {
  rose = h.rose;
  within = omega arith;
  inside = omega arith;
  ahead = h;
  past = all_zero ms cs;
}
