-- The walk from its beginning to its end.
use Rattle.std.proofs.Common.{◌≡◌, ℕ, Bool, true, subst, List, [], ◌∷◌, ◌++◌, map, refl, sym, ◌∙◌, ap, append-nil, inl}
use Rattle.std.proofs.Common.{inr}
use Rattle.std.specs.Prelude.{Option, Some, None, IfSome, is_some, slice_get}
use Rattle.dz_member.proofs.SpotLemmas.{held_of}
use Rattle.std.specs.Option.{option_map, option_to_list, ForSome}
use Rattle.std.specs.List.{find, filter_map, cons_option, AllByRecursion}
use Rattle.std.specs.Set.{sorted_merge}
use Rattle.std.proofs.lemmas.Bool.{cases_Bool}
use Rattle.std.proofs.lemmas.List.{map-append}
use Rattle.std.specs.declared.cmp.Ordering.{Ordering}
use Rattle.std.specs.declared.cmp.Ordering.TheVariants.{Less, Equal, Greater}
use Rattle.dz_name.specs.Words.{Name}
use Rattle.dz_name.specs.Name.{canonical_order, same_name}
use Rattle.dz_member.specs.declared.listing.Node.{Node}
use Rattle.dz_member.specs.declared.membership.Membership.{Membership}
use Rattle.dz_member.specs.Membership.{MemberOf, shown}
use Rattle.dz_member.specs.Fold.{FoldOf, member_of}
use Rattle.dz_member.specs.Process.{judged, node_of}
use Rattle.dz_member.specs.inner.Kept.{members_from, changes_from}
use Rattle.dz_member.specs.inner.Walk.{judge_of, Spot, spots, members_in, changes_in, Pair, pair_by, first_pair}
use Rattle.dz_member.proofs.KeptLemmas.{zones_shown}

-- what is added of a zone
pub shown_more : {X Y : Type 0} (f : X → Y) (xs : List X) (o : Option X)
    → map f (xs ++ option_to_list o) ≡ map f xs ++ option_to_list (option_map f o)
shown_more f xs None = map-append f xs []
shown_more f xs (Some x) = map-append f xs (x ∷ [])

pub all_push : {X : Type 0} (P : X → Type 0) (xs : List X) (x : X) → AllByRecursion P xs → P x
    → AllByRecursion P (xs ++ x ∷ [])
all_push P [] x a p = (p, tt)
all_push P (y ∷ ys) x a p = (a.0, all_push P ys x a.1 p)

pub all_more : {X : Type 0} (P : X → Type 0) (xs : List X) (o : Option X) → AllByRecursion P xs → IfSome o P
    → AllByRecursion P (xs ++ option_to_list o)
all_more P xs None a p = rw (append-nil xs) a
all_more P xs (Some x) a p = all_push P xs x a p

-- what holds of each membership holds of the first and of those after it
abbrev pub Parts : (Membership → Type 0) → List Membership → Pair → Type 0
Parts P ms p = IfSome p.member P × AllByRecursion P (held_of p ms)

parts_by : (P : Membership → Type 0) (k : Ordering) (m : Membership) (ms : List Membership) (n : Node)
    → AllByRecursion P (m ∷ ms) → Parts P (m ∷ ms) (pair_by k m n)
parts_by P Less m ms n a = (a.0, a.1)
parts_by P Equal m ms n a = (a.0, a.1)
parts_by P Greater m ms n a = (tt, a)

pub parts_of : (P : Membership → Type 0) (ms : List Membership) (o : Option Node) (p : Pair)
    → first_pair (slice_get ms 0) o ≡ Some p → AllByRecursion P ms → Parts P ms p
parts_of P [] None p e a = absurd (cc)
parts_of P [] (Some n) p e a =
    let q : Pair = record { zone = n.zone; member = None; node = Some n } in
    let same : q ≡ p = cc in subst (Parts P []) same (tt, tt)
parts_of P (m ∷ ms) None p e a =
    let q : Pair = record { zone = m.zone; member = Some m; node = None } in
    let same : q ≡ p = cc in subst (Parts P (m ∷ ms)) same (a.0, a.1)
parts_of P (m ∷ ms) (Some n) p e a =
    let same : pair_by (canonical_order m.zone n.zone) m n ≡ p = cc in
    subst (Parts P (m ∷ ms)) same (parts_by P (canonical_order m.zone n.zone) m ms n a)

-- the member of a first pair is the first
pub first_held : (ms : List Membership) (o : Option Node) (p : Pair) → first_pair (slice_get ms 0) o ≡ Some p
    → IfSome p.member (λ m. slice_get ms 0 ≡ Some m)
first_held [] None p e = absurd (cc)
first_held [] (Some n) p e =
    let q : Pair = record { zone = n.zone; member = None; node = Some n } in
    let same : q ≡ p = cc in
    let ms : List Membership = [] in subst (λ (r : Pair). IfSome r.member (λ m. slice_get ms 0 ≡ Some m)) same tt
first_held (m ∷ ms) None p e =
    let q : Pair = record { zone = m.zone; member = Some m; node = None } in
    let same : q ≡ p = cc in subst (λ (r : Pair). IfSome r.member (λ x. Some m ≡ Some x)) same refl
first_held (m ∷ ms) (Some n) p e =
    let same : pair_by (canonical_order m.zone n.zone) m n ≡ p = cc in
    subst (λ (r : Pair). IfSome r.member (λ x. Some m ≡ Some x)) same (held_by (canonical_order m.zone n.zone))
  where
    held_by : (k : Ordering) → IfSome (pair_by k m n).member (λ x. Some m ≡ Some x)
    held_by Less = refl
    held_by Equal = refl
    held_by Greater = tt

pub for_some : {X Y : Type 0} (f : X → Y) (P : Y → Type 0) (o : Option X) → IfSome (option_map f o) P
    → ForSome o (λ x. P (f x))
for_some f P None i x e = absurd (cc)
for_some f P (Some y) i x e = let same : y ≡ x = cc in subst (λ z. P (f z)) same i

pub is_some_map : {X Y : Type 0} (f : X → Y) (o : Option X) → is_some (option_map f o) ≡ is_some o
is_some_map f None = refl
is_some_map f (Some x) = refl

-- lists by zone
pub kept_map : {X Y Z : Type 0} (g : Y → Option Z) (f : X → Y) (xs : List X)
    → filter_map g (map f xs) ≡ filter_map (λ x. g (f x)) xs
kept_map g f [] = refl
kept_map g f (x ∷ xs) = ap (λ ys. cons_option (g (f x)) ys) (kept_map g f xs)

pub found_map : {X Y : Type 0} (p : Y → Bool) (f : X → Y) (xs : List X)
    → option_map f (find (λ x. p (f x)) xs) ≡ find p (map f xs)
found_map p f [] = refl
found_map p f (x ∷ xs) = elim (cases_Bool (p (f x))) [ inl t ↦ rw t refl | inr g ↦ rw g (found_map p f xs) ]

-- the spots of memberships with numbers give the members and the changes of the definitions
module _ (fold : FoldOf) (catalog : Name) (position : ℕ) (ms : List Membership) (ns : List Node)
    (is : map (shown fold.config) ms ≡ fold.members) where
  found : (z : Name) → option_map (shown fold.config) (find (λ m. same_name m.zone z) ms) ≡ member_of z fold.members
  found z = found_map (λ (m : MemberOf). same_name m.zone z) (shown fold.config) ms ∙ ap (member_of z) is

  zones : map (λ (m : Membership). m.zone) ms ≡ map (λ (m : MemberOf). m.zone) fold.members
  zones = sym (zones_shown fold.config ms) ∙ ap (λ (xs : List MemberOf). map (λ m. m.zone) xs) is

  pub walked_members : members_in (spots (judge_of fold catalog position) ms ns)
      ≡ members_from fold catalog position ns
  unfolding spots members_from
  walked_members =
      kept_map (λ (s : Spot). s.judged.stands) (λ z. record {
        zone = z;
        judged = judge_of fold catalog position (find (λ m. same_name m.zone z) ms) (node_of z ns);
      }) _
      ∙ (λ i. filter_map (λ z. (judged fold catalog position (found z i) (node_of z ns)).stands)
      (sorted_merge canonical_order true (zones i) (map (λ n. n.zone) ns)))

  pub walked_changes : changes_in (spots (judge_of fold catalog position) ms ns)
      ≡ changes_from fold catalog position ns
  unfolding spots changes_from
  walked_changes =
      kept_map (λ (s : Spot). option_map (λ what. record { zone = s.zone; what = what }) s.judged.change)
      (λ z. record {
        zone = z;
        judged = judge_of fold catalog position (find (λ m. same_name m.zone z) ms) (node_of z ns);
      }) _
      ∙ (λ i. filter_map (λ z. option_map (λ what. record { zone = z; what = what })
      (judged fold catalog position (found z i) (node_of z ns)).change)
      (sorted_merge canonical_order true (zones i) (map (λ n. n.zone) ns)))
