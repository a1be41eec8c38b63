-- Two lists that rise by their keys, walked together: what is judged at each key by itself.
use Rattle.std.proofs.Common.{◌≡◌, Bool, true, false, List, [], ◌∷◌, map, refl, sym, ◌∙◌, ap, subst, inl, inr}
use Rattle.std.proofs.Common.{Ordering, Less, Equal, Greater}
use Rattle.std.specs.Prelude.{Option, Some, None}
use Rattle.std.specs.Bool.{Decides}
use Rattle.std.specs.Cmp.{IsTotalOrder}
use Rattle.std.specs.Ordering.{match_ordering, ordering_reverse}
use Rattle.std.specs.List.{find, AllByRecursion}
use Rattle.std.specs.List.Sorted.{IsStrictlySortedBy}
use Rattle.std.specs.Set.{sorted_merge, merge_step}
use Rattle.std.proofs.lemmas.Cmp.{tied_itself}
use Rattle.std.proofs.lemmas.Bool.{cases_Bool}
use Rattle.std.proofs.lemmas.Map.Keys.{sorted_head}

pub by_rank : {A : Type 0} (P : List A → Type 0) (k : Ordering) (xs ys zs : List A) → P xs → P ys → P zs
    → P (match_ordering k xs ys zs)
by_rank P Less xs ys zs a b c = a
by_rank P Equal xs ys zs a b c = b
by_rank P Greater xs ys zs a b c = c

pub merge_none : {K : Type 0} (R : K → K → Ordering) (xs : List K) → sorted_merge R true xs [] ≡ xs
merge_none R [] = refl
merge_none R (x ∷ xs) = refl

all_at : {K : Type 0} (R : K → K → Ordering) (P : K → Type 0) (x : K) (xs : List K) (on : List K → List K) → P x
    → AllByRecursion P xs
    → ((ys : List K) → AllByRecursion P ys → AllByRecursion P (on ys)) → (ys : List K) → AllByRecursion P ys
    → AllByRecursion P (merge_step R true x xs on ys)
all_at R P x xs on p a h [] b = (p, a)
all_at R P x xs on p a h (y ∷ ys) b =
    by_rank (AllByRecursion P) (R x y) _ _ _ (p, h (y ∷ ys) b) (p, h ys b.1) (b.0, all_at R P x xs on p a h ys b.1)

pub all_merged : {K : Type 0} (R : K → K → Ordering) (P : K → Type 0) (xs ys : List K) → AllByRecursion P xs
    → AllByRecursion P ys → AllByRecursion P (sorted_merge R true xs ys)
all_merged R P [] ys a b = b
all_merged R P (x ∷ xs) ys a b = all_at R P x xs (sorted_merge R true xs) a.0 a.1 (λ zs. all_merged R P xs zs a.1) ys b

map_along : {K Y : Type 0} (P : K → Type 0) (f g : K → Y) → ((z : K) → P z → f z ≡ g z) → (zs : List K)
    → AllByRecursion P zs → map f zs ≡ map g zs
map_along P f g h [] a = refl
map_along P f g h (z ∷ zs) a = rw (h z a.0, map_along P f g h zs a.1) refl

pub all_more : {K : Type 0} (P Q : K → Type 0) → ((z : K) → P z → Q z) → (zs : List K) → AllByRecursion P zs
    → AllByRecursion Q zs
all_more P Q h [] a = tt
all_more P Q h (z ∷ zs) a = (h z a.0, all_more P Q h zs a.1)

module _ {K : Type 0} (R : K → K → Ordering) (o : IsTotalOrder R) (same : K → K → Bool)
    (decides : (a b : K) → Decides (same a b) (a ≡ b)) where
  pub apart : (a b : K) → R a b ≡ Less → same a b ≡ false
  apart a b l =
      elim (cases_Bool (same a b)) [
        | inr f ↦ f
        | inl t ↦ let e : a ≡ b = (decides a b).0 t in
            let q : R b b ≡ Less = rw e at l in
            let r = tied_itself o b in absurd (cc)
      ]

  pub apart_back : (a b : K) → R a b ≡ Less → same b a ≡ false
  apart_back a b l =
      elim (cases_Bool (same b a)) [
        | inr f ↦ f
        | inl t ↦ let e : b ≡ a = (decides b a).0 t in
            let q : R a a ≡ Less = rw e at l in
            let r = tied_itself o a in absurd (cc)
      ]

  pub itself : (a : K) → same a a ≡ true
  itself a = (decides a a).1 refl

  module _ {X : Type 0} (key : X → K) where
    abbrev pub at : K → List X → Option X
    at z xs = find (λ x. same (key x) z) xs

    pub here : (x : X) (xs : List X) → at (key x) (x ∷ xs) ≡ Some x
    here x xs = rw (itself (key x)) refl

    past : (x : X) (xs : List X) (z : K) → R (key x) z ≡ Less → at z (x ∷ xs) ≡ at z xs
    past x xs z l = rw (apart (key x) z l) refl

    pub nothing : (z : K) (xs : List X) → AllByRecursion (λ k. R z k ≡ Less) (map key xs) → at z xs ≡ None
    nothing z [] a = refl
    nothing z (x ∷ xs) a = rw (apart_back z (key x) a.0) (nothing z xs a.1)

  module _ {H N Y : Type 0} (kh : H → K) (kn : N → K) (f : K → Option H → Option N → Y) where
    abbrev pub walked : List H → List N → List Y
    walked hs ns = map (λ z. f z (at kh z hs) (at kn z ns)) (sorted_merge R true (map kh hs) (map kn ns))

    -- the keys after the first of the held are walked without it
    left_rest : (h : H) (hs : List H) (ns : List N) (zs : List K) → AllByRecursion (λ z. R (kh h) z ≡ Less) zs
        → map (λ z. f z (at kh z (h ∷ hs)) (at kn z ns)) zs ≡ map (λ z. f z (at kh z hs) (at kn z ns)) zs
    left_rest h hs ns zs a = map_along (λ z. R (kh h) z ≡ Less) _ _
        (λ z l. ap (λ (m : Option H). f z m (at kn z ns)) (past kh h hs z l)) zs a

    right_rest : (n : N) (hs : List H) (ns : List N) (zs : List K) → AllByRecursion (λ z. R (kn n) z ≡ Less) zs
        → map (λ z. f z (at kh z hs) (at kn z (n ∷ ns))) zs ≡ map (λ z. f z (at kh z hs) (at kn z ns)) zs
    right_rest n hs ns zs a = map_along (λ z. R (kn n) z ≡ Less) _ _
        (λ z l. ap (λ (m : Option N). f z (at kh z hs) m) (past kn n ns z l)) zs a

    -- the first key is held alone
    pub left : (h : H) (hs : List H) (ns : List N) → IsStrictlySortedBy R (map kh (h ∷ hs))
        → AllByRecursion (λ k. R (kh h) k ≡ Less) (map kn ns)
        → walked (h ∷ hs) ns ≡ f (kh h) (Some h) None ∷ walked hs ns
    left h hs [] up below =
        let rest = left_rest h hs [] (map kh hs) (sorted_head R (kh h) (map kh hs) up) in
        rw (here kh h hs, rest, merge_none R (map kh hs)) refl
    left h hs (n ∷ ns) up below =
        let rest = left_rest h hs (n ∷ ns) (sorted_merge R true (map kh hs) (map kn (n ∷ ns))) (all_merged R
        (λ z. R (kh h) z ≡ Less) (map kh hs) (map kn (n ∷ ns)) (sorted_head R (kh h) (map kh hs) up) below) in
        rw (below.0, here kh h hs, nothing kn (kh h) (n ∷ ns) below, rest) refl

    -- the first key is listed alone
    pub right : (n : N) (hs : List H) (ns : List N) → IsStrictlySortedBy R (map kn (n ∷ ns))
        → AllByRecursion (λ k. R (kn n) k ≡ Less) (map kh hs)
        → walked hs (n ∷ ns) ≡ f (kn n) None (Some n) ∷ walked hs ns
    right n [] ns up below =
        let rest = right_rest n [] ns (map kn ns) (sorted_head R (kn n) (map kn ns) up) in
        rw (here kn n ns, rest) refl
    right n (h ∷ hs) ns up below =
        let greater : R (kh h) (kn n) ≡ Greater = o.antisymm (kh h) (kn n) ∙ ap ordering_reverse below.0 in
        let rest = right_rest n (h ∷ hs) ns (sorted_merge R true (map kh (h ∷ hs)) (map kn ns)) (all_merged R
        (λ z. R (kn n) z ≡ Less) (map kh (h ∷ hs)) (map kn ns) below (sorted_head R (kn n) (map kn ns) up)) in
        rw (greater, here kn n ns, nothing kh (kn n) (h ∷ hs) below, rest) refl

    -- the first key is held and listed
    pub both : (h : H) (n : N) (hs : List H) (ns : List N) → IsStrictlySortedBy R (map kh (h ∷ hs))
        → IsStrictlySortedBy R (map kn (n ∷ ns)) → R (kh h) (kn n) ≡ Equal → kh h ≡ kn n
        → walked (h ∷ hs) (n ∷ ns) ≡ f (kh h) (Some h) (Some n) ∷ walked hs ns
    both h n hs ns up rise level one =
        let below = sorted_head R (kh h) (map kh hs) up in
        let below' : AllByRecursion (λ k. R (kh h) k ≡ Less) (map kn ns) =
        rw one (sorted_head R (kn n) (map kn ns) rise) in
        let zs = sorted_merge R true (map kh hs) (map kn ns) in
        let all = all_merged R (λ z. R (kh h) z ≡ Less) (map kh hs) (map kn ns) below below' in
        let all' : AllByRecursion (λ z. R (kn n) z ≡ Less) zs = rw (← one) all in
        let first = right_rest n (h ∷ hs) ns zs all' in
        let second = left_rest h hs ns zs all in
        let found : at kn (kh h) (n ∷ ns) ≡ Some n =
        subst (λ (z : K). at kn z (n ∷ ns) ≡ Some n) (sym one) (here kn n ns) in
        rw (level, here kh h hs, found, first, second) refl

    -- a key that comes before the first of the others comes before all of them
    pub below_all : {X : Type 0} (key : X → K) (z : K) (x : X) (xs : List X) → IsStrictlySortedBy R (map key (x ∷ xs))
        → R z (key x) ≡ Less → AllByRecursion (λ k. R z k ≡ Less) (map key (x ∷ xs))
    below_all key z x xs up l = (
      l,
      all_more (λ k. R (key x) k ≡ Less) (λ k. R z k ≡ Less)
          (λ k m. o.trans z (key x) k l m) (map key xs) (sorted_head R (key x) (map key xs) up),
    )
