-- Nodes in the order of their labels: found by label, and edited.
use Rattle.std.proofs.Common.{◌≡◌, ℕ, Bool, true, false, List, [], ◌∷◌, ◌++◌, map, refl, sym, ◌∙◌, ap, inl, inr, is_lt}
use Rattle.std.proofs.Common.{append_assoc, is_gt, is_eq, Ordering, Less, Equal, Greater}
use Rattle.std.specs.Prelude.{filter, find, Option, Some, None}
use Rattle.std.specs.List.{AllByRecursion, list_any}
use Rattle.std.specs.List.Sorted.{IsStrictlySortedBy}
use Rattle.std.specs.Option.{option_or, option_to_list, ForSome}
use Rattle.std.specs.Ordering.{ordering_reverse}
use Rattle.std.specs.Cmp.{tied_itself, Equal-is}
use Rattle.std.specs.FinMap.{slice_cmp-IsAntisymmetric, nat_cmp-IsAntisymmetric}
use Rattle.std.proofs.lemmas.Bool.{cases_Bool, both_ways}
use Rattle.std.proofs.lemmas.Cmp.{nat_list_cmp_total}
use Rattle.std.proofs.lemmas.List.Folds.{find-append}
use Rattle.std.proofs.lemmas.Map.Keys.{sorted_head, sorted_tail}
use Rattle.dz_name.specs.Name.{label_order}
use Rattle.dz_member.specs.declared.edit.Edit.{Edit}
use Rattle.dz_member.specs.declared.listing.Node.{Node}
use Rattle.dz_member.specs.Edit.{edited_at, edited}

-- the node at a label
abbrev pub at : List ℕ → Node → Bool
at label n = is_eq (label_order n.label label)

-- the edit at a label
abbrev pub edits : List ℕ → Edit → Bool
edits label e = is_eq (label_order e.label label)

-- the labels of nodes
abbrev pub labels : List Node → List (List ℕ)
labels nodes = map (λ n. n.label) nodes

pub same_label : (k l : List ℕ) → is_eq (label_order k l) ≡ true → k ≡ l
same_label k l t =
    slice_cmp-IsAntisymmetric nat_cmp-IsAntisymmetric k l ((Equal-is (label_order k l)).0 t)

pub label_itself : (k : List ℕ) → is_eq (label_order k k) ≡ true
label_itself k = (Equal-is (label_order k k)).1 (tied_itself nat_list_cmp_total k)

less_back : (k l : List ℕ) → label_order k l ≡ Less → label_order l k ≡ Greater
less_back k l e = nat_list_cmp_total.antisymm l k ∙ ap ordering_reverse e

greater_back : (k l : List ℕ) → label_order k l ≡ Greater → label_order l k ≡ Less
greater_back k l e = nat_list_cmp_total.antisymm l k ∙ ap ordering_reverse e

each_more : {X : Type 0} (P Q : X → Type 0) → ((x : X) → P x → Q x) → (xs : List X) → AllByRecursion P xs
    → AllByRecursion Q xs
each_more P Q f [] h = tt
each_more P Q f (x ∷ xs) h = (f x h.0, each_more P Q f xs h.1)

-- ---- found by label
none_at : (k : List ℕ) (xs : List Node) → AllByRecursion (λ l. label_order k l ≡ Less) (labels xs)
    → find (at k) xs ≡ None
none_at k [] h = refl
none_at k (x ∷ xs) h = rw (less_back k x.label h.0) (none_at k xs h.1)

before_all : (k l : List ℕ) (ls : List (List ℕ)) → label_order k l ≡ Less
    → AllByRecursion (λ m. label_order l m ≡ Less) ls → AllByRecursion (λ m. label_order k m ≡ Less) (l ∷ ls)
before_all k l ls e h = (
  e,
  each_more (λ m. label_order l m ≡ Less) (λ m. label_order k m ≡ Less)
      (λ m f. nat_list_cmp_total.trans k l m e f) ls h,
)

first_found : (x : Node) (xs : List Node) → find (at x.label) (x ∷ xs) ≡ Some x
first_found x xs = rw (label_itself x.label) refl

some_same : (x y : Node) → Some x ≡ Some y → x ≡ y
some_same x y e = cc

-- two lists whose labels rise are one where the same is found in both at each label
pub one_list : (xs ys : List Node) → IsStrictlySortedBy label_order (labels xs)
    → IsStrictlySortedBy label_order (labels ys) → ((l : List ℕ) → find (at l) xs ≡ find (at l) ys) → xs ≡ ys
one_list [] [] up vp h = refl
one_list [] (y ∷ ys) up vp h = let e = h y.label ∙ first_found y ys in absurd (cc)
one_list (x ∷ xs) [] up vp h = let e = sym (first_found x xs) ∙ h x.label in absurd (cc)
one_list (x ∷ xs) (y ∷ ys) up vp h =
    let x_first = sorted_head label_order x.label (labels xs) up in
    let y_first = sorted_head label_order y.label (labels ys) vp in
    (elim (label_order x.label y.label) as (λ v. label_order x.label y.label ≡ v → x ∷ xs ≡ y ∷ ys) [
      | Less ↦ λ e.
          let none = none_at x.label (y ∷ ys) (before_all x.label y.label (labels ys) e y_first) in
          let f = sym (first_found x xs) ∙ (h x.label ∙ none) in absurd (cc)
      | Greater ↦ λ e.
          let none = none_at y.label (x ∷ xs)
          (before_all y.label x.label (labels xs) (greater_back x.label y.label e) x_first) in
          let f = sym (first_found y ys) ∙ (sym (h y.label) ∙ none) in absurd (cc)
      | Equal ↦ λ e.
          let l : x.label ≡ y.label = same_label x.label y.label (ap is_eq e) in
          let there : find (at x.label) (y ∷ ys) ≡ Some y =
          ap (λ (k : List ℕ). find (at k) (y ∷ ys)) l ∙ first_found y ys in
          let same = some_same x y (sym (first_found x xs) ∙ (h x.label ∙ there)) in
          let rest = one_list xs ys (sorted_tail label_order x.label (labels xs) up)
          (sorted_tail label_order y.label (labels ys) vp) (λ k. elim (cases_Bool (is_eq (label_order x.label k))) [
            | inl t ↦
                let m = same_label x.label k t in
                let a : find (at k) xs ≡ None = rw (← m) (none_at x.label xs x_first) in
                let b : find (at k) ys ≡ None = rw (← m, l) (none_at y.label ys y_first) in
                a ∙ sym b
            | inr f ↦
                let g : is_eq (label_order y.label k) ≡ false = rw (← l) f in
                let w = h k in
                rw (f, g) at w
          ]) in
          rw (same, rest) refl
    ]) refl

-- ---- one edit
find_dropped : {X : Type 0} (p q : X → Bool) → ((x : X) → p x ≡ true → q x ≡ false) → (xs : List X)
    → find p (filter q xs) ≡ None
find_dropped p q w [] = refl
find_dropped p q w (x ∷ xs) =
    elim (cases_Bool (q x)) [
      | inr f ↦ rw f (find_dropped p q w xs)
      | inl t ↦ elim (cases_Bool (p x)) [
        | inl u ↦ absurd (both_ways (q x) (w x u) t)
        | inr g ↦ rw (t, g) (find_dropped p q w xs)
      ]
    ]

find_kept : {X : Type 0} (p q : X → Bool) → ((x : X) → p x ≡ true → q x ≡ true) → (xs : List X)
    → find p (filter q xs) ≡ find p xs
find_kept p q w [] = refl
find_kept p q w (x ∷ xs) =
    elim (cases_Bool (p x)) [
      | inl u ↦ rw (w x u, u) refl
      | inr g ↦ elim (cases_Bool (q x)) [
        | inl t ↦ rw (t, g) (find_kept p q w xs)
        | inr f ↦ rw (f, g) (find_kept p q w xs)
      ]
    ]

abbrev below_label : List ℕ → Node → Bool
below_label label n = is_lt (label_order n.label label)

abbrev above_label : List ℕ → Node → Bool
above_label label n = is_gt (label_order n.label label)

-- what stands before, at and behind a label
at_its : (label k : List ℕ) (b : Ordering → Bool) (v : Bool) → b (label_order k label) ≡ v → (n : Node)
    → at k n ≡ true → b (label_order n.label label) ≡ v
at_its label k b v e n t = rw (same_label n.label k t) e

or_none : {X : Type 0} (o : Option X) → option_or o None ≡ o
or_none None = refl
or_none (Some x) = refl

three : (nodes : List Node) (e : Edit) (k : List ℕ) → find (at k) (edited_at nodes e)
    ≡ option_or (find (at k) (filter (below_label e.label) nodes))
    (option_or (find (at k) (option_to_list e.node)) (find (at k) (filter (above_label e.label) nodes)))
three nodes e k =
    ap (find (at k))
    (append_assoc (filter (below_label e.label) nodes) (option_to_list e.node) (filter (above_label e.label) nodes))
    ∙ find-append (at k) (filter (below_label e.label) nodes)
    (option_to_list e.node ++ filter (above_label e.label) nodes)
    ∙ ap (option_or (find (at k) (filter (below_label e.label) nodes)))
    (find-append (at k) (option_to_list e.node) (filter (above_label e.label) nodes))

own_found : (label : List ℕ) (o : Option Node) → ForSome o (λ n. n.label ≡ label)
    → find (at label) (option_to_list o) ≡ o
own_found label None own = refl
own_found label (Some n) own = rw (own, label_itself label) refl

none_found : (label k : List ℕ) (o : Option Node) → ForSome o (λ n. n.label ≡ label)
    → is_eq (label_order label k) ≡ false → find (at k) (option_to_list o) ≡ None
none_found label k None own f = refl
none_found label k (Some n) own f = rw (own, f) refl

-- at its own label an edit puts its node
pub found_there : (nodes : List Node) (e : Edit) → ForSome e.node (λ n. n.label ≡ e.label)
    → find (at e.label) (edited_at nodes e) ≡ e.node
found_there nodes e own =
    let itself = tied_itself nat_list_cmp_total e.label in
    let low = find_dropped (at e.label) (below_label e.label)
    (at_its e.label e.label is_lt false (ap is_lt itself)) nodes in
    let high = find_dropped (at e.label) (above_label e.label)
    (at_its e.label e.label is_gt false (ap is_gt itself)) nodes in
    three nodes e e.label ∙ rw (low, high, own_found e.label e.node own) (or_none e.node)

-- and at another one it leaves what is there
pub found_elsewhere : (nodes : List Node) (e : Edit) (k : List ℕ) → ForSome e.node (λ n. n.label ≡ e.label)
    → is_eq (label_order e.label k) ≡ false → find (at k) (edited_at nodes e) ≡ find (at k) nodes
found_elsewhere nodes e k own f =
    let middle = none_found e.label k e.node own f in
    (elim (label_order k e.label) as (λ v. label_order k e.label ≡ v
    → find (at k) (edited_at nodes e) ≡ find (at k) nodes) [
      | Less ↦ λ q.
          let low = find_kept (at k) (below_label e.label) (at_its e.label k is_lt true (ap is_lt q)) nodes in
          let high = find_dropped (at k) (above_label e.label) (at_its e.label k is_gt false (ap is_gt q)) nodes in
          three nodes e k ∙ rw (low, middle, high) (or_none (find (at k) nodes))
      | Greater ↦ λ q.
          let low = find_dropped (at k) (below_label e.label) (at_its e.label k is_lt false (ap is_lt q)) nodes in
          let high = find_kept (at k) (above_label e.label) (at_its e.label k is_gt true (ap is_gt q)) nodes in
          three nodes e k ∙ rw (low, middle, high) refl
      | Equal ↦ λ q.
          let same : k ≡ e.label = same_label k e.label (ap is_eq q) in
          absurd (both_ways (is_eq (label_order e.label k)) f (rw same (label_itself e.label)))
    ]) refl

-- ---- the labels rise after an edit
kept_rise : (k : List ℕ) (q : Node → Bool) (xs : List Node) → AllByRecursion (λ l. label_order k l ≡ Less) (labels xs)
    → AllByRecursion (λ l. label_order k l ≡ Less) (labels (filter q xs))
kept_rise k q [] h = tt
kept_rise k q (x ∷ xs) h =
    elim (cases_Bool (q x))
    [ inl t ↦ rw t (h.0, kept_rise k q xs h.1) | inr f ↦ rw f (kept_rise k q xs h.1) ]

filter_rises : (q : Node → Bool) (xs : List Node) → IsStrictlySortedBy label_order (labels xs)
    → IsStrictlySortedBy label_order (labels (filter q xs))
unfolding IsStrictlySortedBy
filter_rises q [] up = tt
filter_rises q (x ∷ xs) up =
    elim (cases_Bool (q x))
    [ inl t ↦ rw t (kept_rise x.label q xs up.0, filter_rises q xs up.1) | inr f ↦ rw f (filter_rises q xs up.1) ]

lt_less : (o : Ordering) → is_lt o ≡ true → o ≡ Less
lt_less Less h = refl
lt_less Equal h = absurd (cc)
lt_less Greater h = absurd (cc)

gt_greater : (o : Ordering) → is_gt o ≡ true → o ≡ Greater
gt_greater Less h = absurd (cc)
gt_greater Equal h = absurd (cc)
gt_greater Greater h = refl

all_below : (label : List ℕ) (xs : List Node)
    → AllByRecursion (λ n. label_order n.label label ≡ Less) (filter (below_label label) xs)
all_below label [] = tt
all_below label (x ∷ xs) =
    elim (cases_Bool (below_label label x)) [
      | inl t ↦ rw t (lt_less (label_order x.label label) t, all_below label xs)
      | inr f ↦ rw f (all_below label xs)
    ]

all_above : (label : List ℕ) (xs : List Node)
    → AllByRecursion (λ l. label_order label l ≡ Less) (labels (filter (above_label label) xs))
all_above label [] = tt
all_above label (x ∷ xs) =
    elim (cases_Bool (above_label label x)) [
      | inl t ↦
          rw t
          (greater_back x.label label (gt_greater (label_order x.label label) t), all_above label xs)
      | inr f ↦ rw f (all_above label xs)
    ]

-- what is before a label, and the node there, and what is behind it
joined_less : (k : List ℕ) (xs ys : List Node) → AllByRecursion (λ l. label_order k l ≡ Less) (labels xs)
    → AllByRecursion (λ l. label_order k l ≡ Less) (labels ys)
    → AllByRecursion (λ l. label_order k l ≡ Less) (labels (xs ++ ys))
joined_less k [] ys h g = g
joined_less k (x ∷ xs) ys h g = (h.0, joined_less k xs ys h.1 g)

joined_rise : (label : List ℕ) (xs ys : List Node) → AllByRecursion (λ n. label_order n.label label ≡ Less) xs
    → IsStrictlySortedBy label_order (labels xs) → IsStrictlySortedBy label_order (labels ys)
    → ((k : List ℕ) → label_order k label ≡ Less → AllByRecursion (λ l. label_order k l ≡ Less) (labels ys))
    → IsStrictlySortedBy label_order (labels (xs ++ ys))
unfolding IsStrictlySortedBy
joined_rise label [] ys low up vp more = vp
joined_rise label (x ∷ xs) ys low up vp more =
    (joined_less x.label xs ys up.0 (more x.label low.0), joined_rise label xs ys low.1 up.1 vp more)

middle_rises : (label : List ℕ) (o : Option Node) (ys : List Node) → ForSome o (λ n. n.label ≡ label)
    → AllByRecursion (λ l. label_order label l ≡ Less) (labels ys) → IsStrictlySortedBy label_order (labels ys)
    → IsStrictlySortedBy label_order (labels (option_to_list o ++ ys))
unfolding IsStrictlySortedBy
middle_rises label None ys own h up = up
middle_rises label (Some n) ys own h up = (rw own h, up)

middle_less : (label : List ℕ) (o : Option Node) (ys : List Node) → ForSome o (λ n. n.label ≡ label)
    → AllByRecursion (λ l. label_order label l ≡ Less) (labels ys) → (k : List ℕ) → label_order k label ≡ Less
    → AllByRecursion (λ l. label_order k l ≡ Less) (labels (option_to_list o ++ ys))
middle_less label None ys own h k e =
    each_more (λ m. label_order label m ≡ Less) (λ m. label_order k m ≡ Less)
    (λ m f. nat_list_cmp_total.trans k label m e f) (labels ys) h
middle_less label (Some n) ys own h k e = rw own (before_all k label (labels ys) e h)

pub edited_rises : (nodes : List Node) (e : Edit) → ForSome e.node (λ n. n.label ≡ e.label)
    → IsStrictlySortedBy label_order (labels nodes) → IsStrictlySortedBy label_order (labels (edited_at nodes e))
edited_rises nodes e own up =
    let high = filter (above_label e.label) nodes in
    rw (append_assoc (filter (below_label e.label) nodes) (option_to_list e.node) high)
    (joined_rise e.label (filter (below_label e.label) nodes) (option_to_list e.node ++ high) (all_below e.label nodes)
    (filter_rises (below_label e.label) nodes up)
    (middle_rises e.label e.node high own (all_above e.label nodes) (filter_rises (above_label e.label) nodes up))
    (middle_less e.label e.node high own (all_above e.label nodes)))

-- ---- all edits
pub all_rise : (es : List Edit) (nodes : List Node) → AllByRecursion (λ e. ForSome e.node (λ n. n.label ≡ e.label)) es
    → IsStrictlySortedBy label_order (labels nodes) → IsStrictlySortedBy label_order (labels (edited nodes es))
all_rise [] nodes own up = up
all_rise (e ∷ es) nodes own up = all_rise es (edited_at nodes e) own.1 (edited_rises nodes e own.0 up)

-- what is found at a label after all edits: what each edit of it has, or what was there before where none is of it
pub all_found : (es : List Edit) (nodes : List Node) (k : List ℕ) (truth : Option Node)
    → AllByRecursion (λ e. ForSome e.node (λ n. n.label ≡ e.label)) es
    → AllByRecursion (λ e. e.label ≡ k → e.node ≡ truth) es
    → (list_any (edits k) es ≡ false → find (at k) nodes ≡ truth) → find (at k) (edited nodes es) ≡ truth
all_found [] nodes k truth own here rest = rest refl
all_found (e ∷ es) nodes k truth own here rest =
    all_found es (edited_at nodes e) k truth own.1 here.1 (λ none. elim (cases_Bool (is_eq (label_order e.label k))) [
      | inl t ↦
          let l = same_label e.label k t in
          ap (λ (m : List ℕ). find (at m) (edited_at nodes e)) (sym l) ∙ (found_there nodes e own.0 ∙ here.0 l)
      | inr f ↦ found_elsewhere nodes e k own.0 f ∙ rest (rw f none)
    ])
