-- The nodes of a change, and its first fault.
use Rattle.std.proofs.Common.{◌≡◌, ℕ, ◌+◌, ◌<◌, ◌≤◌, Bool, true, false, not, ◌||◌, ◌∷◌, cond, List, [], ◌++◌, length}
use Rattle.std.proofs.Common.{take, get_or, refl, sym, ◌∙◌, ap, inl, inr}
use Rattle.std.specs.Prelude.{filter, if◌then◌else◌}
use Rattle.std.specs.Borrow.{Bor}
use Rattle.std.specs.List.{list_any}
use Rattle.std.specs.Ordering.{is_eq}
use Rattle.std.proofs.lemmas.Bool.{cases_Bool}
use Rattle.std.proofs.lemmas.List.{take_more, take_all, append-nil}
use Rattle.std.proofs.lemmas.List.Elements.{filter-append}
use Rattle.std.proofs.lemmas.List.Folds.{list_any-append}
use Rattle.std.proofs.lemmas.Slice.Eq.{bytes_eq-Decides}
use Rattle.dz_name.specs.Name.{label_order, same_label}
use Rattle.dz_name.specs.Order.{same_label_ties}
use Rattle.dz_settings.specs.Twice.{has_twice}
use Rattle.dz_member.specs.declared.listing.Node.{Node}
use Rattle.dz_producer.specs.inner.Nodes.{values}
use Rattle.dz_producer.proofs.TwiceLemmas.{IsSeen}

pub label_symm : (a b : List ℕ) → same_label a b ≡ same_label b a
label_symm a b =
    elim (cases_Bool (same_label a b)) [
      | inl t ↦ t ∙ sym ((bytes_eq-Decides b a).1 (sym ((bytes_eq-Decides a b).0 t)))
      | inr f ↦ elim (cases_Bool (same_label b a)) [
        | inl t ↦ absurd (let e = (bytes_eq-Decides a b).1 (sym ((bytes_eq-Decides b a).0 t)) in cc)
        | inr g ↦ f ∙ sym g
      ]
    ]

or_turn : (b c : Bool) → cond b true c ≡ (c || b)
or_turn true true = refl
or_turn true false = refl
or_turn false true = refl
or_turn false false = refl

or_end : (b : Bool) → (b || false) ≡ b
or_end true = refl
or_end false = refl

-- ---- a set of labels: one more is in it
pub one_more : (before after : List ℕ → Bool) (xs : List Node) (i : ℕ) (x : Node) (label : List ℕ)
    → ((q : List ℕ) → before q ≡ list_any (λ n. same_label n.label q) (take i xs)) → i < length xs → x ≡ get_or xs i x
    → label ≡ x.label
    → ((q : List ℕ) → after q ≡ cond (is_eq (label_order label q)) true (before q)) → (q : List ℕ)
    → after q ≡ list_any (λ n. same_label n.label q) (take (i + 1) xs)
one_more before after xs i x label seen within item is more q =
    let here : list_any (λ n. same_label n.label q) (take (i + 1) xs)
    ≡ (list_any (λ n. same_label n.label q) (take i xs) || same_label x.label q) =
    ap (list_any (λ n. same_label n.label q))
    (take_more xs i x within ∙ ap (λ (y : Node). take i xs ++ y ∷ []) (sym item))
    ∙ list_any-append (λ n. same_label n.label q) (take i xs) (x ∷ [])
    ∙ ap (λ b. list_any (λ n. same_label n.label q) (take i xs) || b) (or_end (same_label x.label q)) in
    more q ∙ ap (λ b. cond b true (before q))
    (ap (λ (l : List ℕ). is_eq (label_order l q)) is ∙ sym (same_label_ties x.label q))
    ∙ or_turn (same_label x.label q) (before q) ∙ ap (λ b. b || same_label x.label q) (seen q) ∙ sym here

-- ---- nodes that a test keeps, by references
values_push : (bs : List (Bor Node)) (b : Bor Node) → values (bs ++ b ∷ []) ≡ values bs ++ b.now ∷ []
values_push [] b = refl
values_push (c ∷ bs) b = ap (λ (ns : List Node). c.now ∷ ns) (values_push bs b)

pub values_append : (bs cs : List (Bor Node)) → values (bs ++ cs) ≡ values bs ++ values cs
values_append [] cs = refl
values_append (b ∷ bs) cs = ap (λ (ns : List Node). b.now ∷ ns) (values_append bs cs)

one_filtered : (p : Node → Bool) (xs : List Node) (i : ℕ) (x : Node) → i < length xs → x ≡ get_or xs i x
    → filter p (take (i + 1) xs) ≡ filter p (take i xs) ++ (if p x then x ∷ [] else [])
one_filtered p xs i x within item =
    ap (filter p) (take_more xs i x within ∙ ap (λ (y : Node). take i xs ++ y ∷ []) (sym item))
    ∙ filter-append p (take i xs) (x ∷ [])

pub kept_more : (p : Node → Bool) (xs : List Node) (i : ℕ) (bs : List (Bor Node)) (b : Bor Node)
    → values bs ≡ filter p (take i xs) → i < length xs → b.now ≡ get_or xs i b.now → p b.now ≡ true
    → values (bs ++ b ∷ []) ≡ filter p (take (i + 1) xs)
kept_more p xs i bs b so_far within item passes =
    values_push bs b ∙ ap (λ (ns : List Node). ns ++ b.now ∷ []) so_far ∙ sym
    (one_filtered p xs i b.now within item ∙ ap (λ t. filter p (take i xs) ++ (if t then b.now ∷ [] else [])) passes)

pub kept_same : (p : Node → Bool) (xs : List Node) (i : ℕ) (bs : List (Bor Node)) (x : Node)
    → values bs ≡ filter p (take i xs) → i < length xs → x ≡ get_or xs i x → p x ≡ false
    → values bs ≡ filter p (take (i + 1) xs)
kept_same p xs i bs x so_far within item fails =
    so_far ∙ sym (one_filtered p xs i x within item
    ∙ ap (λ t. filter p (take i xs) ++ (if t then x ∷ [] else [])) fails ∙ append-nil (filter p (take i xs)))

pub kept_all : (p : Node → Bool) (xs : List Node) (i : ℕ) (bs : List (Bor Node)) → values bs ≡ filter p (take i xs)
    → length xs ≤ i → values bs ≡ filter p xs
kept_all p xs i bs so_far past = so_far ∙ ap (filter p) (take_all i xs past)

pub not_true : (b : Bool) → b ≡ true → not b ≡ false
not_true b t = rw t refl

pub not_false : (b : Bool) → b ≡ false → not b ≡ true
not_false b f = rw f refl

-- ---- labels that are dropped
pub label_twice : (labels : List (List ℕ))
    → has_twice (λ x y. is_eq (label_order x y)) labels ≡ has_twice same_label labels
label_twice labels = ap (λ (t : List ℕ → List ℕ → Bool). has_twice t labels) (λ i x y. sym (same_label_ties x y) i)

pub labels_seen : (labels : List (List ℕ)) (i : ℕ) (holds : List ℕ → Bool)
    → IsSeen label_order (λ (q : List ℕ). q) (λ (x : List ℕ). x) holds (take i labels) → length labels ≤ i
    → (has_twice same_label labels ≡ false) × ((label : List ℕ) → holds label ≡ list_any (same_label label) labels)
labels_seen labels i holds seen past =
    let all : take i labels ≡ labels = take_all i labels past in (
      sym (label_twice labels) ∙ ap (has_twice (λ x y. is_eq (label_order x y))) (sym all) ∙ seen.once,
      λ label. seen.all label ∙ ap (list_any (λ x. is_eq (label_order x label))) all ∙ ap
          (λ (p : List ℕ → Bool). list_any p labels) (λ i x. (sym (same_label_ties x label) ∙ label_symm x label) i),
    )
