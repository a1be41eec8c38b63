-- Nodes that lie elsewhere.
use Rattle.std.proofs.Common.{◌≡◌, ℕ, ◌+◌, ◌<◌, ◌≤◌, Bool, true, false, ◌||◌, List, [], ◌∷◌, ◌++◌, length, map, drop}
use Rattle.std.proofs.Common.{get_or, refl, sym, ◌∙◌, ap, subst, take, append_assoc}
use Rattle.std.specs.Borrow.{Bor}
use Rattle.std.specs.List.{All, list_any, flat_map}
use Rattle.std.specs.Cmp.Lexicographic.{slice_cmp}
use Rattle.std.specs.Ordering.{is_eq, nat_cmp}
use Rattle.std.specs.Str.{bytes_eq}
use Rattle.std.proofs.lemmas.List.{drop_more, drop_all, take_more, take_all}
use Rattle.std.proofs.lemmas.List.Elements.{All-push}
use Rattle.dz_name.specs.Name.{label_order, canonical_order}
use Rattle.dz_name.specs.Order.{same_label_ties, same_ties}
use Rattle.dz_member.specs.Listing.{same_zone}
use Rattle.dz_settings.specs.Twice.{has_twice}
use Rattle.dz_member.specs.declared.listing.Node.{Node}
use Rattle.dz_producer.specs.Faults.{same_node}
use Rattle.dz_producer.specs.inner.Nodes.{values}

module _ {A : Type 0} where
  any_values : (p : A → Bool) (bs : List (Bor A)) → list_any (λ b. p b.now) bs ≡ list_any p (map (λ b. b.now) bs)
  any_values p [] = refl
  any_values p (b ∷ bs) = ap (λ t. p b.now || t) (any_values p bs)

  twice_values : (same : A → A → Bool) (bs : List (Bor A))
      → has_twice (λ x y. same x.now y.now) bs ≡ has_twice same (map (λ b. b.now) bs)
  twice_values same [] = refl
  twice_values same (b ∷ bs) =
      ap (λ t. t || has_twice (λ x y. same x.now y.now) bs) (any_values (λ y. same b.now y) bs)
      ∙ ap (λ t. list_any (λ y. same b.now y) (map (λ x. x.now) bs) || t) (twice_values same bs)

  pub flat_values : {B : Type 0} (f : A → List B) (bs : List (Bor A))
      → flat_map (λ b. f b.now) bs ≡ flat_map f (map (λ b. b.now) bs)
  flat_values f [] = refl
  flat_values f (b ∷ bs) = ap (λ xs. f b.now ++ xs) (flat_values f bs)

pub any_nodes : (p : Node → Bool) (bs : List (Bor Node)) → list_any (λ b. p b.now) bs ≡ list_any p (values bs)
any_nodes p bs = any_values p bs

pub labels_twice : (bs : List (Bor Node))
    → has_twice (λ x y. is_eq (label_order x.now.label y.now.label)) bs ≡ has_twice same_node (values bs)
labels_twice bs =
    ap (λ (t : Bor Node → Bor Node → Bool). has_twice t bs) (λ i x y. sym (same_label_ties x.now.label y.now.label) i)
    ∙ twice_values same_node bs

pub zones_twice : (bs : List (Bor Node))
    → has_twice (λ x y. is_eq (canonical_order x.now.zone y.now.zone)) bs ≡ has_twice same_zone (values bs)
zones_twice bs =
    ap (λ (t : Bor Node → Bor Node → Bool). has_twice t bs) (λ i x y. sym (same_ties x.now.zone y.now.zone) i)
    ∙ twice_values same_zone bs

pub texts_twice : (texts : List (List ℕ))
    → has_twice (λ x y. is_eq (slice_cmp nat_cmp x y)) texts ≡ has_twice bytes_eq texts
texts_twice texts = ap (λ (t : List ℕ → List ℕ → Bool). has_twice t texts) (λ i x y. sym (same_label_ties x y) i)

-- a search from the first to the last
module _ {X : Type 0} (p : X → Bool) (xs : List X) where
  pub any_here : (k : ℕ) (x : X) → k < length xs → x ≡ get_or xs k x → p x ≡ true
      → list_any p (drop k xs) ≡ list_any p xs → true ≡ list_any p xs
  any_here k x lt item is so_far =
      let e : list_any p (drop k xs) ≡ (p x || list_any p (drop (k + 1) xs)) =
      ap (list_any p) (drop_more xs k x lt ∙ ap (λ s. s ∷ drop (k + 1) xs) (sym item)) in
      sym (sym so_far ∙ (e ∙ ap (λ b. b || list_any p (drop (k + 1) xs)) is))

  pub any_on : (k : ℕ) (x : X) → k < length xs → x ≡ get_or xs k x → p x ≡ false
      → list_any p (drop k xs) ≡ list_any p xs → list_any p (drop (k + 1) xs) ≡ list_any p xs
  any_on k x lt item is so_far =
      let e : list_any p (drop k xs) ≡ (p x || list_any p (drop (k + 1) xs)) =
      ap (list_any p) (drop_more xs k x lt ∙ ap (λ s. s ∷ drop (k + 1) xs) (sym item)) in
      sym (e ∙ ap (λ b. b || list_any p (drop (k + 1) xs)) is) ∙ so_far

  pub any_end : (k : ℕ) → length xs ≤ k → list_any p (drop k xs) ≡ list_any p xs → false ≡ list_any p xs
  any_end k le so_far = sym (ap (list_any p) (drop_all k xs le)) ∙ so_far

-- what holds of each, one after another
module _ {X : Type 0} (P : X → Type 0) (xs : List X) where
  pub all_on : (k : ℕ) (x : X) → All P (take k xs) → k < length xs → x ≡ get_or xs k x → P x → All P (take (k + 1) xs)
  all_on k x so_far lt item here =
      subst (All P) (sym (take_more xs k x lt ∙ ap (λ (y : X). take k xs ++ y ∷ []) (sym item)))
      (All-push P (take k xs) x so_far here)

  pub all_end : (k : ℕ) → All P (take k xs) → length xs ≤ k → All P xs
  all_end k so_far le = subst (All P) (take_all k xs le) so_far

-- what is made of each, one after another
pub put_more : {X Y : Type 0} (f : X → List Y) (xs : List X) (k : ℕ) (x : X) (out more whole : List Y)
    → k < length xs → x ≡ get_or xs k x → out ++ flat_map f (drop k xs) ≡ whole → more ≡ out ++ f x
    → more ++ flat_map f (drop (k + 1) xs) ≡ whole
put_more f xs k x out more whole lt item so_far put =
    ap (λ ys. ys ++ flat_map f (drop (k + 1) xs)) put ∙ append_assoc out (f x) (flat_map f (drop (k + 1) xs))
    ∙ ap (λ ys. out ++ flat_map f ys) (sym (drop_more xs k x lt ∙ ap (λ s. s ∷ drop (k + 1) xs) (sym item))) ∙ so_far
