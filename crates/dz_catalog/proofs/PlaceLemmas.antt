-- The label of the node that a name is or is below.
use Rattle.std.proofs.Common.{◌≡◌, ℕ, ◌<◌, Bool, true, false, cond, ◌||◌, List, [], ◌∷◌, ◌++◌, length}
use Rattle.std.proofs.Common.{refl, sym, ◌∙◌, ap, arith, inl, inr, is_eq, length-append}
use Rattle.std.specs.Prelude.{Some, None}
use Rattle.std.specs.Option.{option_map_or}
use Rattle.std.specs.Cmp.{both_ways}
use Rattle.std.proofs.lemmas.Bool.{cases_Bool, both_ways as never}
use Rattle.dz_name.specs.Name.{same_name, is_within, first_label, parent_of, label_order, IsWithin}
use Rattle.dz_name.specs.Order.{same_decides}
use Rattle.dz_name.proofs.PartLemmas.{within_suffix}
use Rattle.dz_catalog.specs.Member.{zones_of}
use Rattle.dz_catalog.specs.inner.Labels.{label_of, node_name}
use Rattle.dz_catalog.proofs.EditLemmas.{same_label, label_itself}

-- ---- the walk over a name's labels
pub label_here : (apex rest above : List (List ℕ)) → Some above ≡ parent_of rest
    → same_name above (zones_of apex) ≡ true → first_label rest ≡ label_of apex rest
unfolding label_of
label_here apex [] above p t = absurd (cc)
label_here apex (label ∷ labels) above p t =
    let e : above ≡ labels = cc in
    let s = rw e at t in
    rw s refl

pub label_more : (apex rest above : List (List ℕ)) → Some above ≡ parent_of rest
    → same_name above (zones_of apex) ≡ false → label_of apex above ≡ label_of apex rest
unfolding label_of
label_more apex [] above p f = absurd (cc)
label_more apex (label ∷ labels) above p f =
    let e : above ≡ labels = cc in
    let g = rw e at f in
    rw g (ap (label_of apex) e)

pub label_shorter : (rest above : List (List ℕ)) → Some above ≡ parent_of rest → length above < length rest
label_shorter [] above p = absurd (cc)
label_shorter (label ∷ labels) above p =
    let e : above ≡ labels = cc in
    let n : length above ≡ length labels = ap length e in
    omega arith

pub label_none : (apex rest : List (List ℕ)) → None ≡ parent_of rest → None ≡ label_of apex rest
unfolding label_of
label_none apex [] p = refl
label_none apex (label ∷ labels) p = absurd (cc)

-- ---- the names that it holds of
within_longer : (label : List ℕ) (name node : List (List ℕ)) → is_within name node ≡ true
    → is_within (label ∷ name) node ≡ true
within_longer label name node t =
    let w = (within_suffix name node).0 t in
    (within_suffix (label ∷ name) node).1 (label ∷ w.0, ap (λ (n : List (List ℕ)). label ∷ n) w.1)

too_short : (front name : List (List ℕ)) (label : List ℕ) → name ≡ front ++ (label ∷ name) → ⊥
too_short front name label e =
    let n : length name ≡ length (front ++ (label ∷ name)) = ap length e in
    omega (arith, length-append front (label ∷ name))

own_label : (zones : List (List ℕ)) (k q : List ℕ) → IsWithin (k ∷ zones) (q ∷ zones) → k ≡ q
own_label zones k q ([], e) = cc
own_label zones k q (x ∷ front, e) = let f : zones ≡ front ++ (q ∷ zones) = cc in absurd (too_short front zones q f)

rest_within : (name zones : List (List ℕ)) (k q : List ℕ) → (name ≡ zones → ⊥)
    → IsWithin (k ∷ name) (q ∷ zones) → IsWithin name (q ∷ zones)
rest_within name zones k q other ([], e) = let f : name ≡ zones = cc in absurd (other f)
rest_within name zones k q other (x ∷ front, e) = (front, cc)

-- a name is the node of a label or below it exactly where this is its label
pub within_label : (apex name : List (List ℕ)) (q : List ℕ) → is_within name (node_name apex q)
    ≡ option_map_or (λ k. is_eq (label_order k q)) (label_of apex name) false
unfolding label_of
within_label apex [] q =
    both_ways (is_within [] (node_name apex q)) false
    (λ t. let w = (within_suffix [] (node_name apex q)).0 t in
    let n : 0 ≡ length (w.0 ++ node_name apex q) = ap length w.1 in
    absurd (omega (arith, length-append w.0 (node_name apex q))))
    (λ t. absurd (cc))
within_label apex (k ∷ name) q =
    elim (cases_Bool (same_name name (zones_of apex))) [
      | inl t ↦
          let e = (same_decides name (zones_of apex)).0 t in
          rw t (rw e (both_ways (is_within (k ∷ zones_of apex) (node_name apex q)) (is_eq (label_order k q))
          (λ w. ap (λ (l : List ℕ). is_eq (label_order k l))
          (sym (own_label (zones_of apex) k q ((within_suffix (k ∷ zones_of apex) (node_name apex q)).0 w)))
          ∙ label_itself k)
          (λ w. (within_suffix (k ∷ zones_of apex) (node_name apex q)).1
          ([], ap (λ (l : List ℕ). l ∷ zones_of apex) (same_label k q w)))))
      | inr f ↦
          let other : name ≡ zones_of apex → ⊥ =
          λ e. never (same_name name (zones_of apex)) f ((same_decides name (zones_of apex)).1 e) in
          rw f (both_ways (is_within (k ∷ name) (node_name apex q)) (is_within name (node_name apex q))
          (λ w. (within_suffix name (node_name apex q)).1
          (rest_within name (zones_of apex) k q other ((within_suffix (k ∷ name) (node_name apex q)).0 w)))
          (within_longer k name (node_name apex q)) ∙ within_label apex name q)
    ]

or_none : (b : Bool) → b ≡ (b || false)
or_none true = refl
or_none false = refl

or_turn : (a b : Bool) → cond a true b ≡ (b || a)
or_turn true true = refl
or_turn true false = refl
or_turn false true = refl
or_turn false false = refl

pub put_none : (apex name : List (List ℕ)) (q : List ℕ) (old : Bool) → None ≡ label_of apex name
    → old ≡ (old || is_within name (node_name apex q))
put_none apex name q old e =
    let f : is_within name (node_name apex q) ≡ false = within_label apex name q ∙ rw (← e) refl in
    rw f (or_none old)

pub put_one : (apex name : List (List ℕ)) (k q : List ℕ) (old new : Bool) → Some k ≡ label_of apex name
    → new ≡ cond (is_eq (label_order k q)) true old → new ≡ (old || is_within name (node_name apex q))
put_one apex name k q old new e more =
    let f : is_within name (node_name apex q) ≡ is_eq (label_order k q) = within_label apex name q ∙ rw (← e) refl in
    rw f (more ∙ or_turn (is_eq (label_order k q)) old)
