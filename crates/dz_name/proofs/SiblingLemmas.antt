-- Two names that differ in their first labels alone.
use Rattle.std.proofs.Common.{◌≡◌, ℕ, ◌+◌, ◌≢◌, List, [], ◌∷◌, ◌++◌, take, drop, refl, sym, ◌∙◌, arith, get_or}
use Rattle.std.specs.Prelude.{reverse, Bool, IsTrue}
use Rattle.std.specs.Str.{bytes_eq}
use Rattle.std.proofs.lemmas.Slice.Eq.{slice_eq-Decides}
use Rattle.std.proofs.lemmas.Bool.Decides.{Decides-eqb}
use Rattle.std.proofs.lemmas.List.{reverse-append}
use Rattle.std.specs.Cmp.{nat_cmp_total, tied_itself}
use Rattle.std.specs.Cmp.Lexicographic.{slice_cmp, lists_total}
use Rattle.std.specs.Ordering.{nat_cmp, ordering_then}
use Rattle.std.specs.declared.cmp.Ordering.{Ordering}
use Rattle.std.specs.declared.cmp.Ordering.TheVariants.{Less, Equal, Greater}
use Rattle.dz_name.specs.Name.{wire_of, IsName, canonical_order}
use Rattle.dz_name.proofs.PartLemmas.{behind_step, same_labels, name_drop}
use Rattle.dz_name.proofs.OrderLemmas.{label_in_wire}

then_equal : (o : Ordering) → ordering_then o Equal ≡ o
then_equal Less = refl
then_equal Equal = refl
then_equal Greater = refl

last_decides : (w : List (List ℕ)) (x y : List ℕ)
    → slice_cmp (slice_cmp nat_cmp) (w ++ x ∷ []) (w ++ y ∷ []) ≡ slice_cmp nat_cmp x y
last_decides [] x y = then_equal (slice_cmp nat_cmp x y)
last_decides (z ∷ w) x y = rw (tied_itself (lists_total nat_cmp_total) z) (last_decides w x y)

first_decides : (u : List (List ℕ)) (x y : List ℕ) → canonical_order (x ∷ u) (y ∷ u) ≡ slice_cmp nat_cmp x y
first_decides u x y = rw (reverse-append (x ∷ []) u, reverse-append (y ∷ []) u) (last_decides (reverse u) x y)

root_none : ¬ (get_or (wire_of []) 0 0 ≢ 0)
unfolding wire_of
root_none h = h refl

pub sibling : (a b : List (List ℕ)) → IsName a → IsName b → get_or (wire_of a) 0 0 ≢ 0 → get_or (wire_of b) 0 0 ≢ 0
    → drop (get_or (wire_of a) 0 0 + 1) (wire_of a) ≡ drop (get_or (wire_of b) 0 0 + 1) (wire_of b)
    → slice_cmp nat_cmp (take (get_or (wire_of a) 0 0) (drop 1 (wire_of a)))
    (take (get_or (wire_of b) 0 0) (drop 1 (wire_of b))) ≡ canonical_order a b
sibling [] b is_a is_b some_a some_b e = absurd (root_none some_a)
sibling (x ∷ u) [] is_a is_b some_a some_b e = absurd (root_none some_b)
sibling (x ∷ u) (y ∷ v) is_a is_b some_a some_b e =
    let w : wire_of u ≡ wire_of v =
    sym (behind_step (x ∷ u) 0 (omega arith)) ∙ e ∙ behind_step (y ∷ v) 0 (omega arith) in
    let s : u ≡ v = same_labels u v (name_drop 1 (x ∷ u) is_a) (name_drop 1 (y ∷ v) is_b) w in
    rw (label_in_wire (x ∷ u) 0 (omega arith), label_in_wire (y ∷ v) 0 (omega arith), s) (sym (first_decides v x y))

pub sibling_wires : (a b : List (List ℕ)) (m t bm bt lm lt : List ℕ) (r : Bool) → IsName a → IsName b → m ≡ wire_of a
    → t ≡ wire_of b → get_or m 0 0 ≢ 0 → get_or t 0 0 ≢ 0
    → bm ≡ drop (get_or m 0 0 + 1) m → bt ≡ drop (get_or t 0 0 + 1) t → lm ≡ take (get_or m 0 0) (drop (0 + 1) m)
    → lt ≡ take (get_or t 0 0) (drop (0 + 1) t)
    → r ≡ bytes_eq bm bt → IsTrue r → slice_cmp nat_cmp lm lt ≡ canonical_order a b
sibling_wires a b m t bm bt lm lt r is_a is_b m_is t_is some_m some_t bm_is bt_is lm_is lt_is e h =
    let same : bm ≡ bt = (slice_eq-Decides Decides-eqb bm bt r e).0 h in
    rw (lm_is, lt_is, m_is, t_is)
    (sibling a b is_a is_b (rw m_is at some_m) (rw t_is at some_t) (rw (m_is, t_is) at (sym bm_is ∙ same ∙ bt_is)))
