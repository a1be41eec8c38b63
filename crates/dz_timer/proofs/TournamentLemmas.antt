-- In a tournament the first node is the first of the least moments, and writing a node keeps what is decided
-- elsewhere.
use Rattle.std.proofs.Common.{◌≡◌, ◌≢◌, ℕ, ◌+◌, ◌*◌, ◌/◌, ◌-◌, ◌<◌, ◌≤◌, zero, suc, true, false, List, [], ◌∷◌, length}
use Rattle.std.proofs.Common.{drop, map, get_or, refl, sym, ◌∙◌, ap, subst, arith, inl, inr}
use Rattle.std.specs.Prelude.{◌⊎◌, nat_lt}
use Rattle.std.proofs.Math.ListN.{set}
use Rattle.std.proofs.lemmas.List.{get_or_default, get_or-map, get_or-drop, get_or-set_other, get_or-set_same}
use Rattle.std.proofs.lemmas.List.{length-map, length-drop, map-set, drop-set-add, drop-set-lt}
use Rattle.std.proofs.lemmas.Bool.{cases_Bool, cases_eq}
use Rattle.std.proofs.lemmas.Bool.Decides.{nat_tests}
use Rattle.dz_timer.specs.inner.Tournament.{node, comes_before, earlier, IsDecided, AreDecidedBut, AreOwn}
use Rattle.dz_timer.specs.inner.Tournament.{IsTournament, moments, IsFirstOfLeast}
use Rattle.dz_timer.specs.declared.wait.Wait.{Wait}

-- a comes before b, or is as early and is at no later place
record IsUpTo (a b : Wait) : Type 0 where
  pub moment : a.moment ≤ b.moment
  pub place : a.moment ≡ b.moment → a.place ≤ b.place

upto_self : (a : Wait) → IsUpTo a a
upto_self a = record { moment = omega arith; place = λ e. omega arith }

upto_chain : (a b c : Wait) → IsUpTo a b → IsUpTo b c → IsUpTo a c
upto_chain a b c h k = record {
  moment = omega (arith, h.moment, k.moment);
  place = λ e. omega (arith, h.moment, k.moment, h.place, k.place);
}

before_upto : (a b : Wait) → comes_before b a ≡ true → IsUpTo b a
before_upto a b t = record { moment = grind (arith, nat_tests); place = λ e. grind (arith, nat_tests) }

upto_otherwise : (a b : Wait) → comes_before b a ≡ false → IsUpTo a b
upto_otherwise a b f = record { moment = grind (arith, nat_tests); place = λ e. grind (arith, nat_tests) }

earlier_left : (a b : Wait) → IsUpTo (earlier a b) a
unfolding earlier
earlier_left a b =
    elim (cases_Bool (comes_before b a)) [ inl t ↦ rw t (before_upto a b t) | inr f ↦ rw f (upto_self a) ]

earlier_right : (a b : Wait) → IsUpTo (earlier a b) b
unfolding earlier
earlier_right a b =
    elim (cases_Bool (comes_before b a)) [ inl t ↦ rw t (upto_self b) | inr f ↦ rw f (upto_otherwise a b f) ]

earlier_one : (a b : Wait) → (earlier a b ≡ a) ⊎ (earlier a b ≡ b)
unfolding earlier
earlier_one a b = elim (cases_Bool (comes_before b a)) [ inl t ↦ rw t (inr refl) | inr f ↦ rw f (inl refl) ]

-- the first node is up to each, by the halves of its number
first_upto : (nodes : List Wait) (count : ℕ) → IsTournament nodes count → (fuel k : ℕ) → k < fuel → 1 ≤ k
    → k < count + count → IsUpTo (node nodes 1) (node nodes k)
first_upto nodes count h zero k less some below = absurd (omega arith)
first_upto nodes count h (suc fuel) zero less some below = absurd (omega arith)
first_upto nodes count h (suc fuel) (suc zero) less some below = upto_self (node nodes 1)
first_upto nodes count h (suc fuel) (suc (suc m)) less some below =
    let k : ℕ = suc (suc m) in
    let up : ℕ = k / 2 in
    let above : IsUpTo (node nodes 1) (node nodes up) =
    first_upto nodes count h fuel up (omega arith) (omega arith) (omega arith) in
    let decided = h.decided up (omega arith) (omega arith) (λ e. omega arith) in
    let left : IsUpTo (node nodes up) (node nodes (up + up)) =
    rw decided (earlier_left (node nodes (up + up)) (node nodes (up + up + 1))) in
    let right : IsUpTo (node nodes up) (node nodes (up + up + 1)) =
    rw decided (earlier_right (node nodes (up + up)) (node nodes (up + up + 1))) in
    elim (cases_eq k (up + up)) [
      | inl even ↦ upto_chain _ _ _ above (subst (λ (j : ℕ). IsUpTo (node nodes up) (node nodes j)) (sym even) left)
      | inr other ↦
          let odd : k ≡ up + up + 1 = omega arith in
          upto_chain _ _ _ above (subst (λ (j : ℕ). IsUpTo (node nodes up) (node nodes j)) (sym odd) right)
    ]

-- what the node holds is the moment of its place
abbrev IsOfItsPlace : List Wait → ℕ → ℕ → Type 0
IsOfItsPlace nodes count k =
    ((node nodes k).place < count) × (node nodes k ≡ node nodes (count + (node nodes k).place))

leaf_of_its_place : (nodes : List Wait) (count : ℕ) → IsTournament nodes count → (k : ℕ) → count ≤ k
    → k < count + count → IsOfItsPlace nodes count k
leaf_of_its_place nodes count h k leaf below =
    let j : ℕ = k - count in
    let e : k ≡ count + j = omega arith in
    let own : (node nodes (count + j)).place ≡ j = h.own j (omega arith) in
    subst (λ (i : ℕ). IsOfItsPlace nodes count i) (sym e) (omega (arith, own), rw own refl)

-- each node does, by the one of the two below it that it is
node_of_its_place : (nodes : List Wait) (count : ℕ) → IsTournament nodes count → (fuel k : ℕ)
    → count + count < k + fuel → 1 ≤ k → k < count + count → IsOfItsPlace nodes count k
node_of_its_place nodes count h zero k less some below = absurd (omega arith)
node_of_its_place nodes count h (suc fuel) k less some below =
    elim (cases_Bool (nat_lt k count)) [
      | inr leaf ↦ leaf_of_its_place nodes count h k (grind (arith, nat_tests)) below
      | inl inner ↦
          let lt : k < count = grind (arith, nat_tests) in
          let decided = h.decided k some lt (λ e. omega arith) in
          let left = node_of_its_place nodes count h fuel (k + k) (omega arith) (omega arith) (omega arith) in
          let right = node_of_its_place nodes count h fuel (k + k + 1) (omega arith) (omega arith) (omega arith) in
          elim (earlier_one (node nodes (k + k)) (node nodes (k + k + 1))) [
            | inl e ↦ rw (decided, e) left
            | inr e ↦ rw (decided, e) right
          ]
    ]

moment_at : (nodes : List Wait) (count k : ℕ) → length nodes ≡ count + count → k < count
    → get_or (moments nodes count) k 0 ≡ (node nodes (count + k)).moment
moment_at nodes count k size lt =
    get_or-map (λ (w : Wait). w.moment) (drop count nodes) k (record { moment = 0; place = 0 }) 0
    (omega (arith, length-drop count nodes))
    ∙ ap (λ (w : Wait). w.moment) (get_or-drop count nodes k (record { moment = 0; place = 0 }))

pub length-moments : (nodes : List Wait) (count : ℕ) → length nodes ≡ count + count
    → length (moments nodes count) ≡ count
length-moments nodes count size = simp (length-map, length-drop) (omega arith)

pub record IsAnswer (nodes : List Wait) (count : ℕ) : Type 0 where
  pub least : IsFirstOfLeast (moments nodes count) (node nodes 1).place
  pub moment : (node nodes 1).moment ≡ get_or (moments nodes count) (node nodes 1).place 0

pub first_node : (nodes : List Wait) (count : ℕ) → IsTournament nodes count → 0 < count → IsAnswer nodes count
first_node nodes count h some =
    let own = node_of_its_place nodes count h (count + count) 1 (omega arith) (omega arith) (omega arith) in
    let place : ℕ = (node nodes 1).place in
    let len = length-moments nodes count h.size in
    let at : get_or (moments nodes count) place 0 ≡ (node nodes 1).moment =
    moment_at nodes count place h.size own.0 ∙ ap (λ (w : Wait). w.moment) (sym own.1) in
    record {
      least = record {
        within = omega (arith, own.0, len);
        least = λ k lt.
            let upto = first_upto nodes count h (suc (count + k)) (count + k) (omega arith) (omega arith)
            (omega (arith, len)) in
            omega (arith, at, upto.moment, moment_at nodes count k h.size (omega (arith, len)));
        first = λ k lt.
            let upto = first_upto nodes count h (suc (count + k)) (count + k) (omega arith) (omega arith)
            (omega (arith, own.0)) in
            let there = moment_at nodes count k h.size (omega (arith, own.0)) in
            elim (cases_eq (node nodes 1).moment (node nodes (count + k)).moment) [
              | inl same ↦
                  absurd (let le = upto.place same in omega (arith, own.0, le, h.own k (omega (arith, own.0))))
              | inr other ↦ omega (arith, at, upto.moment, there, other)
            ];
      };
      moment = sym at;
    }

-- a leaf is written: of the nodes the one above it may be undecided
pub record IsWrittenAt (nodes : List Wait) (count out : ℕ) : Type 0 where
  pub own : AreOwn nodes count
  pub decided : AreDecidedBut nodes count out

pub leaf_set : (nodes : List Wait) (count : ℕ) (w : Wait) → IsTournament nodes count → w.place < count
    → IsWrittenAt (set nodes (count + w.place) w) count ((count + w.place) / 2)
leaf_set nodes count w h lt =
    let leaf : ℕ = count + w.place in
    record {
      own = λ j below.
          elim (cases_eq j w.place) [
            | inl same ↦
                let k : count + w.place < length nodes = omega (arith, h.size) in
                rw (same, get_or-set_same) refl
            | inr other ↦
                let ne : count + j ≢ count + w.place = λ (q : count + j ≡ count + w.place). other (omega arith) in
                rw get_or-set_other (h.own j below)
          ];
      decided = λ i some below out.
          let a : i ≢ leaf = λ (q : i ≡ leaf). omega arith in
          let b : i + i ≢ leaf = λ (q : i + i ≡ leaf). out (omega arith) in
          let c : i + i + 1 ≢ leaf = λ (q : i + i + 1 ≡ leaf). out (omega arith) in
          rw (
            get_or-set_other nodes leaf i w _ a,
            get_or-set_other nodes leaf (i + i) w _ b,
            get_or-set_other nodes leaf (i + i + 1) w _ c,
          ) (h.decided i some below (λ z. omega arith));
    }

-- an inner node is decided: the one above it may be undecided
pub node_set : (nodes : List Wait) (count at : ℕ) (w : Wait) → length nodes ≡ count + count → 1 ≤ at → at < count
    → AreOwn nodes count → AreDecidedBut nodes count at
    → w ≡ earlier (node nodes (at + at)) (node nodes (at + at + 1)) → IsWrittenAt (set nodes at w) count (at / 2)
node_set nodes count at w size some lt own decided e = record {
  own = λ j below. let ne : count + j ≢ at = λ (q : count + j ≡ at). omega arith in
      rw (get_or-set_other nodes at (count + j) w _ ne) (own j below);
  decided = λ i one below out.
      let b : i + i ≢ at = λ (q : i + i ≡ at). out (omega arith) in
      let c : i + i + 1 ≢ at = λ (q : i + i + 1 ≡ at). out (omega arith) in
      elim (cases_eq i at) [
        | inl same ↦
            let k : at < length nodes = omega arith in
            let b' : at + at ≢ at = λ (q : at + at ≡ at). omega arith in
            let c' : at + at + 1 ≢ at = λ (q : at + at + 1 ≡ at). omega arith in
            rw (
              same,
              get_or-set_same nodes at w _ k,
              get_or-set_other nodes at (at + at) w _ b',
              get_or-set_other nodes at (at + at + 1) w _ c',
            ) e
        | inr other ↦ rw (
          get_or-set_other nodes at i w _ other,
          get_or-set_other nodes at (i + i) w _ b,
          get_or-set_other nodes at (i + i + 1) w _ c,
        ) (decided i one below other)
      ];
}

-- from this node on each is decided
abbrev pub AreDecidedFrom : List Wait → ℕ → ℕ → Type 0
AreDecidedFrom nodes count start = (i : ℕ) → start ≤ i → i < count → IsDecided nodes i

pub record IsDecidedDownTo (nodes : List Wait) (count start : ℕ) : Type 0 where
  pub own : AreOwn nodes count
  pub decided : AreDecidedFrom nodes count start

pub lower_set : (nodes : List Wait) (count at : ℕ) (w : Wait) → length nodes ≡ count + count → 1 ≤ at → at < count
    → AreOwn nodes count → AreDecidedFrom nodes count (at + 1)
    → w ≡ earlier (node nodes (at + at)) (node nodes (at + at + 1)) → IsDecidedDownTo (set nodes at w) count at
lower_set nodes count at w size some lt own decided e = record {
  own = λ j below. let ne : count + j ≢ at = λ (q : count + j ≡ at). omega arith in
      rw (get_or-set_other nodes at (count + j) w _ ne) (own j below);
  decided = λ i from below.
      let b : i + i ≢ at = λ (q : i + i ≡ at). omega arith in
      let c : i + i + 1 ≢ at = λ (q : i + i + 1 ≡ at). omega arith in
      elim (cases_eq i at) [
        | inl same ↦
            let k : at < length nodes = omega arith in
            let b' : at + at ≢ at = λ (q : at + at ≡ at). omega arith in
            let c' : at + at + 1 ≢ at = λ (q : at + at + 1 ≡ at). omega arith in
            rw (
              same,
              get_or-set_same nodes at w _ k,
              get_or-set_other nodes at (at + at) w _ b',
              get_or-set_other nodes at (at + at + 1) w _ c',
            ) e
        | inr other ↦ rw (
          get_or-set_other nodes at i w _ other,
          get_or-set_other nodes at (i + i) w _ b,
          get_or-set_other nodes at (i + i + 1) w _ c,
        ) (decided i (omega (arith, other)) below)
      ];
}

pub moments-set_inner : (nodes : List Wait) (count at : ℕ) (w : Wait) → at < count
    → moments (set nodes at w) count ≡ moments nodes count
moments-set_inner nodes count at w lt = ap (λ ws. map (λ (w : Wait). w.moment) ws) (drop-set-lt count nodes at w lt)

pub moments-set_leaf : (nodes : List Wait) (count place : ℕ) (w : Wait)
    → moments (set nodes (count + place) w) count ≡ set (moments nodes count) place w.moment
moments-set_leaf nodes count place w = ap (λ ws. map (λ (w : Wait). w.moment) ws) (drop-set-add count nodes place w)
    ∙ map-set (λ (w : Wait). w.moment) (drop count nodes) place w

-- what the code compares, in the words of the definitions
pub earlier_at : (nodes : List Wait) (i : ℕ) (a b w : Wait) → i + i + 1 < length nodes → a ≡ get_or nodes (2 * i) a
    → b ≡ get_or nodes (2 * i + 1) b → w ≡ earlier a b
    → w ≡ earlier (node nodes (i + i)) (node nodes (i + i + 1))
earlier_at nodes i a b w lt e f g =
    let blank : Wait = record { moment = 0; place = 0 } in
    let two : 2 * i ≡ i + i = omega arith in
    let e' : a ≡ get_or nodes (i + i) blank = (rw two at e) ∙ get_or_default nodes (i + i) a blank (omega arith) in
    let f' : b ≡ get_or nodes (i + i + 1) blank =
    (rw two at f) ∙ get_or_default nodes (i + i + 1) b blank (omega arith) in
    rw (← e', ← f') g

pub first_read : (nodes : List Wait) (w : Wait) → 1 < length nodes → w ≡ get_or nodes 1 w → w ≡ node nodes 1
first_read nodes w lt e = e ∙ get_or_default nodes 1 w (record { moment = 0; place = 0 }) lt

pub moments_none : (nodes : List Wait) (count : ℕ) → length nodes ≡ count → moments nodes count ≡ []
moments_none [] zero e = refl
moments_none [] (suc n) e = refl
moments_none (w ∷ ws) zero e = absurd (omega arith)
moments_none (w ∷ ws) (suc n) e = moments_none ws n (omega arith)
