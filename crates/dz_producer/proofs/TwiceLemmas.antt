-- Whether something comes twice in a list, told by a set of what was seen.
use Rattle.std.proofs.Common.{◌≡◌, ℕ, ◌+◌, ◌<◌, ◌≤◌, Bool, true, false, not, ◌||◌, cond, List, [], ◌∷◌, ◌++◌, length}
use Rattle.std.proofs.Common.{take, drop, get_or, refl, sym, ◌∙◌, ap, inl, inr}
use Rattle.std.specs.Prelude.{if◌then◌else◌}
use Rattle.std.specs.declared.cmp.Ordering.{Ordering}
use Rattle.std.specs.List.{list_any}
use Rattle.std.specs.Ordering.{is_eq}
use Rattle.std.proofs.lemmas.Bool.{cases_Bool}
use Rattle.std.proofs.lemmas.List.{take-append-drop, take_more, take_all}
use Rattle.std.proofs.lemmas.List.Folds.{list_any-append}
use Rattle.dz_settings.specs.Twice.{has_twice}

or_mid : (a b c d : Bool) → ((a || b) || (c || d)) ≡ ((a || c) || (b || d))
or_mid true b c d = refl
or_mid false true true d = refl
or_mid false true false d = refl
or_mid false false true d = refl
or_mid false false false d = refl

or_end : (a b : Bool) → ((a || b) || false) ≡ (b || a)
or_end true true = refl
or_end true false = refl
or_end false true = refl
or_end false false = refl

or_turn : (b c : Bool) → (if b then true else c) ≡ (c || b)
or_turn true true = refl
or_turn true false = refl
or_turn false true = refl
or_turn false false = refl

twice-append : {X : Type 0} (same : X → X → Bool) (xs ys : List X) → has_twice same xs ≡ true
    → has_twice same (xs ++ ys) ≡ true
twice-append same [] ys h = absurd (cc)
twice-append same (x ∷ xs) ys h =
    elim (cases_Bool (list_any (λ y. same x y) xs)) [
      | inl t ↦
          let e : list_any (λ y. same x y) (xs ++ ys) ≡ true =
          list_any-append (λ y. same x y) xs ys ∙ ap (λ b. b || list_any (λ y. same x y) ys) t in
          rw e refl
      | inr f ↦
          let more : has_twice same (xs ++ ys) ≡ true = twice-append same xs ys (rw f at h) in
          rw more (or_one (list_any (λ y. same x y) (xs ++ ys)))
    ]
  where
    or_one : (b : Bool) → (b || true) ≡ true
    or_one true = refl
    or_one false = refl

-- one more at the end
pub twice_push : {X : Type 0} (same : X → X → Bool) (xs : List X) (y : X)
    → has_twice same (xs ++ y ∷ []) ≡ (has_twice same xs || list_any (λ x. same x y) xs)
twice_push same [] y = refl
twice_push same (x ∷ xs) y =
    ap (λ b. b || has_twice same (xs ++ y ∷ []))
    (list_any-append (λ z. same x z) xs (y ∷ []) ∙ ap (λ b. list_any (λ z. same x z) xs || b) (end (same x y)))
    ∙ (ap (λ b. (list_any (λ z. same x z) xs || same x y) || b) (twice_push same xs y)
    ∙ or_mid (list_any (λ z. same x z) xs) (same x y) (has_twice same xs) (list_any (λ z. same z y) xs))
  where
    end : (b : Bool) → (b || false) ≡ b
    end true = refl
    end false = refl

module _ {X K V : Type 0} (cmp : V → V → Ordering) (val : K → V) (key : X → V) where
  -- two elements whose keys tie
  abbrev pub tie : X → X → Bool
  tie x y = is_eq (cmp (key x) (key y))

  -- the set holds the keys of these elements
  pub record IsSeen (holds : K → Bool) (xs : List X) : Type 0 where
    pub once : has_twice tie xs ≡ false
    pub all : (q : K) → holds q ≡ list_any (λ x. is_eq (cmp (key x) (val q))) xs

  pub nothing_seen : (holds : K → Bool) → ((q : K) → holds q ≡ false) → IsSeen holds []
  nothing_seen holds none = record { once = refl; all = none }

  -- one more is new where the set doesn't hold its key
  pub one_seen : (before after : K → Bool) (xs : List X) (x : X) (k : K) (added : Bool) → IsSeen before xs
      → val k ≡ key x → added ≡ not (before k) → added ≡ true
      → ((q : K) → after q ≡ cond (is_eq (cmp (val k) (val q))) true (before q)) → IsSeen after (xs ++ x ∷ [])
  one_seen before after xs x k added seen is new was_added more =
      let fresh : before k ≡ false = turned (before k) (sym new ∙ was_added) in
      let apart : list_any (λ y. is_eq (cmp (key y) (key x))) xs ≡ false =
      ap (λ (v : V). list_any (λ y. is_eq (cmp (key y) v)) xs) (sym is) ∙ (sym (seen.all k) ∙ fresh) in
      record {
        once = twice_push tie xs x ∙ rw (seen.once, apart) refl;
        all = λ q. more q ∙ (or_turn (is_eq (cmp (val k) (val q))) (before q)
            ∙ (ap (λ b. b || is_eq (cmp (val k) (val q))) (seen.all q)
            ∙ (ap (λ (v : V). list_any (λ y. is_eq (cmp (key y) (val q))) xs || is_eq (cmp v (val q))) is
            ∙ sym (list_any-append (λ y. is_eq (cmp (key y) (val q))) xs (x ∷ []) ∙ ap
            (λ b. list_any (λ y. is_eq (cmp (key y) (val q))) xs || b) (end (is_eq (cmp (key x) (val q))))))));
      }
    where
      turned : (b : Bool) → not b ≡ true → b ≡ false
      turned true h = absurd (cc)
      turned false h = refl

      end : (b : Bool) → (b || false) ≡ b
      end true = refl
      end false = refl

  -- and comes twice there where it does
  pub one_again : (before : K → Bool) (xs : List X) (x : X) (k : K) (added : Bool) → IsSeen before xs → val k ≡ key x
      → added ≡ not (before k) → added ≡ false → has_twice tie (xs ++ x ∷ []) ≡ true
  one_again before xs x k added seen is new not_added =
      let there : before k ≡ true = turned (before k) (sym new ∙ not_added) in
      let tied : list_any (λ y. is_eq (cmp (key y) (key x))) xs ≡ true =
      ap (λ (v : V). list_any (λ y. is_eq (cmp (key y) v)) xs) (sym is) ∙ (sym (seen.all k) ∙ there) in
      twice_push tie xs x ∙ rw (seen.once, tied) refl
    where
      turned : (b : Bool) → not b ≡ false → b ≡ true
      turned true h = refl
      turned false h = absurd (cc)

  -- ---- a loop over a list
  pub seen_more : (before after : K → Bool) (xs : List X) (i : ℕ) (x : X) (k : K) (added : Bool)
      → IsSeen before (take i xs) → i < length xs → x ≡ get_or xs i x → val k ≡ key x
      → added ≡ not (before k) → added ≡ true
      → ((q : K) → after q ≡ cond (is_eq (cmp (val k) (val q))) true (before q)) → IsSeen after (take (i + 1) xs)
  seen_more before after xs i x k added seen within item is new was_added more =
      rw (take_more xs i x within, ← item) (one_seen before after (take i xs) x k added seen is new was_added more)

  pub seen_again : (before : K → Bool) (xs : List X) (i : ℕ) (x : X) (k : K) (added : Bool) → IsSeen before (take i xs)
      → i < length xs → x ≡ get_or xs i x → val k ≡ key x
      → added ≡ not (before k) → added ≡ false → true ≡ has_twice tie xs
  seen_again before xs i x k added seen within item is new not_added =
      let here : has_twice tie (take (i + 1) xs) ≡ true =
      rw (take_more xs i x within, ← item) (one_again before (take i xs) x k added seen is new not_added) in
      sym (ap (has_twice tie) (sym (take-append-drop (i + 1) xs))
      ∙ twice-append tie (take (i + 1) xs) (drop (i + 1) xs) here)

  pub seen_all : (holds : K → Bool) (xs : List X) (i : ℕ) → IsSeen holds (take i xs) → length xs ≤ i
      → false ≡ has_twice tie xs
  seen_all holds xs i seen past = sym (ap (has_twice tie) (sym (take_all i xs past)) ∙ seen.once)
