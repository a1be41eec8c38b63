-- A phase in which the zones below a number are done and those from it on are not; and how many tickets it took.
use Rattle.std.proofs.Common.{◌≡◌, ℕ, ◌+◌, ◌-◌, ◌/◌, ◌%◌, ◌<◌, ◌≤◌, ◌==◌, Bool, true, false, refl, sym, ◌∙◌, ap, arith}
use Rattle.std.proofs.Common.{inl, inr}
use Rattle.std.specs.Prelude.{nat_lt, not, ◌&&◌, if◌then◌else◌}
use Rattle.std.proofs.lemmas.Bool.{cases_Bool, eqb-true}
use Rattle.std.proofs.lemmas.Bool.Decides.{nat_tests}
use Rattle.dz_gen.specs.Script.{is_tenth, is_changed}
use Rattle.dz_rehearsal.proofs.LifeLemmas.{with, with_each, either}

-- the one function below k, and the other from k on
abbrev pub upto : {X : Type 0} → ℕ → (ℕ → X) → (ℕ → X) → ℕ → X
upto k done todo i = if nat_lt i k then done i else todo i

module _ {X : Type 0} (k : ℕ) (done todo : ℕ → X) where
  pub upto_done : (i : ℕ) → i < k → upto k done todo i ≡ done i
  upto_done i lt = let t : nat_lt i k ≡ true = grind (arith, nat_tests) in rw t refl

  pub upto_todo : (i : ℕ) → k ≤ i → upto k done todo i ≡ todo i
  upto_todo i le = let f : nat_lt i k ≡ false = grind (arith, nat_tests) in rw f refl

  -- what both have
  pub upto_each : (P : X → Type 0) (i : ℕ) → P (done i) → P (todo i) → P (upto k done todo i)
  upto_each P i p q = either P (nat_lt i k) (done i) (todo i) p q

module _ {X : Type 0} (k : ℕ) (done todo : ℕ → X) where
  -- one more is done
  pub upto_with : (x : X) → x ≡ done k → (i : ℕ) → with (upto k done todo) k x i ≡ upto (k + 1) done todo i
  upto_with x is i = sym (with_each (upto k done todo) k x (upto (k + 1) done todo) i
      (λ e. upto_done (k + 1) done todo i (omega arith) ∙ (ap done e ∙ sym is))
      (λ ne. elim (cases_Bool (nat_lt i k)) [
        | inl t ↦ let lt : i < k = grind (arith, nat_tests) in upto_done (k + 1) done todo i (omega arith)
            ∙ sym (upto_done k done todo i lt)
        | inr f ↦ let le : k ≤ i = grind (arith, nat_tests) in let more : k + 1 ≤ i = above k i le ne in
            upto_todo (k + 1) done todo i more ∙ sym (upto_todo k done todo i le)
      ]))
    where
      above : (a b : ℕ) → a ≤ b → (b ≡ a → ⊥) → a + 1 ≤ b
      above a b le ne = elim (cases_Bool (nat_lt a b)) [
        | inl t ↦ (let lt : a < b = grind (arith, nat_tests) in omega arith)
        | inr f ↦ absurd (ne (let g : b ≤ a = grind (arith, nat_tests) in omega arith))
      ]

  -- one is passed over
  pub upto_same : done k ≡ todo k → (i : ℕ) → upto k done todo i ≡ upto (k + 1) done todo i
  upto_same is i = elim (cases_Bool (nat_lt i k)) [
    | inl t ↦ let lt : i < k = grind (arith, nat_tests) in upto_done k done todo i lt
        ∙ sym (upto_done (k + 1) done todo i (omega arith))
    | inr f ↦ elim (cases_Bool (i == k)) [
      | inl e ↦
          let same = eqb-true i k e in
          upto_todo k done todo i (omega arith)
          ∙ (ap todo same ∙ (sym is ∙ (ap done (sym same) ∙ sym (upto_done (k + 1) done todo i (omega arith)))))
      | inr n ↦ upto_todo k done todo i (grind (arith, nat_tests))
          ∙ sym (upto_todo (k + 1) done todo i (grind (arith, nat_tests)))
    ]
  ]

-- ---- every tenth number
-- there is one more tenth zone up to a tenth zone
pub tenth_next : (k : ℕ) → 0 < k → is_tenth k ≡ true → k / 10 ≡ (k - 1) / 10 + 1
tenth_next k some t = let z : k % 10 ≡ 0 = eqb-true (k % 10) 0 t in omega (arith, z)

-- there are as many up to another
pub other_next : (k : ℕ) → 0 < k → is_tenth k ≡ false → k / 10 ≡ (k - 1) / 10
other_next k some f = let z : 0 < k % 10 = grind (arith, nat_tests) in omega (arith, z)

-- a zone that changes is not the first, and no tenth one
pub record Changes (k : ℕ) : Type 0 where
  pub tenth : is_tenth k ≡ false
  pub two : 1 < k
  pub other : (k == 1) ≡ false

pub changes_what : (k : ℕ) → is_changed k ≡ true → Changes k
changes_what k c = elim (cases_Bool (is_tenth k)) [
  | inl t ↦ absurd (let e : (nat_lt 1 k && not true) ≡ true = rw t at c in never (nat_lt 1 k) e)
  | inr f ↦
      let e : (nat_lt 1 k && not false) ≡ true = rw f at c in
      let two : 1 < k = grind (arith, nat_tests) in
      record { tenth = f; two = two; other = grind (arith, nat_tests) }
]
  where
    never : (b : Bool) → (b && false) ≡ true → ⊥
    never true e = cc
    never false e = cc

-- the ticket of zone k's change, by how many zones change before it
pub changed_ticket : (n k : ℕ) → 0 < k → is_changed k ≡ true
    → n + n / 10 + 3 + ((k - 2) - (k - 1) / 10) + 1 ≡ n + n / 10 + 2 + (k - k / 10)
changed_ticket n k some c =
    let changes = changes_what k c in
    omega (arith, other_next k some changes.tenth, changes.two)
