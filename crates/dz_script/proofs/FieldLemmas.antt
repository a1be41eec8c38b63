-- Fields, one after another.
use Rattle.std.proofs.Common.{inl, inr, ◌≡◌, ℕ, ◌≤◌, Bool, true, false, List, [], ◌∷◌, length, refl, ◌∙◌, ap, arith}
use Rattle.std.proofs.Common.{Option, Some, None}
use Rattle.std.specs.Prelude.{◌==◌, nat_lt, option_map, is_some, not, IsTrue}
use Rattle.std.specs.List.{slice_split, onto_first, position_or_len, before_first, after_first}
use Rattle.std.proofs.lemmas.Bool.{cases_Bool, cases_lt}
use Rattle.std.proofs.lemmas.Bool.Decides.{nat_tests}
use Rattle.std.proofs.lemmas.List.Splits.{slice_split_first, slice_split-cons_no, length-slice_split}
use Rattle.dz_settings.specs.Peer.{cut}
use Rattle.dz_script.specs.Fields.{parts_of}
use Rattle.dz_script.specs.inner.Left.{parts_left}

-- without a separator there is one field
none_first : (p : ℕ → Bool) (xs : List ℕ) → length xs ≤ position_or_len p xs → slice_split p xs ≡ xs ∷ []
none_first p [] h = refl
none_first p (x ∷ xs) h = elim (cases_Bool (p x)) [
  | inl t ↦ let h2 = rw t at h in absurd (omega (arith, h2))
  | inr f ↦ let h2 = rw f at h in
      slice_split-cons_no p x xs f ∙ ap (onto_first x) (none_first p xs (omega (arith, h2)))
]

pub cut_none : (octet : ℕ) (text : List ℕ) → cut octet text ≡ None → parts_of octet text ≡ text ∷ []
cut_none octet text is =
    let p : ℕ → Bool = λ x. x == octet in
    elim (cases_lt (position_or_len p text) (length text)) [
      | inl w ↦ let t : nat_lt (position_or_len p text) (length text) ≡ true = grind (arith, nat_tests) in
          let h = rw t at is in absurd (cc)
      | inr w ↦ none_first p text w
    ]

pub cut_some : (octet : ℕ) (text first rest : List ℕ) → cut octet text ≡ Some (first, rest)
    → parts_of octet text ≡ first ∷ parts_of octet rest
cut_some octet text first rest is =
    let p : ℕ → Bool = λ x. x == octet in
    elim (cases_lt (position_or_len p text) (length text)) [
      | inl w ↦
          let t : nat_lt (position_or_len p text) (length text) ≡ true = grind (arith, nat_tests) in
          let h = rw t at is in
          let e : ◌≡◌ {A = List ℕ × List ℕ} (before_first p text, after_first p text) (first, rest) = cc in
          let e0 : before_first p text ≡ first = ap (λ x. x.0) e in
          let e1 : after_first p text ≡ rest = ap (λ x. x.1) e in
          slice_split_first p text 0 w
          ∙ (ap (λ xs. xs ∷ slice_split p (after_first p text)) e0 ∙ ap (λ xs. first ∷ slice_split p xs) e1)
      | inr w ↦ let t : nat_lt (position_or_len p text) (length text) ≡ false = grind (arith, nat_tests) in
          let h = rw t at is in absurd (cc)
    ]

-- a text has at least one field
pub some_parts : (octet : ℕ) (text : List ℕ) → parts_of octet text ≡ [] → ⊥
some_parts octet text is = absurd (omega (arith, length-slice_split (λ x. x == octet) text, ap length is))

-- none is left just where no text is
pub left_none : {A : Type 0} (octet : ℕ) (f : A → List ℕ) (o : Option A) (b : Bool) → is_some o ≡ not b
    → (IsTrue b → parts_left octet (option_map f o) ≡ []) × (parts_left octet (option_map f o) ≡ [] → IsTrue b)
left_none octet f None true h = (λ t. refl, λ e. refl)
left_none octet f None false h = absurd (cc)
left_none octet f (Some x) true h = absurd (cc)
left_none octet f (Some x) false h = (λ t. absurd (cc), λ e. absurd (some_parts octet (f x) e))
