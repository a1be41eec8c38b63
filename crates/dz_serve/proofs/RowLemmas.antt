-- Devices that came back unused.
use Rattle.std.proofs.Common.{◌≡◌, ℕ, ◌+◌, ◌-◌, List, [], ◌∷◌, ◌++◌, Option, None, Some, refl, sym, ap, ◌∙◌, arith}
use Rattle.std.proofs.Common.{append_assoc}
use Rattle.std.proofs.lemmas.List.{append-nil}
use Rattle.std.specs.Option.{option_map}
use Rattle.dz_io.specs.Ports.{Row, opening, closing}
use Rattle.dz_serve.specs.Rows.{both_back, IsUnused}

map_none : {A : Type 0} (o : Option (List A)) → o ≡ option_map (λ held. held ++ []) o
map_none None = refl
map_none (Some xs) = ap Some (sym (append-nil xs))

map_two : {A : Type 0} (o : Option (List A)) (x y : A)
    → option_map (λ held. held ++ y ∷ []) (option_map (λ held. held ++ x ∷ []) o)
    ≡ option_map (λ held. held ++ (x ∷ y ∷ [])) o
map_two None x y = refl
map_two (Some xs) x y = ap Some (append_assoc xs (x ∷ []) (y ∷ []))

abbrev row_with : {P T : Type 0} → Option (List P) → ℕ → Option (List T) → Row P T
row_with opened out back = record { opened = opened; out = out; back = back }

row_of : {P T : Type 0} (opened o : Option (List P)) (out n : ℕ) (back b : Option (List T)) → opened ≡ o
    → out ≡ n → back ≡ b
    → row_with opened out back ≡ row_with o n b
row_of opened o out n back b p q r = rw (p, q, r) refl

back_to : (n : ℕ) → n + 1 - 1 ≡ n
back_to n = omega arith

back_by_two : (n : ℕ) → n + 1 + 1 - 1 - 1 ≡ n
back_by_two n = omega arith

-- none was opened
pub unused_none : {P T : Type 0} (F : T → Type 0) (row after : Row P T) → after ≡ row → IsUnused F row after
unfolding IsUnused
unused_none F row after h =
    ([], [], tt, h ∙ row_of row.opened _ row.out row.out row.back _ (map_none row.opened) refl (map_none row.back))

-- one was opened, and closed
pub unused_one : {P T : Type 0} (F : T → Type 0) (p : P) (t : T) (row after : Row P T) → F t
    → after ≡ closing t (opening p row) → IsUnused F row after
unfolding IsUnused
unused_one F p t row after f h = (p ∷ [], t ∷ [], (f, tt), h ∙ row_of _ _ _ row.out _ _ refl (back_to row.out) refl)

-- two were opened, and closed
pub unused_two : {P T : Type 0} (F : T → Type 0) (p q : P) (t u : T) (row after : Row P T) → F t → F u
    → after ≡ both_back t u (opening q (opening p row)) → IsUnused F row after
unfolding IsUnused
unused_two F p q t u row after f g h = (
  p ∷ q ∷ [],
  t ∷ u ∷ [],
  (f, (g, tt)),
  h ∙ row_of _ _ _ row.out _ _ (map_two row.opened p q) (back_by_two row.out) (map_two row.back t u),
)
