-- How what crashes leave goes on from call to call.
use Rattle.std.proofs.Common.{ℕ, List, arith, inl, inr, ⊎_elim}
use Rattle.dz_disk.specs.Disk.{Leaves}

module _ {D : Type 0} (clock : D → ℕ) (left_from : D → ℕ → List ℕ → Type 0) where
  pub no_call : (d : D) (P : List ℕ → Type 0) → ((c : List ℕ) → left_from d (clock d) c → P c)
      → Leaves clock left_from d d P
  no_call d P now = record { later = omega arith; each = now; longer = λ t c le left. inl left }

  pub both_calls : (a b d : D) (P : List ℕ → Type 0) → Leaves clock left_from a b P → Leaves clock left_from b d P
      → Leaves clock left_from a d P
  both_calls a b d P first second = record {
    later = omega (arith, first.later, second.later);
    each = λ c left. ⊎_elim (first.each c) (λ p. p) (second.longer (clock a) c first.later left);
    longer = λ t c le left. ⊎_elim (first.longer t c le)
        (λ p. inr p) (second.longer t c (omega (arith, le, first.later)) left);
  }

  pub wider : (a b : D) (P Q : List ℕ → Type 0) → ((c : List ℕ) → P c → Q c) → Leaves clock left_from a b P
      → Leaves clock left_from a b Q
  wider a b P Q more leaves = record {
    later = leaves.later;
    each = λ c left. more c (leaves.each c left);
    longer = λ t c le left. ⊎_elim (λ was. inl was) (λ p. inr (more c p)) (leaves.longer t c le left);
  }
