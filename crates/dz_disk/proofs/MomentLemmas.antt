-- How what crashes leave goes on from call to call.
use Rattle.std.proofs.Common.{◌≡◌, inl, inr, ⊎_elim, ℕ, List, Option, ◌∙◌, arith}
use Rattle.dz_disk.specs.Disk.{Passes, Leaves, IsQuiet}

module _ {D : Type 0} (clock : D → ℕ) (left_from : D → ℕ → List ℕ → Type 0) where
  pub no_call : (d : D) (P : List ℕ → Type 0) → ((c : List ℕ) → left_from d (clock d) c → P c)
      → Leaves clock left_from d d P
  no_call d P now = record { later = omega arith; each = now; longer = λ t c le left. inl left }

  pub one_call : (old new : D) (P may_leave : List ℕ → Type 0) → ((c : List ℕ) → left_from old (clock old) c → P c)
      → Passes (clock old) (clock new) (left_from old) (left_from new) may_leave
      → ((c : List ℕ) → may_leave c → P c) → Leaves clock left_from old new P
  one_call old new P may_leave before time now = record {
    later = time.later;
    each = λ c left. ⊎_elim (before c) (now c) (time.only (clock old) c (omega arith) left);
    longer = λ t c le left. ⊎_elim (λ was. inl was) (λ may. inr (now c may)) (time.only t c le left);
  }

  pub both_calls : (a b d : D) (P : List ℕ → Type 0) → Leaves clock left_from a b P → Leaves clock left_from b d P
      → Leaves clock left_from a d P
  both_calls a b d P first second = record {
    later = omega (arith, first.later, second.later);
    each = λ c left. ⊎_elim (first.each c) (λ p. p) (second.longer (clock a) c first.later left);
    longer = λ t c le left. ⊎_elim (first.longer t c le)
        (λ p. inr p) (second.longer t c (omega (arith, le, first.later)) left);
  }

  pub wider : (a b : D) (P Q : List ℕ → Type 0) → ((c : List ℕ) → P c → Q c) → Leaves clock left_from a b P
      → Leaves clock left_from a b Q
  wider a b P Q more leaves = record {
    later = leaves.later;
    each = λ c left. more c (leaves.each c left);
    longer = λ t c le left. ⊎_elim (λ was. inl was) (λ p. inr (more c p)) (leaves.longer t c le left);
  }

module _ {D : Type 0} (file : D → Option (List ℕ)) (may_leave : D → List ℕ → Type 0) (clock : D → ℕ)
    (left_from : D → ℕ → List ℕ → Type 0) where
  pub quiet_none : (d : D) → ((c : List ℕ) → left_from d (clock d) c → may_leave d c)
      → IsQuiet file may_leave clock left_from d d
  quiet_none d now =
      record { same = λ i. file d; crash = λ c left. left; leaves = no_call clock left_from d (may_leave d) now }

  pub quiet_one : (a b : D) → ((c : List ℕ) → left_from a (clock a) c → may_leave a c) → file b ≡ file a
      → ((c : List ℕ) → may_leave b c → may_leave a c)
      → Passes (clock a) (clock b) (left_from a) (left_from b) (may_leave b)
      → IsQuiet file may_leave clock left_from a b
  quiet_one a b now same crash time = record {
    same = same;
    crash = crash;
    leaves = one_call clock left_from a b (may_leave a) (may_leave b) now time crash;
  }

  pub quiet_both : (a b d : D) → IsQuiet file may_leave clock left_from a b
      → IsQuiet file may_leave clock left_from b d → IsQuiet file may_leave clock left_from a d
  quiet_both a b d first second = record {
    same = second.same ∙ first.same;
    crash = λ c left. first.crash c (second.crash c left);
    leaves = both_calls clock left_from a b d (may_leave a) first.leaves
        (wider clock left_from b d (may_leave b) (may_leave a) first.crash second.leaves);
  }
