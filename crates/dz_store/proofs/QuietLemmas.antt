-- Calls that read alone, one after another, and where no call is made.
use Rattle.std.proofs.Common.{◌≡◌, ℕ, List, Option, inl, inr, ⊎_elim, sym, subst, ◌∙◌, arith}
use Rattle.dz_disk.specs.Disk.{IsQuiet, IsSure, Leaves}
use Rattle.dz_disk.specs.RecordLog.{IsAtRest, IsLeft, shut}

pub quiet_both : {D : Type 0} (file : D → Option (List ℕ)) (may_leave : D → List ℕ → Type 0) (clock : D → ℕ)
    (left_from : D → ℕ → List ℕ → Type 0) (a b d : D)
    → IsQuiet file may_leave clock left_from a b → IsQuiet file may_leave clock left_from b d
    → IsQuiet file may_leave clock left_from a d
quiet_both file may_leave clock left_from a b d first second = record {
  same = second.same ∙ first.same;
  crash = λ c left. first.crash c (second.crash c left);
  leaves = record {
    later = omega (arith, first.leaves.later, second.leaves.later);
    each = λ c left. ⊎_elim (first.leaves.each c) (first.crash c)
        (second.leaves.longer (clock a) c first.leaves.later left);
    longer = λ t c le left. ⊎_elim (first.leaves.longer t c le) (λ may. inr (first.crash c may))
        (second.leaves.longer t c (omega (arith, le, first.leaves.later)) left);
  };
}

-- no call is made of a disk that is at rest
pub idle : {D : Type 0} (clock : D → ℕ) (left_from : D → ℕ → List ℕ → Type 0) (may_leave : List ℕ → Type 0) (d : D)
    (list : List (List ℕ)) (last file : List ℕ) → IsAtRest list file → IsSure file may_leave
    → ((c : List ℕ) → left_from d (clock d) c → may_leave c) → Leaves clock left_from d d (IsLeft list last)
idle clock left_from may_leave d list last file rest sure alone = record {
  later = omega arith;
  each = λ c left. subst (λ l. IsLeft list last l) (sym (sure c (alone c left))) (shut rest.junk rest.are);
  longer = λ t c le left. inl left;
}
