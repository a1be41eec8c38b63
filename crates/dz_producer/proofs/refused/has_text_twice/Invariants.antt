use Rattle.std.proofs.Common.{take, List, ℕ}
use Rattle.std.specs.Borrow.{Bor}
use Rattle.std.specs.BTreeSet.{contains}
use Rattle.std.specs.Cmp.Lexicographic.{slice_cmp}
use Rattle.std.specs.Ordering.{nat_cmp}
use Rattle.dz_producer.proofs.TwiceLemmas.{IsSeen}
use Rattle.dz_producer.proofs.refused.has_text_twice.Given as goal

abbrev pub invariant-texts : goal.invariant-texts
invariant-texts l = IsSeen (slice_cmp nat_cmp) (λ (q : Bor (List ℕ)). q.now) (λ (x : List ℕ). x)
    (contains (λ (a b : Bor (List ℕ)). slice_cmp nat_cmp a.now b.now) l.seen) (take l.text-index l.texts)
