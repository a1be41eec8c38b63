use Rattle.std.proofs.Common.{rules, arith, ◌≡◌, ◌<◌, ◌∙◌, sym, ap, subst, ℕ, List, true, false, length, get_or}
use Rattle.std.specs.Prelude.{nat_lt, slice_index}
use Rattle.std.specs.List.Sorted.{IsPartitionPoint}
use Rattle.std.proofs.lemmas.Fn.{always_returns_same}
use Rattle.dz_index.specs.Rows.{Rows}
use Rattle.dz_index.proofs.PlacesLemmas.{AreGrowing, kept_growing, parted, point_before, point_behind}
use Rattle.dz_index.proofs.index.Index.firsts_before.Goals as goal

pub returns-clause-before : goal.returns-clause-before
returns-clause-before c =
    let same = c.as_slice.ensures.value in
    let rise : AreGrowing c.as_slice.result.now = subst (λ (xs : List ℕ). AreGrowing xs) (sym same)
    (kept_growing (record { keys = c.self.inside.keys; firsts = c.self.inside.firsts.items }) c.self.invariant) in
    let point : IsPartitionPoint (λ n. nat_lt n c.args.place ≡ true)
    (λ n. nat_lt n c.args.place ≡ false) c.as_slice.result.now c.partition_point.result =
    c.partition_point.ensures.partitioned (λ (n : ℕ). nat_lt n c.args.place)
    (always_returns_same _ _ _ (λ a r f h. search rules)) (parted c.as_slice.result.now c.args.place rise) in
    λ i h. subst (λ (r : Rows). slice_index r.firsts i < c.args.place) c.self.view_is
    (subst (λ (xs : List ℕ). get_or xs i 0 < c.args.place) same
    (point_before c.as_slice.result.now c.args.place c.partition_point.result point i h))

pub returns-clause-behind : goal.returns-clause-behind
returns-clause-behind c =
    let same = c.as_slice.ensures.value in
    let rise : AreGrowing c.as_slice.result.now = subst (λ (xs : List ℕ). AreGrowing xs) (sym same)
    (kept_growing (record { keys = c.self.inside.keys; firsts = c.self.inside.firsts.items }) c.self.invariant) in
    let point : IsPartitionPoint (λ n. nat_lt n c.args.place ≡ true)
    (λ n. nat_lt n c.args.place ≡ false) c.as_slice.result.now c.partition_point.result =
    c.partition_point.ensures.partitioned (λ (n : ℕ). nat_lt n c.args.place)
    (always_returns_same _ _ _ (λ a r f h. search rules)) (parted c.as_slice.result.now c.args.place rise) in
    λ i h k.
    rw (sym (ap (λ (r : Rows). get_or r.firsts i 0) c.self.view_is) ∙ ap (λ (xs : List ℕ). get_or xs i 0) (sym same))
    (point_behind c.as_slice.result.now c.args.place c.partition_point.result point i h
    (omega (arith, ap length same, ap (λ (r : Rows). length r.keys) c.self.view_is, c.self.invariant.long)))
