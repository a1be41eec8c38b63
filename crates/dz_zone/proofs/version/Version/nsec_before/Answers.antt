use Rattle.std.proofs.Common.{rules, arith, ◌≡◌, ◌<◌, ◌-◌, sym, ap, subst, length, true, false, ℕ, List}
use Rattle.std.specs.Prelude.{nat_lt}
use Rattle.std.specs.List.Sorted.{IsPartitionPoint}
use Rattle.std.proofs.lemmas.Fn.{always_returns_same}
use Rattle.std.proofs.lemmas.List.{get_or_read}
use Rattle.dz_zone.specs.inner.Kept.{AreNsecs}
use Rattle.dz_zone.proofs.NsecLemmas.{none_before, last_before, places_part, point_low, point_high}
use Rattle.dz_zone.proofs.version.Version.nsec_before.Goals as goal

pub returns-then-before-eq0 : goal.returns-then-before-eq0
returns-then-before-eq0 c =
    let records = c.args.self.now.records in
    let nsecs = c.as_slice.result.now in
    let are : AreNsecs c.args.self.now.records c.as_slice.result.now =
    subst (λ (xs : List ℕ). AreNsecs c.args.self.now.records xs) (sym c.as_slice.ensures.value)
    (subst (λ z. AreNsecs z.records c.self.inside.nsecs.items) c.self.view_is c.self.invariant.nsecs_are) in
    let point : IsPartitionPoint (λ n. nat_lt n c.args.place ≡ true)
    (λ n. nat_lt n c.args.place ≡ false) c.as_slice.result.now c.partition_point-before.result =
    c.partition_point-before.ensures.partitioned (λ (n : ℕ). nat_lt n c.args.place)
    (always_returns_same _ _ _ (λ a r f h. search rules)) (places_part records nsecs c.args.place are) in
    none_before records nsecs c.args.place c.partition_point-before.result are c.partition_point-before.ensures.bound
    (point_low nsecs c.args.place c.partition_point-before.result point)
    (point_high nsecs c.args.place c.partition_point-before.result point) c.if-before-eq0.true

pub returns : goal.returns
returns c =
    let records = c.args.self.now.records in
    let nsecs = c.as_slice.result.now in
    let are : AreNsecs c.args.self.now.records c.as_slice.result.now =
    subst (λ (xs : List ℕ). AreNsecs c.args.self.now.records xs) (sym c.as_slice.ensures.value)
    (subst (λ z. AreNsecs z.records c.self.inside.nsecs.items) c.self.view_is c.self.invariant.nsecs_are) in
    let point : IsPartitionPoint (λ n. nat_lt n c.args.place ≡ true)
    (λ n. nat_lt n c.args.place ≡ false) c.as_slice.result.now c.partition_point-before.result =
    c.partition_point-before.ensures.partitioned (λ (n : ℕ). nat_lt n c.args.place)
    (always_returns_same _ _ _ (λ a r f h. search rules)) (places_part records nsecs c.args.place are) in
    let some : 0 < c.partition_point-before.result = omega (arith, c.if-before-eq0.false) in
    let within : c.partition_point-before.result - 1 < length c.self.inside.nsecs.items =
    omega (arith, c.partition_point-before.ensures.bound, ap length c.as_slice.ensures.value, some) in
    last_before records nsecs c.args.place c.partition_point-before.result are c.partition_point-before.ensures.bound
    (point_low nsecs c.args.place c.partition_point-before.result point)
    (point_high nsecs c.args.place c.partition_point-before.result point)
    c.index.result.now some (rw c.as_slice.ensures.value (get_or_read c.self.inside.nsecs.items
    (c.partition_point-before.result - 1) c.index.result.now within c.index.ensures 0))
