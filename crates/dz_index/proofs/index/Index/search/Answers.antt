use Rattle.std.proofs.Common.{arith, ap, ◌∙◌, ◌-◌, ◌+◌, ◌≡◌, ◌/◌, ◌<◌, true, false}
use Rattle.std.specs.Ordering.{is_lt}
use Rattle.dz_index.specs.Rows.{Rows, count, key_at, compared}
use Rattle.dz_index.proofs.SearchLemmas.{halved, doubled, told, before_more, behind_more}
use Rattle.dz_index.proofs.index.Index.search.Goals as goal

pub search-preserved-then-is_lt : goal.search-preserved-then-is_lt
search-preserved-then-is_lt g c =
    let middle = c.search.low + (c.search.high - c.search.low) / 2 in
    let taken = c.search.steps - c.args.steps.now in
    let one : c.compare.new.steps - c.args.steps.now ≡ taken + 1 =
    omega (arith, c.compare.ensures.counted, c.search.invariant.counted) in
    let lower : is_lt (compared (key_at c.args.self.now middle) c.args.key.now) ≡ true =
    told _ _ _ _ (c.compare.ensures.value ∙ ap
    (λ (r : Rows). compared (key_at r middle) c.args.key.now) c.self.view_is) c.is_lt.ensures c.if-is_lt.true in
    let within : middle < count c.args.self.now = omega (arith, c.search.invariant.within, c.search-test.true) in
    record {
      order = omega (arith, c.search-test.true);
      within = c.search.invariant.within;
      counted = omega (arith, c.compare.ensures.counted, c.search.invariant.counted);
      half = halved taken _ (c.search.high - c.search.low) _ _ one c.search.invariant.half
          (omega (arith, c.search-test.true));
      cost = doubled taken _ (c.search.high - c.search.low) _ one c.search.invariant.half
          (omega (arith, c.search-test.true));
      before = λ rise i h. before_more c.args.self.now c.args.key.now middle rise within lower i h;
      behind = c.search.invariant.behind;
    }

pub search-preserved : goal.search-preserved
search-preserved g c =
    let middle = c.search.low + (c.search.high - c.search.low) / 2 in
    let taken = c.search.steps - c.args.steps.now in
    let one : c.compare.new.steps - c.args.steps.now ≡ taken + 1 =
    omega (arith, c.compare.ensures.counted, c.search.invariant.counted) in
    let upper : is_lt (compared (key_at c.args.self.now middle) c.args.key.now) ≡ false =
    told _ _ _ _ (c.compare.ensures.value ∙ ap
    (λ (r : Rows). compared (key_at r middle) c.args.key.now) c.self.view_is) c.is_lt.ensures c.if-is_lt.false in
    record {
      order = omega (arith, c.search-test.true);
      within = omega (arith, c.search.invariant.within, c.search-test.true);
      counted = omega (arith, c.compare.ensures.counted, c.search.invariant.counted);
      half = halved taken _ (c.search.high - c.search.low) _ _ one c.search.invariant.half
          (omega (arith, c.search-test.true));
      cost = doubled taken _ (c.search.high - c.search.low) _ one c.search.invariant.half
          (omega (arith, c.search-test.true));
      before = c.search.invariant.before;
      behind = λ rise i h k. behind_more c.args.self.now c.args.key.now middle rise upper i h k;
    }
