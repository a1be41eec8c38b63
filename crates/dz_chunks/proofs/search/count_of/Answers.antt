use Rattle.std.proofs.Common.{arith, sym, ◌∙◌, ◌-◌, ◌+◌, ◌≡◌, true, false}
use Rattle.dz_chunks.proofs.SearchLemmas.{halved, doubled, before_more, behind_more}
use Rattle.dz_chunks.proofs.search.count_of.Goals as goal

pub search-preserved-then-ask : goal.search-preserved-then-ask
search-preserved-then-ask g c =
    let taken = c.search.steps - c.args.steps.now in
    let one : c.ask.new.steps - c.args.steps.now ≡ taken + 1 =
    omega (arith, c.ask.ensures.counted, c.search.invariant.counted) in
    record {
      order = omega (arith, c.search-test.true);
      within = c.search.invariant.within;
      counted = omega (arith, c.ask.ensures.counted, c.search.invariant.counted);
      half = halved taken _ (c.search.high - c.search.low) _ _ one c.search.invariant.half
          (omega (arith, c.search-test.true));
      cost = doubled taken _ (c.search.high - c.search.low) _ one c.search.invariant.half
          (omega (arith, c.search-test.true));
      before = λ parted i d low h.
          before_more (g.Q.Question.holds c.args.question.now) c.args.items.now parted _ _ c.index-items-middle.is
          (omega (arith, c.search.invariant.within, c.search-test.true))
          (sym c.ask.ensures.value ∙ c.if-ask.true) i d h;
      behind = c.search.invariant.behind;
    }

pub search-preserved : goal.search-preserved
search-preserved g c =
    let taken = c.search.steps - c.args.steps.now in
    let one : c.ask.new.steps - c.args.steps.now ≡ taken + 1 =
    omega (arith, c.ask.ensures.counted, c.search.invariant.counted) in
    record {
      order = omega (arith, c.search-test.true);
      within = omega (arith, c.search.invariant.within, c.search-test.true);
      counted = omega (arith, c.ask.ensures.counted, c.search.invariant.counted);
      half = halved taken _ (c.search.high - c.search.low) _ _ one c.search.invariant.half
          (omega (arith, c.search-test.true));
      cost = doubled taken _ (c.search.high - c.search.low) _ one c.search.invariant.half
          (omega (arith, c.search-test.true));
      before = c.search.invariant.before;
      behind = λ parted i d low h. behind_more (g.Q.Question.holds c.args.question.now) c.args.items.now
          parted _ _ c.index-items-middle.is (omega (arith, c.search.invariant.within, c.search-test.true))
          (sym c.ask.ensures.value ∙ c.if-ask.false) i d low h;
    }
