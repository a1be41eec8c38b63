use Rattle.std.proofs.Common.{length, sym, ◌∙◌, ap, subst, arith}
use Rattle.std.specs.List.Sorted.{IsStrictlySortedBy}
use Rattle.dz_record.specs.Record.{record_order}
use Rattle.dz_zone.proofs.FlagLemmas.{rises_of}
use Rattle.dz_zone.proofs.MergingLemmas.{some_key, keys_are, room, first_follows, first_overlay, first_whole, passed}
use Rattle.dz_zone.proofs.MergingLemmas.{over_overlay, over_whole, over_room, over_follows, end_whole, end_rises}
use Rattle.dz_zone.proofs.MergingLemmas.{strict_whole}
use Rattle.dz_zone.proofs.merging.merged.Goals as goal

pub put_first-requires-clause-few : goal.put_first-requires-clause-few
put_first-requires-clause-few c =
    let i = c.base.invariant in
    let some =
    some_key c.base.added.keys c.index-records-place.result (sym c.comes_first.ensures ∙ c.if-comes_first.true) in
    let most = room c.args.base.now c.args.flags.now c.args.added.keys c.requires c.base.merging c.base.place
    c.base.added.keys i.made i.overlay i.whole in
    omega (arith, some, most)

pub put_first-requires-clause-after : goal.put_first-requires-clause-after
put_first-requires-clause-after c = λ first rest e.
    let i = c.base.invariant in
    first_follows c.args.base.now c.args.flags.now c.args.added.keys c.requires c.base.merging c.base.place
    c.base.added.keys i.made i.overlay i.whole c.base-test.true
    c.index-records-place.result (rw c.records-records.ensures.records at c.index-records-place.is)
    (sym c.comes_first.ensures ∙ c.if-comes_first.true) first rest e

pub base-preserved-in-Continue-branch-2 : goal.base-preserved-in-Continue-branch-2
base-preserved-in-Continue-branch-2 c =
    let i = c.base.invariant in
    let before = sym c.comes_first.ensures ∙ c.if-comes_first.true in
    let is = rw c.records-records.ensures.records at c.index-records-place.is in
    let k = keys_are c.base.added.keys (some_key c.base.added.keys c.index-records-place.result before) in
    let now = c.in_ok-put_first.ensures.rest k.0 k.1 k.2 in
    record {
      within = i.within;
      made = c.in_ok-put_first.ensures.made;
      overlay = first_overlay c.args.base.now c.args.flags.now c.args.added.keys c.requires c.base.merging c.base.place
          c.base.added.keys i.made i.overlay i.whole c.base-test.true
          c.index-records-place.result is before k.0 k.1 k.2 c.put_first.new.added.keys now;
      whole = first_whole c.args.base.now c.args.flags.now c.args.added.keys c.requires c.base.merging c.base.place
          c.base.added.keys i.made i.overlay i.whole c.base-test.true
          c.index-records-place.result is before k.0 k.1 k.2 c.put_first.new.added.keys c.put_first.new.self.records
          now (c.in_ok-put_first.ensures.first k.0 k.1 k.2);
    }

pub stretch_end-end-requires-clause-rises : goal.stretch_end-end-requires-clause-rises
stretch_end-end-requires-clause-rises c =
    rw c.records-records.ensures.records (rises_of record_order c.args.base.now.records c.requires.valid.rises)

pub take_over-requires-clause-few : goal.take_over-requires-clause-few
take_over-requires-clause-few c =
    let i = c.base.invariant in
    let s = rw c.records-records.ensures.records at c.stretch_end-end.ensures.stretch in
    over_room c.args.base.now c.args.flags.now c.args.added.keys c.requires c.base.merging c.base.place
    c.base.added.keys i.made i.overlay i.whole c.stretch_end-end.result c.stretch_end-end.ensures.some
    (rw c.records-records.ensures.records at c.stretch_end-end.ensures.within) s

pub take_over-requires-clause-after : goal.take_over-requires-clause-after
take_over-requires-clause-after c =
    let i = c.base.invariant in
    let s = rw c.records-records.ensures.records at c.stretch_end-end.ensures.stretch in
    over_follows c.args.base.now c.args.flags.now c.args.added.keys c.requires c.base.merging c.base.place
    c.base.added.keys i.made i.overlay i.whole c.stretch_end-end.result c.stretch_end-end.ensures.some
    (rw c.records-records.ensures.records at c.stretch_end-end.ensures.within) s

pub base-preserved-then-flags-place : goal.base-preserved-then-flags-place
base-preserved-then-flags-place c =
    let i = c.base.invariant in
    let s = rw c.records-records.ensures.records at c.stretch_end-end.ensures.stretch in
    let w = rw c.records-records.ensures.records at c.stretch_end-end.ensures.within in
    record {
      within = let l = c.requires.long in omega (arith, l, w);
      made = c.in_ok-take_over.ensures.made;
      overlay = over_overlay c.args.base.now c.args.flags.now c.args.added.keys c.requires c.base.merging c.base.place
          c.base.added.keys i.made i.overlay i.whole c.stretch_end-end.result c.stretch_end-end.ensures.some w s;
      whole = over_whole c.args.base.now c.args.flags.now c.args.added.keys c.requires c.base.merging c.base.place
          c.base.added.keys i.made i.overlay i.whole c.stretch_end-end.result c.stretch_end-end.ensures.some w s
          c.take_over.new.self.records c.in_ok-take_over.ensures.records;
    }

pub base-preserved : goal.base-preserved
base-preserved c =
    let i = c.base.invariant in
    let p = passed c.args.base.now c.args.flags.now c.args.added.keys c.requires c.base.merging c.base.place
    c.base.added.keys i.made i.overlay i.whole c.base-test.true c.if-flags-place.false in
    record { within = omega (arith, c.base-test.true); made = i.made; overlay = p.0; whole = p.1 }

pub finish-requires-clause-few : goal.finish-requires-clause-few
finish-requires-clause-few c =
    let i = c.base.invariant in
    room c.args.base.now c.args.flags.now c.args.added.keys c.requires c.base.merging c.base.place c.base.added.keys
    i.made i.overlay i.whole

pub finish-requires-clause-rises : goal.finish-requires-clause-rises
finish-requires-clause-rises c =
    let i = c.base.invariant in
    end_rises c.args.base.now c.args.flags.now c.args.added.keys c.requires c.base.merging c.base.place
    c.base.added.keys i.made i.overlay i.whole (omega (arith, c.base-test.false))

pub base-smaller-in-Continue-branch-2 : goal.base-smaller-in-Continue-branch-2
base-smaller-in-Continue-branch-2 c =
    let k = keys_are c.base.added.keys (some_key c.base.added.keys c.index-records-place.result
    (sym c.comes_first.ensures ∙ c.if-comes_first.true)) in
    let now = ap length (c.in_ok-put_first.ensures.rest k.0 k.1 k.2) in
    let before = ap length k.2 in
    omega (arith, now, before)

pub returns-clause-records : goal.returns-clause-records
returns-clause-records c =
    let i = c.base.invariant in
    c.in_ok-records.ensures.records ∙ end_whole c.args.base.now c.args.flags.now c.args.added.keys c.requires
    c.base.merging c.base.place c.base.added.keys i.made i.overlay i.whole (omega (arith, c.base-test.false))

pub returns-clause-risen : goal.returns-clause-risen
returns-clause-risen c =
    let i = c.base.invariant in
    let all = c.in_ok-records.ensures.records ∙ end_whole c.args.base.now c.args.flags.now c.args.added.keys c.requires
    c.base.merging c.base.place c.base.added.keys i.made i.overlay i.whole (omega (arith, c.base-test.false)) in
    record {
      rises = subst (IsStrictlySortedBy record_order) (sym all)
          (strict_whole c.args.base.now c.args.flags.now c.args.added.keys c.requires);
      indexed = c.in_ok-records.ensures.index;
    }
