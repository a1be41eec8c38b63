use Rattle.std.proofs.Common.{arith, vec_len}
use Rattle.dz_produce.proofs.MakingLemmas.{empty_of, before_drop, dropped_sound, dropped_good}
use Rattle.dz_produce.proofs.making.Making.drop_label.Goals as goal

pub drop_label-requires-clause-newer : goal.drop_label-requires-clause-newer
drop_label-requires-clause-newer c =
    let sound = rw c.in-Some.is at c.self.invariant.sound in
    let none = empty_of c.self.inside.added.items (vec_len c.self.inside.added) c.is_empty.result
    (omega (arith, c.self.inside.added.ok.0)) c.is_empty.ensures c.if-not-is_empty.false in
    (before_drop c.self.inside.apex c.self.inside.serial c.in-Some.change c.in-Some.change c.self.inside.added.items
    c.args.label sound none).0

pub drop_label-requires-clause-labels : goal.drop_label-requires-clause-labels
drop_label-requires-clause-labels c =
    let sound = rw c.in-Some.is at c.self.invariant.sound in
    let none = empty_of c.self.inside.added.items (vec_len c.self.inside.added) c.is_empty.result
    (omega (arith, c.self.inside.added.ok.0)) c.is_empty.ensures c.if-not-is_empty.false in
    (before_drop c.self.inside.apex c.self.inside.serial c.in-Some.change c.in-Some.change c.self.inside.added.items
    c.args.label sound none).1.0

pub invariant_of-self-2 : goal.invariant_of-self-2
invariant_of-self-2 c =
    let sound = rw c.in-Some.is at c.self.invariant.sound in
    let none = empty_of c.self.inside.added.items (vec_len c.self.inside.added) c.is_empty.result
    (omega (arith, c.self.inside.added.ok.0)) c.is_empty.ensures c.if-not-is_empty.false in
    let told = c.drop_label.ensures in
    record {
      sound = dropped_sound c.self.inside.apex c.self.inside.serial c.in-Some.change c.drop_label.new.self
          c.self.inside.added.items c.args.label sound none c.drop_label.result told.good told.new told.kept;
      drafted = λ x e. absurd (cc);
    }

pub returns-clause-good : goal.returns-clause-good
returns-clause-good c =
    let sound = rw c.in-Some.is at c.self.invariant.sound in
    let none = empty_of c.self.inside.added.items (vec_len c.self.inside.added) c.is_empty.result
    (omega (arith, c.self.inside.added.ok.0)) c.is_empty.ensures c.if-not-is_empty.false in
    let good = dropped_good c.self.inside.apex c.self.inside.serial c.in-Some.change c.drop_label.new.self
    c.self.inside.added.items c.args.label sound none c.drop_label.result c.drop_label.ensures.good in
    rw (← c.self.view_is, c.in-Some.is) good
