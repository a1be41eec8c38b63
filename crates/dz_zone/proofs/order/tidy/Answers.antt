use Rattle.std.proofs.Common.{◌∙◌, rules}
use Rattle.std.proofs.lemmas.Fn.{dedup_same}
use Rattle.std.proofs.lemmas.List.Sorted.{answers_always}
use Rattle.std.proofs.lemmas.List.Kept.{IsStrictlySortedBy-dedup}
use Rattle.dz_record.specs.Record.{same_record}
use Rattle.dz_record.specs.Order.{record_total, same_ties}
use Rattle.dz_zone.proofs.RecordLemmas.{before_is, rising_canonical, sorted_canonical}
use Rattle.dz_zone.proofs.order.tidy.Goals as goal

pub returns-then-rises : goal.returns-then-rises
returns-then-rises c =
    let up = rw c.deref.ensures.value at (c.rises.ensures.0 c.if-rises.true) in
    record { rises = up; value = rising_canonical _ up }

pub returns-in-Ok : goal.returns-in-Ok
returns-in-Ok c =
    let kept = dedup_same _ same_record _ (λ x y b f' x' y' k. search rules) _ _ c.dedup_by.ensures.filtered in
    let up = c.in-Ok.ensures.sorted _ before_is (answers_always _ _ _ (λ f a r g h. search rules)) in
    let stable = c.sort_by.ensures.stable _ before_is (answers_always _ _ _ (λ f a r g h. search rules)) in
    record {
      rises = rw kept (IsStrictlySortedBy-dedup record_total same_ties _ up);
      value = kept ∙ sorted_canonical _ _ up stable;
    }
