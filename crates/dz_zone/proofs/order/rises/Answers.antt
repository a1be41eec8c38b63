use Rattle.std.proofs.Common.{rules}
use Rattle.std.proofs.lemmas.List.Sorted.{answers_always}
use Rattle.dz_zone.proofs.RecordLemmas.{is_before, rise_walk}
use Rattle.dz_zone.proofs.order.rises.Goals as goal

pub returns : goal.returns
returns c =
    rise_walk c.args.records.now _
    (c.is_sorted_by.ensures.cases is_before (answers_always _ _ _ (λ f a r g h. search rules)))
