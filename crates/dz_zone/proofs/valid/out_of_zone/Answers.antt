use Rattle.std.proofs.Common.{◌<◌, length, sym, ◌∙◌}
use Rattle.dz_zone.proofs.EndLemmas.{ends_tell, one_outside, some_there}
use Rattle.dz_zone.proofs.valid.out_of_zone.Goals.{then-is_within, else-is_within}
use Rattle.dz_zone.proofs.valid.out_of_zone.Goals as goal

pub returns : goal.returns
returns c =
    let apex = c.args.apex.now in
    let rs = c.args.records.now in
    let some : 0 < length rs = some_there (length rs) c.if-is_empty.ensures in
    elim c.if-is_within.branch [
      | then-is_within w ↦
          rw w.result-is
          (ends_tell apex rs c.index-records-0.result w.index-records-records.result w.is_within-then-is_within.result
          c.requires some c.index-records-0.is w.index-records-records.is
          (sym c.is_within.ensures ∙ w.if-is_within.true) w.is_within-then-is_within.ensures)
      | else-is_within w ↦ rw (w.result-is, w.if-is_within.false) (sym (one_outside apex rs 0 c.index-records-0.result
          some c.index-records-0.is (sym c.is_within.ensures ∙ w.if-is_within.false)))
    ]
