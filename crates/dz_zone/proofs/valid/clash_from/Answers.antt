use Rattle.std.proofs.Common.{sym, ◌∙◌, not}
use Rattle.dz_zone.specs.Valid.{clash, is_beside_any}
use Rattle.std.proofs.lemmas.Bool.{not_from_false}
use Rattle.dz_zone.proofs.Pairs.{walk_step, walk_end}
use Rattle.dz_zone.proofs.valid.clash_from.Goals as goal

pub returns-then-clash : goal.returns-then-clash
returns-then-clash c =
    let kept = not_from_false (is_beside_any c.record-item.result.kind)
    (rw c.kind.ensures.kind at (sym c.if-is_beside_any.ensures)) in
    let step = walk_step clash
    (λ r. not (is_beside_any r.kind)) c.records.last.now _ _ _ c.records-test.true c.record-item.is kept in
    rw (← c.if-clash.ensures) at (sym step) ∙ c.records.invariant

pub records-preserved : goal.records-preserved
records-preserved c =
    let kept = not_from_false (is_beside_any c.record-item.result.kind)
    (rw c.kind.ensures.kind at (sym c.if-is_beside_any.ensures)) in
    let step = walk_step clash
    (λ r. not (is_beside_any r.kind)) c.records.last.now _ _ _ c.records-test.true c.record-item.is kept in
    rw (← c.if-clash.ensures) at (sym step) ∙ c.records.invariant

pub returns : goal.returns
returns c = sym (walk_end clash (λ r. not (is_beside_any r.kind)) c.records.last.now _ _ c.records-test.false)
    ∙ c.records.invariant
