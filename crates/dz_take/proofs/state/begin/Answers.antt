use Rattle.std.proofs.Common.{◌<◌, sym, ◌∙◌, ap, arith, length, Some}
use Rattle.std.proofs.lemmas.Bool.{eqb-true}
use Rattle.std.specs.Vec.{vec_len}
use Rattle.dz_take.proofs.KindLemmas.{form_none, begin_other, begin_settled}
use Rattle.dz_take.proofs.state.begin.Goals as goal

pub returns-then-is_empty : goal.returns-then-is_empty
returns-then-is_empty c =
    let e = eqb-true (vec_len c.args.records) 0 (sym c.if-is_empty.ensures) in
    form_none _ _ (omega (arith, c.args.records.ok.0, e)) ∙ ap Some (sym c.not_soa_first.ensures)

pub returns-in-None : goal.returns-in-None
returns-in-None c =
    let some : 0 < length c.args.records.items = omega (arith, c.remove-first.ensures.len, c.args.records.ok.0) in
    begin_other c.args.transfer.now c.args.records.items _ c.remove-first.result some c.remove-first.ensures.value
    c.remove-first.ensures.items (rw c.apex.ensures at c.in-None.ensures)
    ∙ ap Some (sym c.not_soa_first-in-None.ensures)

pub returns-in-Some-settled : goal.returns-in-Some-settled
returns-in-Some-settled c =
    let some : 0 < length c.args.records.items = omega (arith, c.remove-first.ensures.len, c.args.records.ok.0) in
    begin_settled c.args.transfer.now c.args.records.items _ c.remove-first.result
    some c.remove-first.ensures.value c.remove-first.ensures.items c.in-Some.serial _
    (rw c.apex.ensures at c.in-Some.ensures) c.in-Some-settled.ensures
