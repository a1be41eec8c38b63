use Rattle.std.proofs.Common.{sym, ◌∙◌}
use Rattle.dz_message.proofs.PieceLemmas.{goes_in, goes_behind, if_ok}
use Rattle.dz_message.proofs.packed.put.Goals as goal

pub returns-then-add : goal.returns-then-add
returns-then-add c = λ questions current holds.
    let next = c.add.ensures.holds c.args.id questions current holds in
    goes_in c.args.piece c.add.new.self c.args.buffer.now c.add.new.out c.args.out.now.items c.args.id questions
    current c.args.rr.now holds (sym c.add.ensures.room ∙ c.if-add.true) (rw c.if-add.true at next)

pub returns : goal.returns
returns c = if_ok c.begin_with.result c.begin_with.ensures
    (λ next begun questions current holds.
    let same = c.add.ensures.holds c.args.id questions current holds in
    let kept = rw c.if-add.false at same in
    goes_behind c.args.piece next c.args.buffer.now c.begin_with.new.buffer c.args.out.now.items c.end.new.out.items
    c.args.id questions current c.args.rr.now holds (sym c.add.ensures.room ∙ c.if-add.false) begun
    (c.in_ok-end.ensures c.args.id questions current kept))
