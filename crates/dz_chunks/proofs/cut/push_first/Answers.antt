use Rattle.std.proofs.Common.{◌≤◌, length, sym, ◌∙◌, arith}
use Rattle.dz_chunks.proofs.CutLemmas.{first_chunks, all_full, some_left}
use Rattle.dz_chunks.proofs.cut.push_first.Goals as goal

pub returns-then-is_empty-clause-sized : goal.returns-then-is_empty-clause-sized
returns-then-is_empty-clause-sized g c = all_full c.args.chunks.now.items c.requires.full

pub returns-clause-sized : goal.returns-clause-sized
returns-clause-sized g c =
    let left = some_left _ (sym c.is_empty.ensures ∙ c.if-is_empty.false) in
    let some : 1 ≤ length c.args.first.items = omega (arith, left, c.args.first.ok) in
    first_chunks c.args.first.items c.args.chunks.now.items _
    (rw c.shrink_to_fit.ensures.items at c.in_ok-push_chunk.ensures) some c.requires.few c.requires.full
