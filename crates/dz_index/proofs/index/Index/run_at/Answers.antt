use Rattle.std.proofs.Common.{arith, ◌+◌, ◌<◌, ◌≤◌, length, slice_index}
use Rattle.dz_index.specs.Rows.{count}
use Rattle.dz_index.proofs.SearchLemmas.{run_is}
use Rattle.dz_index.proofs.index.Index.run_at.Goals as goal

pub returns-clause-run : goal.returns-clause-run
returns-clause-run c = λ owners index.
    let within : c.args.number < count c.args.self.now = omega (arith, c.if-len-number.false, c.len.ensures.count) in
    let ends : slice_index c.args.self.now.firsts (c.args.number + 1) ≤ length owners =
    omega (arith, c.end.ensures.end, c.end.ensures.within, index.total_is) in
    rw (c.first.ensures.first, c.end.ensures.end) (run_is owners c.args.self.now c.args.number index within ends)
