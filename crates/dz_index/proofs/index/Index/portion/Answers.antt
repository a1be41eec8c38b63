use Rattle.dz_index.specs.inner.Kept.{IsKept}
use Rattle.dz_index.proofs.PlacesLemmas.{some_before, portion_is}
use Rattle.dz_index.proofs.index.Index.portion.Goals as goal

pub overflow_sub-result : goal.overflow_sub-result
overflow_sub-result c =
    let kept : IsKept c.args.self.now = rw c.self.view_is at c.self.invariant in
    some_before c.args.self.now c.firsts_before.result c.args.begin kept c.firsts_before.ensures.behind

pub returns-clause-portion : goal.returns-clause-portion
returns-clause-portion c =
    let kept : IsKept c.args.self.now = rw c.self.view_is at c.self.invariant in
    portion_is c.args.self.now c.firsts_before.result c.firsts_before-2.result c.args.begin c.args.end kept
    c.requires.some c.requires.within
    c.firsts_before.ensures.before c.firsts_before.ensures.behind c.firsts_before-2.ensures.before
    c.firsts_before-2.ensures.behind
