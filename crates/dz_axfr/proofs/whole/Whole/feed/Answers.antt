use Rattle.dz_axfr.proofs.KeptLemmas.{held_some, held_first, held_on, says_cut, says_misfit}
use Rattle.dz_axfr.proofs.whole.Whole.feed.Goals as goal

pub first_of-requires : goal.first_of-requires
first_of-requires c = rw c.records.ensures (held_some _ _ _ _ c.self.invariant)

pub body_of-requires : goal.body_of-requires
body_of-requires c =
    held_first _ _ _ _ c.first_of.result.now c.self.invariant (rw c.records.ensures at c.first_of.ensures)

pub invariant_of-result : goal.invariant_of-result
invariant_of-result c =
    rw c.and_all-fed.ensures
    (held_on _ c.args.self _ _ _ _ c.first_of.result.now c.self.view_is c.self.invariant c.requires
    (rw c.records.ensures at c.first_of.ensures) _ _ _ c.in-Ok.ensures.body c.in_ok-kept-in-Ok.ensures)

pub returns-in_ok-kept-in-Ok-clause-says : goal.returns-in_ok-kept-in-Ok-clause-says
returns-in_ok-kept-in-Ok-clause-says c =
    says_cut _ c.args.self _ _ c.args.records.items _ c.first_of.result.now c.self.view_is c.self.invariant c.requires
    (rw c.records.ensures at c.first_of.ensures) _ _ c.in-Ok.ensures.body

pub returns-in-Err-clause-says : goal.returns-in-Err-clause-says
returns-in-Err-clause-says c =
    says_misfit _ c.args.self _ _ c.args.records.items _ c.first_of.result.now c.self.view_is c.self.invariant
    c.requires (rw c.records.ensures at c.first_of.ensures) _ c.in-Err.ensures.fault
