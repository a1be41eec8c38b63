use Rattle.std.proofs.Common.{sym, ◌∙◌}
use Rattle.dz_ixfr.proofs.KeptLemmas.{begun_other, missing_says, missing_kept, removed_says, removed_kept}
use Rattle.dz_ixfr.proofs.KeptLemmas.{present_says, inserted_says, inserted_kept, past_end, kept_as}
use Rattle.dz_ixfr.proofs.differences.Differences.take_other.Goals as goal

pub returns-in-Begun-clause-says : goal.returns-in-Begun-clause-says
returns-in-Begun-clause-says c = begun_other c.self.invariant c.args.self.now c.self.view_is c.args.found
    c.requires.other c.in-Begun.field-0 c.in-Begun.is

pub returns-clause-says : goal.returns-clause-says
returns-clause-says c = past_end c.self.invariant c.args.self.now c.self.view_is c.args.found c.in-Ended.is

pub invariant_of-self : goal.invariant_of-self
invariant_of-self c =
    kept_as c.remove.new.self c.remove.ensures.left (missing_kept c.self.invariant c.args.self.now c.self.view_is
    c.args.found c.requires.other c.in-None.ensures.there)

pub returns-in-None-clause-says : goal.returns-in-None-clause-says
returns-in-None-clause-says c = missing_says c.self.invariant c.args.self.now c.self.view_is c.args.found
    c.requires.other c.in-Deleting.is c.in-None.ensures.there

pub invariant_of-self-in-Some : goal.invariant_of-self-in-Some
invariant_of-self-in-Some c =
    kept_as c.remove.new.self c.remove.ensures.left
    (removed_kept c.self.invariant c.args.self.now c.self.view_is c.args.found c.requires.other c.and.result
    c.and.ensures c.in-Deleting.is c.in-Some.ensures.there)

pub returns-in-Deleting-clause-says : goal.returns-in-Deleting-clause-says
returns-in-Deleting-clause-says c = removed_says c.self.invariant c.args.self.now c.self.view_is c.args.found
    c.requires.other c.in-Deleting.is c.in-Some.ensures.there

pub returns-then-not-branch-clause-says : goal.returns-then-not-branch-clause-says
returns-then-not-branch-clause-says c =
    present_says c.self.invariant c.args.self.now c.self.view_is c.args.found c.requires.other c.in-Adding.field-0
    c.in-Adding.is (sym c.if-not-branch.true ∙ c.in_ok-insert-in-Adding.ensures.added)

pub invariant_of-self-in-Adding : goal.invariant_of-self-in-Adding
invariant_of-self-in-Adding c =
    kept_as c.insert.new.self (rw c.if-not-branch.false at c.in_ok-insert-in-Adding.ensures.joined)
    (inserted_kept c.self.invariant c.args.self.now c.self.view_is c.args.found c.requires.other c.in-Adding.field-0
    c.and-fed.result c.and-fed.ensures c.in-Adding.is
    (sym c.if-not-branch.false ∙ c.in_ok-insert-in-Adding.ensures.added))

pub returns-in-Adding-clause-says : goal.returns-in-Adding-clause-says
returns-in-Adding-clause-says c =
    inserted_says c.self.invariant c.args.self.now c.self.view_is c.args.found c.requires.other c.in-Adding.field-0
    c.in-Adding.is (sym c.if-not-branch.false ∙ c.in_ok-insert-in-Adding.ensures.added)
