use Rattle.dz_ixfr.proofs.KeptLemmas.{begun_gap, begun_more, deleting_more, adding_gap, adding_more, at_end, past_end}
use Rattle.dz_ixfr.proofs.differences.Differences.take_soa.Goals as goal

pub returns-then-serial-held-clause-says : goal.returns-then-serial-held-clause-says
returns-then-serial-held-clause-says c =
    begun_gap c.self.invariant c.args.self.now c.self.view_is c.args.found c.requires.soa c.args.serial c.in-Begun.held
    c.in-Begun.is c.requires.serial c.if-serial-held.true

pub returns-in-Begun-clause-says : goal.returns-in-Begun-clause-says
returns-in-Begun-clause-says c =
    begun_more c.self.invariant c.args.self.now c.self.view_is c.args.found c.requires.soa c.args.serial
    c.in-Begun.held c.in-Begun.is c.requires.serial c.if-serial-held.false

pub returns-in-Deleting-clause-says : goal.returns-in-Deleting-clause-says
returns-in-Deleting-clause-says c =
    deleting_more c.self.invariant c.args.self.now c.self.view_is c.args.found c.requires.soa c.args.serial
    c.in-Deleting.is c.requires.serial

pub close-requires-clause-here : goal.close-requires-clause-here
close-requires-clause-here c = at_end c.self.invariant c.args.self.now c.self.view_is c.args.found c.in-Adding.last
    c.in-Adding.is c.if-last-self.true

pub returns-then-serial-last-clause-says : goal.returns-then-serial-last-clause-says
returns-then-serial-last-clause-says c =
    adding_gap c.self.invariant c.args.self.now c.self.view_is c.args.found c.requires.soa c.args.serial
    c.in-Adding.last c.in-Adding.is c.if-last-self.false c.requires.serial c.if-serial-last.true

pub returns-in-Adding-clause-says : goal.returns-in-Adding-clause-says
returns-in-Adding-clause-says c =
    adding_more c.self.invariant c.args.self.now c.self.view_is c.args.found c.requires.soa c.args.serial
    c.in-Adding.last c.in-Adding.is c.if-last-self.false c.requires.serial c.if-serial-last.false

pub returns-clause-says : goal.returns-clause-says
returns-clause-says c = past_end c.self.invariant c.args.self.now c.self.view_is c.args.found c.in-Ended.is
