use Rattle.std.proofs.Common.{sym}
use Rattle.dz_fleet.specs.Core.{state_of}
use Rattle.dz_provision.proofs.TaskListLemmas.{holding_is, no_last, no_membership}
use Rattle.dz_provision.proofs.keep.last_holding.Goals as goal

pub returns-in_default-clause-holding : goal.returns-in_default-clause-holding
returns-in_default-clause-holding c = no_last c.args.fleet.now.list (rw c.in_default.is at c.requires.last)

pub returns-in_default-membership-clause-holding : goal.returns-in_default-membership-clause-holding
returns-in_default-membership-clause-holding c =
    no_membership c.args.fleet.now.list c.in-Some.last.now (rw c.in-Some.is at c.requires.last)
    (c.in_default-membership.ensures (state_of c.args.fleet.now) (sym c.fold.ensures.fold))

pub returns-clause-holding : goal.returns-clause-holding
returns-clause-holding c =
    holding_is c.args.fleet.now.list c.in-Some.last.now c.in-Some-membership.membership
    c.in-Some-held.version.now.value (rw c.in-Some.is at c.requires.last)
    (c.in-Some-membership.ensures (state_of c.args.fleet.now) (sym c.fold.ensures.fold)) c.in-Some-held.ensures.held
