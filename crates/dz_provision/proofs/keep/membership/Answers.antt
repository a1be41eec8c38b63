use Rattle.std.proofs.Common.{Some}
use Rattle.dz_provision.proofs.TaskListLemmas.{of_a_catalog, of_a_member}
use Rattle.dz_provision.proofs.keep.membership.Goals as goal

pub returns-in-Some : goal.returns-in-Some
returns-in-Some c = λ s same. of_a_catalog s c.args.fold.now c.args.zone.now c.in-Some.field-0 same
    (rw c.in-Some.is at c.catalog_number.ensures)

pub returns-in-Some-find : goal.returns-in-Some-find
returns-in-Some-find c = λ s same. rw (c.catalog.ensures, c.label.ensures)
    (of_a_member s c.args.fold.now c.args.zone.now (Some c.in-Some-find.member) same
    (rw c.in-None.is at c.catalog_number.ensures) (rw c.in-Some-find.is at c.find.ensures))

pub returns-in-None-find : goal.returns-in-None-find
returns-in-None-find c = λ s same. of_a_member s c.args.fold.now c.args.zone.now _ same
    (rw c.in-None.is at c.catalog_number.ensures) (rw c.in-None-find.is at c.find.ensures)
