use Rattle.std.proofs.Common.{◌≡◌, Some}
use Rattle.dz_catalog.proofs.ReadLemmas.{no_child}
use Rattle.dz_catalog.proofs.edits.child.Goals as goal

pub returns-in-Err : goal.returns-in-Err
returns-in-Err c =
    let both : Some c.args.label.now ≡ Some c.in-Some.label = cc (c.requires, c.in-Some.ensures) in
    no_child c.args.above.now c.args.label.now c.in-Some.label c.in-Err.field-0 (cc) c.in-Err.ensures
