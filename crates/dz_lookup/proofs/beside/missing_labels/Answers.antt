use Rattle.std.proofs.Common.{arith, ◌<◌, length}
use Rattle.std.proofs.lemmas.Bool.Decides.{nat_tests}
use Rattle.dz_lookup.proofs.Within.{none_missing}
use Rattle.dz_lookup.proofs.beside.missing_labels.Goals as goal

pub returns-then-not-is_empty : goal.returns-then-not-is_empty
returns-then-not-is_empty c =
    let some : 0 < length c.args.node.now.records.now =
    grind (arith, nat_tests, c.is_empty.ensures, c.if-not-is_empty.true) in
    none_missing c.args.version.now.records c.args.name.now c.args.node.now.records.now
    c.records-records.ensures.valid.rises c.requires.records_are some
