use Rattle.std.proofs.Common.{arith, ◌<◌, length}
use Rattle.std.proofs.lemmas.Bool.Decides.{nat_tests}
use Rattle.dz_name.proofs.LabelLemmas.{label_kept}
use Rattle.dz_name.proofs.label.Label.new.Goals as goal

pub invariant_of-result : goal.invariant_of-result
invariant_of-result c =
    let some : 0 < length c.args.octets.now = grind (arith, nat_tests, c.is_empty.ensures, c.if-is_empty.false) in
    label_kept c.args.octets.now _ some (omega arith) c.write_front.ensures
