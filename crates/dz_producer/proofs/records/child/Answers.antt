use Rattle.std.proofs.Common.{sym, ◌∙◌}
use Rattle.dz_producer.proofs.MakingLemmas.{child_made}
use Rattle.dz_producer.proofs.records.child.Goals as goal

pub unreachable-requires : goal.unreachable-requires
unreachable-requires c =
    let e = sym (child_made c.args.label.now c.args.name.now c.requires) ∙ (sym c.child.ensures ∙ c.in-Err.is) in cc
