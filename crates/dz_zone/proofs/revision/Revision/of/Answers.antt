use Rattle.std.proofs.Common.{subst}
use Rattle.dz_zone.specs.Version.{IsValid}
use Rattle.dz_zone.proofs.RevisionLemmas.{revising_fresh, revised_fresh}
use Rattle.dz_zone.proofs.revision.Revision.of.Goals as goal

pub invariant_of-result : goal.invariant_of-result
invariant_of-result c =
    revising_fresh c.args.base.value c.in_ok-flags.flags.items c.new-added.result.keys
    (subst IsValid c.deref-2.ensures c.records.ensures.valid)
    (rw (c.to_name.ensures, c.apex.ensures, c.deref.ensures, c.records.ensures.records, c.deref-2.ensures)
    at c.in_ok-flags.ensures) c.new-added.ensures.empty

pub returns : goal.returns
returns c =
    revised_fresh c.args.base.value c.in_ok-flags.flags.items c.new-added.result.keys
    (rw (c.to_name.ensures, c.apex.ensures, c.deref.ensures, c.records.ensures.records, c.deref-2.ensures)
    at c.in_ok-flags.ensures) c.new-added.ensures.empty
