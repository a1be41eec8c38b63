use Rattle.std.proofs.Common.{◌∙◌}
use Rattle.dz_catalog.proofs.ReadLemmas.{rrset_kept}
use Rattle.dz_catalog.proofs.edits.rrset_at.Goals as goal

pub returns-clause-rrset : goal.returns-clause-rrset
returns-clause-rrset c =
    c.rrset_of.ensures
    ∙ rrset_kept c.args.version.now.records c.args.name.now c.args.kind c.records-records.ensures.valid.rises
