use Rattle.std.proofs.Common.{◌∙◌}
use Rattle.dz_catalog.proofs.VersionLemmas.{kept_rrset, kept_none}
use Rattle.dz_catalog.proofs.broken.versions.Goals as goal

pub returns-in-None : goal.returns-in-None
returns-in-None c = kept_none c.args.version.now.apex c.args.version.now.records
    (rw (c.to_name.ensures ∙ c.apex.ensures) at c.in-None.ensures) c.records-records.ensures.held

pub returns-in-Some : goal.returns-in-Some
returns-in-Some c =
    kept_rrset c.args.version.now.apex c.args.version.now.records c.rrset_of.result.now c.in-Some.name
    c.records-records.ensures.valid.rises
    (rw (c.to_name.ensures ∙ c.apex.ensures) at c.in-Some.ensures) c.rrset_of.ensures
