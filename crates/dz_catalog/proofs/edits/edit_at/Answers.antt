use Rattle.std.proofs.Common.{refl, ◌∙◌}
use Rattle.std.specs.Prelude.{None}
use Rattle.dz_catalog.proofs.ReadLemmas.{no_node}
use Rattle.dz_catalog.proofs.edits.edit_at.Goals as goal

pub returns-in-None-clause-read : goal.returns-in-None-clause-read
returns-in-None-clause-read c =
    no_node c.args.version.now.apex c.args.version.now.records c.args.label
    record { label = c.args.label; node = None } refl refl
    (rw (c.to_name.ensures ∙ c.apex.ensures) at c.in-None.ensures) c.records-records.ensures.held
