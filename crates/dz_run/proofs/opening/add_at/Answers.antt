use Rattle.std.proofs.Common.{◌∙◌, ap, set}
use Rattle.dz_settings.specs.declared.config.CatalogSettings.{CatalogSettings}
use Rattle.dz_run.specs.Replaying.{with_group}
use Rattle.dz_run.proofs.OpeningLemmas.{placed}
use Rattle.dz_run.proofs.opening.add_at.Goals as goal

pub returns : goal.returns
returns c =
    let old = c.index_mut.result.now in
    ap (λ (settings : CatalogSettings). set c.args.catalogs.now.items c.args.place settings)
    (c.in_ok-add_to.ensures ∙ ap (with_group c.args.group) c.index_mut.ensures.value)
    ∙ placed (with_group c.args.group) c.args.place c.args.catalogs.now.items old c.requires
