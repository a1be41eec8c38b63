use Rattle.toml.specs.View.{table_view}
use Rattle.dz_config.proofs.PartLemmas.{settings_fail}
use Rattle.dz_config.proofs.document.settings.Goals as goal

pub returns-in-Err : goal.returns-in-Err
returns-in-Err c =
    settings_fail (table_view c.args.table.now) _ _ _ _ _ c.in-Err.fault c.known-known.ensures c.listen_at.ensures
    c.in_ok-lists.ensures c.both.ensures c.both-2.ensures c.in-Err.is
