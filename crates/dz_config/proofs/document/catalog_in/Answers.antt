use Rattle.toml.specs.View.{table_view}
use Rattle.dz_config.proofs.PartLemmas.{catalog_is}
use Rattle.dz_config.proofs.document.catalog_in.Goals as goal

pub returns : goal.returns
returns c =
    catalog_is (table_view c.args.table.now) _ _ _ _ _ _ _ _ _ _ _ _ c.known-known.ensures c.name_at.ensures
    c.policy_at.ensures c.in_ok-primaries.ensures c.in_ok-groups.ensures c.in_ok-key.ensures c.both-rest.ensures
    c.both-hosts.ensures c.both-fetched.ensures c.both-parts.ensures c.both-all.ensures c.catalog_from.ensures
