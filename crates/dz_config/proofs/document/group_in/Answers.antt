use Rattle.toml.specs.View.{table_view}
use Rattle.dz_config.proofs.PartLemmas.{group_is}
use Rattle.dz_config.proofs.document.group_in.Goals as goal

pub returns : goal.returns
returns c =
    group_is (table_view c.args.table.now) _ _ _ _ _ _ _ _ c.known-known.ensures c.in_ok-word.ensures
    c.policy_at.ensures c.in_ok-primaries.ensures c.both-fetched.ensures c.both-parts.ensures c.both-all.ensures
    c.group_from.ensures
