use Rattle.dz_config.proofs.TreeLemmas.{values_from}
use Rattle.dz_config.proofs.tree.values_of.Goals as goal

pub returns : goal.returns
returns c = values_from _ c.in_ok-array_of.field-0.now.items c.as_slice.result.now
    c.in_ok-array_of.ensures c.as_slice.ensures.value
