use Rattle.dz_catalog.proofs.OrderLemmas as order
use Rattle.dz_catalog.proofs.laws.order_is_free.Goals as goal

pub returns : goal.returns
returns c = order.order_is_free
