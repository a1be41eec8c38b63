use Rattle.std.proofs.Common.{rules}
use Rattle.std.proofs.lemmas.Fn.{always_returns_same}
use Rattle.dz_record.specs.Order.{record_total}
use Rattle.dz_record.specs.Record.{Record, record_order}
use Rattle.dz_zone.proofs.Searched.{searched}
use Rattle.dz_zone.proofs.revision.search.Goals as goal

pub returns : goal.returns
returns c =
    searched record_order record_total c.args.records.now c.args.found.now _ c.requires
    c.binary_search_by.ensures.bound
    (c.binary_search_by.ensures.position (λ (k : Record). record_order k c.args.found.now)
    (always_returns_same _ _ _ (λ a r f h. search rules)))
