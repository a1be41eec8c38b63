use Rattle.dz_take.proofs.KindLemmas.{fed_incremental_more, incremental_complete, fed_incremental_ended}
use Rattle.dz_take.proofs.KindLemmas.{incremental_failed}
use Rattle.dz_take.proofs.state.feed_differences.Goals as goal

pub finish-requires : goal.finish-requires
finish-requires c =
    let says = rw c.in-Ended.is at c.in-Ok.ensures.says in
    incremental_complete c.args.transfer.now c.args.differences c.in-Ok.differences c.args.records.items
    c.requires.kind c.in-Ok.ensures.held c.in-Ok.ensures.fed says.0 says.1

pub returns-in-More : goal.returns-in-More
returns-in-More c =
    let says = rw c.in-More.is at c.in-Ok.ensures.says in
    fed_incremental_more c.args.transfer.now c.args.differences c.in-Ok.differences c.args.records.items
    c.requires.kind c.in-Ok.ensures.held c.in-Ok.ensures.fed says

pub returns-in_ok-settle_revision-in-Ended : goal.returns-in_ok-settle_revision-in-Ended
returns-in_ok-settle_revision-in-Ended c =
    fed_incremental_ended c.args.transfer.now c.args.differences c.in-Ok.differences c.args.records.items
    c.requires.kind c.in-Ok.ensures.held c.in-Ok.ensures.fed c.finish.result _
    c.finish.ensures.base c.finish.ensures.records c.in_ok-settle_revision-in-Ended.ensures

pub returns-in_ok-refuse-in-Err : goal.returns-in_ok-refuse-in-Err
returns-in_ok-refuse-in-Err c =
    incremental_failed c.args.transfer.now c.args.differences.held _ c.requires.kind c.in-Err.error _
    c.in-Err.ensures.says c.in_ok-refuse-in-Err.ensures
