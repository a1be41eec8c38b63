use Rattle.std.proofs.Common.{refl}
use Rattle.dz_take.proofs.KindLemmas.{fed_whole_more, whole_complete, fed_whole_ended, fed_whole_failed}
use Rattle.dz_take.proofs.state.feed_whole.Goals as goal

pub finish-requires : goal.finish-requires
finish-requires c =
    let says = rw c.in-Ended.is at c.in-Ok.ensures.says in
    whole_complete c.args.transfer.now c.args.whole c.in-Ok.whole c.args.records.items c.requires.apex c.requires.kind
    c.in-Ok.ensures.apex c.in-Ok.ensures.fed says.0 says.1

pub returns-in-More : goal.returns-in-More
returns-in-More c =
    let says = rw c.in-More.is at c.in-Ok.ensures.says in
    fed_whole_more c.args.transfer.now c.args.whole c.in-Ok.whole c.args.records.items c.requires.apex c.requires.kind
    c.in-Ok.ensures.apex c.in-Ok.ensures.fed says

pub returns-in_ok-settle-in-Ended : goal.returns-in_ok-settle-in-Ended
returns-in_ok-settle-in-Ended c =
    fed_whole_ended c.args.transfer.now c.args.whole c.in-Ok.whole c.args.records.items c.requires.apex c.requires.kind
    c.in-Ok.ensures.apex c.in-Ok.ensures.fed c.finish.result.items _ _ c.finish.ensures.whole
    c.apex.ensures c.in_ok-settle-in-Ended.ensures

pub returns-in_ok-refuse-in-Err : goal.returns-in_ok-refuse-in-Err
returns-in_ok-refuse-in-Err c =
    fed_whole_failed c.args.transfer.now c.args.whole c.args.whole c.args.records.items c.requires.apex c.requires.kind
    refl c.in-Err.error _ c.in-Err.ensures.says c.in_ok-refuse-in-Err.ensures
