use Rattle.std.proofs.Common.{[]}
use Rattle.std.specs.Prelude.{option_map}
use Rattle.std.specs.Option.{option_copied, option_map_or}
use Rattle.dz_produce.proofs.MakingLemmas.{put_more}
use Rattle.dz_produce.proofs.making.draft_of.Goals as goal

pub added-preserved : goal.added-preserved
added-preserved c =
    put_more c.args.apex.now 0 (option_map (λ x. x.zone) (option_copied c.args.change))
    (option_map_or (λ x. x.dropped) (option_copied c.args.change) []) c.args.added.now c.added.node-index
    c.node-item.result c.added.draft c.put.new.self c.spend.new.self
    c.added-test.true c.node-item.is c.added.invariant c.in_ok-put.ensures.draft c.in_ok-put.ensures.octets
    c.spend.ensures.draft c.spend.ensures.octets
