use Rattle.dz_ixfr.proofs.FedLemmas.{ended_whole}
use Rattle.dz_low_tests.proofs.ixfr.feed_messages.Goals as goal

pub finish-requires : goal.finish-requires
finish-requires c =
    ended_whole c.in-Ok.fed.held c.messages.differences.held c.in-Ok.progress c.in-Ok.fed.fed _ c.in-Ok.ensures.held
    c.in-Ok.ensures.fed c.in-Ended.is c.in-Ok.ensures.says
