use Rattle.std.proofs.Common.{◌<◌, arith, length}
use Rattle.std.proofs.lemmas.Bool.Decides.{nat_tests}
use Rattle.dz_producer.proofs.MakingLemmas.{group_room}
use Rattle.dz_producer.proofs.records.put_groups.Goals as goal

pub below-requires-clause-room : goal.below-requires-clause-room
below-requires-clause-room c =
    let some : 0 < length c.args.groups.now = grind (arith, nat_tests) in
    group_room c.args.owner.now c.args.groups.now some c.requires.short
