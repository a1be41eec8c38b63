use Rattle.std.proofs.Common.{◌≡◌, ◌+◌, ◌%◌, ◌<◌, drop, length}
use Rattle.std.specs.List.{flat_map}
use Rattle.dz_reply.specs.inner.Signed.{set_shown}
use Rattle.dz_reply.proofs.authority.count_all.Given as goal

abbrev pub invariant-sets : goal.invariant-sets
invariant-sets l = record {
  count : (l.count + length (flat_map set_shown (drop l.set-index l.sets))) % 65536
      ≡ length (flat_map set_shown l.sets) % 65536;
  small : l.count < 65536;
}
