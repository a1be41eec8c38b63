use Rattle.std.proofs.Common.{◌≡◌, drop}
use Rattle.std.specs.List.{flat_map}
use Rattle.dz_header.specs.Writing.{also}
use Rattle.dz_reply.specs.Layout.{entries_octets}
use Rattle.dz_reply.specs.inner.Signed.{set_shown}
use Rattle.dz_reply.proofs.authority.put_all.Given as goal

abbrev pub invariant-sets : goal.invariant-sets
invariant-sets l = also l.writer.writing (entries_octets l.question (flat_map set_shown (drop l.set-index l.sets)))
    ≡ also l.fn.writer.writing (entries_octets l.question (flat_map set_shown l.sets))
