use Rattle.std.proofs.Common.{◌≡◌, ◌++◌, take}
use Rattle.std.specs.Prelude.{filter}
use Rattle.dz_outward.specs.Stream.{is_other}
use Rattle.dz_produce.proofs.stream.put_others.Given as goal

abbrev pub invariant-records : goal.invariant-records
invariant-records l = l.out.items ≡ l.initial.out.items ++ filter is_other (take l.rr-index l.records)
