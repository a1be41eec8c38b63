use Rattle.std.proofs.Common.{◌≡◌, take, false}
use Rattle.std.specs.List.{list_any}
use Rattle.dz_record.specs.Record.{same_record}
use Rattle.dz_lookup.proofs.chain.Chain.has_among.Given as goal

abbrev pub invariant-records : goal.invariant-records
invariant-records l = list_any (λ a. same_record a.1 l.rr) (take l.number l.self) ≡ false
