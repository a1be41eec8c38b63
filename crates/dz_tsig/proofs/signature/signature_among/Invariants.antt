use Rattle.std.proofs.Common.{◌≡◌, ◌-◌, ◌≤◌, length}
use Rattle.dz_tsig.specs.Signature.{signature_among}
use Rattle.dz_tsig.proofs.signature.signature_among.Given as goal

abbrev pub invariant-records : goal.invariant-records
invariant-records l = record {
  value : signature_among l.message l.is_additional (l.count - l.number) l.rest
      ≡ signature_among l.message l.is_additional l.count l.records;
  within : length l.rest ≤ length l.records;
}
