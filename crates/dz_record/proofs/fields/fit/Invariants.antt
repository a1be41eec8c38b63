use Rattle.std.proofs.Common.{◌≡◌, ◌≤◌, length, drop}
use Rattle.dz_record.specs.Fields.{fits}
use Rattle.dz_record.proofs.fields.fit.Given as goal

abbrev pub invariant-fields : goal.invariant-fields
invariant-fields l = record {
  within : l.at ≤ length l.rdata;
  same : fits (drop l.field-index l.fields) l.rdata l.at ≡ fits l.fields l.rdata 0;
}
