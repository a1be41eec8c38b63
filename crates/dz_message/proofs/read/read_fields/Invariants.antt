use Rattle.std.proofs.Common.{◌+◌, ◌*◌, ◌≤◌, take}
use Rattle.std.specs.List.{sum_by}
use Rattle.dz_message.specs.Looks.{looks_of_field}
use Rattle.dz_message.proofs.RdataLemmas.{AreRead}
use Rattle.dz_message.proofs.read.read_fields.Given as goal

abbrev pub invariant-fields : goal.invariant-fields
invariant-fields g l = record {
  reads : AreRead l.message l.span.at l.span.end l.fields l.fn.out.items l.out.items l.offset l.field-index;
  counted : l.fn.steps ≤ l.steps;
  passed : l.steps + 256 * l.span.at ≤ l.fn.steps + 256 * l.offset;
  least : l.fn.steps + sum_by looks_of_field (take l.field-index l.fields) ≤ l.steps;
}
