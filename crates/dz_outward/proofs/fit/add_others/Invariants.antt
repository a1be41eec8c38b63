use Rattle.std.proofs.Common.{◌≡◌, ◌≤◌, ◌+◌, ◌*◌, ◌++◌, List, drop}
use Rattle.std.specs.Prelude.{filter}
use Rattle.dz_record.specs.Record.{Record}
use Rattle.dz_message.specs.Piece.{octets_behind, total_of}
use Rattle.dz_outward.specs.Stream.{is_other}
use Rattle.dz_outward.proofs.fit.add_others.Given as goal

abbrev pub invariant-records : goal.invariant-records
invariant-records l = record {
  counts : (rest : List Record) → octets_behind l.fn.tally (filter is_other l.records ++ rest)
      ≡ octets_behind l.tally (filter is_other (drop l.rr-index l.records) ++ rest);
  grows : total_of l.tally ≤ total_of l.fn.tally + 70000 * l.rr-index;
}
