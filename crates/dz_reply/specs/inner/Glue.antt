-- Inner: addresses that were found, as a reply has them.
use Rattle.std.specs.Prelude.{List, ◌++◌}
use Rattle.dz_record.specs.Record.{Record}
use Rattle.dz_runs.specs.declared.runs.Addresses.{Addresses}
use Rattle.dz_reply.specs.Answer.{own_entries}

-- the A records and then the AAAA records, each under the name of its owner
unfoldable pub shown : Addresses → List Record
shown a = own_entries a.four.now ++ own_entries a.six.now
