-- Meaning: the query of a transfer (RFC 5936 section 2.1, RFC 1995 section 3).
use Rattle.std.specs.Prelude.{Option}
use Rattle.std.specs.Option.{option_and_then}
use Rattle.dz_name.specs.Words.{Octets}
use Rattle.dz_record.specs.Record.{Record}
use Rattle.dz_message.specs.Query.{query_octets}
use Rattle.dz_zone.specs.Version.{apex_soa}
use Rattle.dz_take.specs.Form.{base_of}
use Rattle.dz_take.specs.Transfer.{Transfer}

-- where differences are asked for, the SOA record of the version that they lead on from
abbrev pub soa_asked : Transfer → Option Record
soa_asked t = option_and_then apex_soa (base_of t.ask t.held)

-- the query: with the transfer's ID, for its zone, unsigned, and without the two octets of length that precede it over
-- TCP
abbrev pub asked_octets : Transfer → Octets
asked_octets t = query_octets t.id t.apex (soa_asked t)
