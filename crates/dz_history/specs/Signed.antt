-- Meaning: whether what answers a query is signed (RFC 8945 section 5).
use Rattle.std.specs.Prelude.{ℕ, Option, Some, None}
use Rattle.dz_name.specs.Words.{Octets}
use Rattle.dz_settings.specs.declared.key.Key.{Key}
use Rattle.dz_tsig.specs.Checking.{tsig_fault}
use Rattle.dz_tsig.specs.Signing.{request_mac}
use Rattle.dz_tsig.specs.declared.fault.TsigFault.{TsigFault}
use Rattle.dz_take.specs.Query.{asked_octets}
use Rattle.dz_take.specs.Transfer.{Transfer}

-- what is wrong with the signatures of octets that answer a transfer's query sent at a moment, where there is a key
abbrev pub tsig_in : Option Key → Transfer → Octets → ℕ → Option TsigFault
tsig_in None transfer octets moment = None
tsig_in (Some key) transfer octets moment =
    tsig_fault key (request_mac key (asked_octets transfer) moment) octets moment
