-- Meaning: EDNS, what an OPT record says, and the OPT record of a reply (RFC 6891 section 6.1, RFC 3225 section 3).
use Rattle.std.specs.Prelude.{ℕ, ◌/◌, ◌%◌, ◌==◌, [], ◌∷◌, ◌++◌, Option, Some, None, if◌then◌else◌}
use Rattle.dz_name.specs.Numbers.{two}
use Rattle.dz_name.specs.declared.dns.TheConstants.{TYPE_OPT, EDNS_OCTETS}
use Rattle.dz_header.specs.declared.edns.Edns.{Edns}
use Rattle.dz_header.specs.declared.edns.TheConstants.{VERSION, VERSIONS, DNSSEC_OK}
use Rattle.dz_header.specs.declared.flags.TheConstants.{CODES}
use Rattle.dz_header.specs.declared.record_head.RecordHead.{RecordHead}
use Rattle.dz_name.specs.Words.{Octets}

-- what an OPT record says: the payload size in its class, and version and DO in its TTL (RFC 6891 section 6.1.3)
abbrev pub edns_of : RecordHead → Edns
edns_of head =
    record { size = head.class; version = head.ttl / VERSION % VERSIONS; dnssec_ok = head.ttl / DNSSEC_OK % 2 == 1 }

-- how many OPT records a reply has: one where the request has one
abbrev pub opt_count : Option Edns → ℕ
opt_count None = 0
opt_count (Some edns) = 1

-- the OPT record of a reply: payload size 1232, the upper eight bits of the code, version 0, DO as in the request, and
-- no options
unfoldable pub opt_octets : ℕ → Option Edns → Octets
opt_octets code None = []
opt_octets code (Some edns) =
    0 ∷ (two TYPE_OPT
    ++ (two EDNS_OCTETS ++ ((code / CODES) ∷ (0 ∷ (two (if edns.dnssec_ok then DNSSEC_OK else 0) ++ two 0)))))
