-- Meaning: what a MAC covers, and messages to which a TSIG is added (RFC 8945 sections 4.3, 5.1 and 5.3).
use Rattle.std.specs.Prelude.{ℕ, ◌+◌, ◌-◌, [], ◌++◌, length, take, drop, Option, Some, None}
use Rattle.dz_name.specs.Words.{Name, Octets}
use Rattle.dz_name.specs.Name.{wire_of}
use Rattle.dz_name.specs.Numbers.{two, four, number_of_two}
use Rattle.dz_name.specs.declared.dns.TheConstants.{HEADER_OCTETS}
use Rattle.dz_tsig.specs.Hmac.{hmac}
use Rattle.dz_tsig.specs.Numbers.{six}
use Rattle.dz_tsig.specs.Tsig.{Tsig, hmac_sha256}
use Rattle.dz_settings.specs.declared.key.Key.{Key}
use Rattle.dz_tsig.specs.declared.signature.TheConstants.{TYPE_TSIG, CLASS_ANY}
use Rattle.dz_tsig.specs.declared.sign.TheConstants.{FUDGE}

-- the TSIG timers: time and fudge (RFC 8945 section 5.3.1)
abbrev pub timers : ℕ → ℕ → Octets
timers time fudge = six time ++ two fudge

-- owner name, class ANY and TTL 0; names are uncompressed and in lower case (RFC 8945 section 4.3.3)
abbrev pub owner_class_ttl : Name → Octets
owner_class_ttl key = wire_of key ++ (two CLASS_ANY ++ four 0)

-- error, other length and other data (RFC 8945 section 4.2)
abbrev pub error_other : ℕ → Octets → Octets
error_other error other = two error ++ (two (length other) ++ other)

-- the TSIG variables (RFC 8945 section 4.3.3)
abbrev pub variables : Name → ℕ → ℕ → ℕ → Octets → Octets
variables key time fudge error other =
    owner_class_ttl key ++ (wire_of hmac_sha256 ++ (timers time fudge ++ error_other error other))

-- a MAC preceded by its length, as a request's is digested, and a prior one (RFC 8945 sections 4.3.1 and 5.3.1)
abbrev pub mac_octets : Octets → Octets
mac_octets mac = two (length mac) ++ mac

-- a message without its TSIG, with one additional record less and its original ID (RFC 8945 section 4.3.2)
unfoldable pub without_tsig : Octets → Tsig → Octets
without_tsig m tsig =
    two tsig.id ++ (take 8 (drop 2 m) ++ (two (number_of_two (drop 10 m) - 1) ++ drop HEADER_OCTETS (take tsig.at m)))

-- what is digested after a message: in the first one the variables, and in a later one the timers
abbrev pub variables_or_timers : Name → Option ℕ → Tsig → Octets
variables_or_timers key None tsig = variables key tsig.time tsig.fudge tsig.error tsig.other
variables_or_timers key (Some before) tsig = timers tsig.time tsig.fudge

-- original ID, error 0 and no other data (RFC 8945 section 4.2)
abbrev pub id_error_other : ℕ → Octets
id_error_other id = two id ++ (two 0 ++ two 0)

-- the RDATA of a TSIG of this time, MAC and original ID, with fudge 300 (RFC 8945 section 4.2)
unfoldable pub tsig_rdata : ℕ → Octets → ℕ → Octets
tsig_rdata time mac id = wire_of hmac_sha256 ++ (timers time FUDGE ++ (mac_octets mac ++ id_error_other id))

-- type, class, TTL and length of the RDATA
unfoldable pub tsig_head : ℕ → Octets
tsig_head size = two TYPE_TSIG ++ (two CLASS_ANY ++ (four 0 ++ two size))

-- the TSIG record of this key, time, MAC and original ID (RFC 8945 section 4.2)
unfoldable pub tsig_octets : Name → ℕ → Octets → ℕ → Octets
tsig_octets key time mac id = wire_of key ++ (tsig_head (length (tsig_rdata time mac id)) ++ tsig_rdata time mac id)

-- a message to which a TSIG is added: one additional record more; its ID is the original ID
unfoldable pub with_tsig : Name → ℕ → Octets → Octets → Octets
with_tsig key time mac m =
    take 10 m
    ++ (two (number_of_two (drop 10 m) + 1) ++ (drop HEADER_OCTETS m ++ tsig_octets key time mac (number_of_two m)))

-- the MAC of a query (RFC 8945 section 5.1)
unfoldable pub request_mac : Key → Octets → ℕ → Octets
request_mac key query moment = hmac key.secret (query ++ variables key.name moment FUDGE 0 [])

-- the signed query (RFC 8945 section 5.1)
unfoldable pub signed : Key → Octets → ℕ → Octets
signed key query moment = with_tsig key.name moment (request_mac key query moment) query
