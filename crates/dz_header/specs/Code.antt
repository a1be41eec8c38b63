-- Meaning: response codes (RFC 1035 section 4.1.1, RFC 2136 section 2.2, RFC 6891 section 9).
use Rattle.std.specs.Prelude.{ℕ}
use Rattle.dz_header.specs.declared.code.ResponseCode.{ResponseCode}
use Rattle.dz_header.specs.declared.code.ResponseCode.TheVariants.{NoError, FormErr, ServFail, NxDomain, NotImp}
use Rattle.dz_header.specs.declared.code.ResponseCode.TheVariants.{Refused, YxDomain, NotAuth, BadVers}

-- the number of a response code (RFC 6895 section 2.3)
abbrev pub number_of : ResponseCode → ℕ
number_of NoError = 0
number_of FormErr = 1
number_of ServFail = 2
number_of NxDomain = 3
number_of NotImp = 4
number_of Refused = 5
number_of YxDomain = 6
number_of NotAuth = 9
number_of BadVers = 16
