-- Meaning: the flags of a header, with opcode and response code (RFC 1035 section 4.1.1).
use Rattle.std.specs.Prelude.{◌≡◌, ◌<◌, ◌^◌, ℕ, ◌+◌, ◌*◌, ◌/◌, ◌%◌, Bool, ◌==◌, if◌then◌else◌}
use Rattle.dz_header.specs.declared.flags.Flags.{Flags}
use Rattle.dz_header.specs.declared.flags.TheConstants.{RESPONSE, OPCODE, CODES, AUTHORITATIVE, TRUNCATED}
use Rattle.dz_header.specs.declared.flags.TheConstants.{RECURSION_DESIRED}

-- whether the bit of this value is set in a number
abbrev pub has_bit : ℕ → ℕ → Bool
has_bit flags value = flags / value % 2 == 1

-- whether QR is set: the message is a response
abbrev pub is_response : ℕ → Bool
is_response flags = has_bit flags RESPONSE

-- whether AA is set: the answer is authoritative
abbrev pub is_authoritative : ℕ → Bool
is_authoritative flags = has_bit flags AUTHORITATIVE

-- whether TC is set: the message is truncated
abbrev pub is_truncated : ℕ → Bool
is_truncated flags = has_bit flags TRUNCATED

-- whether RD is set: recursion is desired
abbrev pub is_recursion_desired : ℕ → Bool
is_recursion_desired flags = has_bit flags RECURSION_DESIRED

-- the opcode, of four bits
abbrev pub opcode_of : ℕ → ℕ
opcode_of flags = flags / OPCODE % CODES

-- the response code, of four bits
abbrev pub code_of : ℕ → ℕ
code_of flags = flags % CODES

-- a bit of this value where it is set, and 0 otherwise
abbrev pub bit : Bool → ℕ → ℕ
bit is_set value = if is_set then value else 0

-- the flags as the 16-bit number in a header
unfoldable pub flags_number : Flags → ℕ
flags_number flags =
    bit flags.response RESPONSE + (flags.opcode % CODES * OPCODE
    + (bit flags.authoritative AUTHORITATIVE
    + (bit flags.truncated TRUNCATED + (bit flags.recursion_desired RECURSION_DESIRED + flags.code % CODES))))

-- the readers give back what the writer wrote: the lower four bits of opcode and code
pub record ReadsBack (flags : Flags) (number : ℕ) : Type 0 where
  pub response : is_response number ≡ flags.response
  pub opcode : opcode_of number ≡ flags.opcode % CODES
  pub authoritative : is_authoritative number ≡ flags.authoritative
  pub truncated : is_truncated number ≡ flags.truncated
  pub recursion_desired : is_recursion_desired number ≡ flags.recursion_desired
  pub code : code_of number ≡ flags.code % CODES
  pub small : number < 2 ^ 16
