-- Meaning: the TSIG of a message: absent, malformed, or a record that can be read (RFC 8945 sections 4.2 and 5.2).
-- Questions and other records are passed over by their shape.
use Rattle.std.specs.Prelude.{ℕ, zero, suc, ◌+◌, ◌-◌, ◌==◌, ◌&&◌, not, Bool, nat_lt, length, drop, slice_index, Option}
use Rattle.std.specs.Prelude.{Some, None, Ok, Err, if◌then◌else◌}
use Rattle.dz_name.specs.Words.{Octets}
use Rattle.dz_name.specs.Reading.{Reading, name_at}
use Rattle.dz_name.specs.declared.dns.TheConstants.{HEADER_OCTETS}
use Rattle.dz_header.specs.Header.{header_in}
use Rattle.dz_header.specs.Shape.{behind_owner, shape_of}
use Rattle.dz_header.specs.declared.header.Header.{Header}
use Rattle.dz_header.specs.declared.question.TheConstants.{QUESTION_OCTETS}
use Rattle.dz_header.specs.declared.record_head.RecordHead.{RecordHead}
use Rattle.dz_header.specs.declared.shape.Shape.{Shape}
use Rattle.dz_tsig.specs.Tsig.{Tsig, after_names}
use Rattle.dz_tsig.specs.declared.signature.Signature.{Signature}
use Rattle.dz_tsig.specs.declared.signature.Signature.TheVariants.{Absent, Malformed, Present}
use Rattle.dz_tsig.specs.declared.signature.TheConstants.{TYPE_TSIG, CLASS_ANY}

-- what follows a question whose type and class are the next octets
abbrev pub after_question : Option Octets → Option Octets
after_question None = None
after_question (Some rest) = if nat_lt (length rest) QUESTION_OCTETS then None else Some (drop QUESTION_OCTETS rest)

-- what follows where the octets before it could be read; none otherwise
abbrev pub then_after : (Octets → Option Octets) → Option Octets → Option Octets
then_after more None = None
then_after more (Some rest) = more rest

-- what follows the given number of questions
unfoldable pub after_questions : ℕ → Octets → Option Octets
after_questions zero octets = Some octets
after_questions (suc count) octets = then_after (after_questions count) (after_question (behind_owner 0 octets))

-- the TSIG whose names are read so; where the algorithm's name ends the rest of the RDATA begins
abbrev pub named : Octets → ℕ → Reading → Reading → Option Tsig
named m at (Ok key) (Ok algorithm) = after_names at key.0 algorithm.0 (drop algorithm.1 m)
named m at (Ok key) (Err fault) = None
named m at (Err fault) algorithm = None

-- the TSIG that begins at an offset and whose RDATA ends the message; its class is ANY and its TTL 0 (RFC 8945 section
-- 4.2)
unfoldable pub tsig_at : Octets → ℕ → RecordHead → Octets → Option Tsig
tsig_at m at head rdata =
    if not (head.class == CLASS_ANY && head.ttl == 0) then None
    else named m at (name_at m at) (name_at m (length m - length rdata))

-- the TSIG of a message whose TSIG record reads so
abbrev pub signed_by : Option Tsig → Signature
signed_by None = Malformed
signed_by (Some tsig) = Present tsig

-- a record of type TSIG is read where it is the last additional one and ends the message, and is malformed elsewhere
abbrev pub found : Octets → Bool → Octets → Shape × Octets × Octets → Signature
found m is_last octets x =
    if is_last && length x.2 == 0 then signed_by (tsig_at m (length m - length octets) x.0.head x.1)
    else Malformed

-- the TSIG among records of which the first has this shape; the flag says whether the last of them is an additional
-- one
abbrev pub shown : Octets → Bool → Octets → (Octets → Signature) → Option (Shape × Octets × Octets) → Signature
shown m is_last octets more None = Malformed
shown m is_last octets more (Some x) =
    if x.0.head.kind == TYPE_TSIG then found m is_last octets x else more x.2

-- the TSIG among the given number of records; the flag says whether the last of them is an additional one
unfoldable pub signature_among : Octets → Bool → ℕ → Octets → Signature
signature_among m is_additional zero octets = if length octets == 0 then Absent else Malformed
signature_among m is_additional (suc left) octets =
    shown m (is_additional && left == 0) octets (signature_among m is_additional left) (shape_of octets)

-- one of the four counts of a header (RFC 1035 section 4.1.1)
abbrev pub count_in : Header → ℕ → ℕ
count_in header k = slice_index header.counts k

-- the TSIG of a message whose questions these octets follow
abbrev pub signature_after : Octets → Header → Option Octets → Signature
signature_after m header None = Malformed
signature_after m header (Some records) =
    signature_among m (not (count_in header 3 == 0))
    (count_in header 1 + count_in header 2 + count_in header 3) records

-- the TSIG of a message; octets that aren't a message by their shape are malformed
unfoldable pub signature_of : Octets → Signature
signature_of m =
    if nat_lt (length m) HEADER_OCTETS then Malformed
    else signature_after m (header_in m) (after_questions (count_in (header_in m) 0) (drop HEADER_OCTETS m))
