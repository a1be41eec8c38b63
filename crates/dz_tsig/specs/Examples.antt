-- Judge: numbers of the standards, MACs, and messages with a TSIG, computed by the checker.
use Rattle.std.specs.Prelude.{◌≡◌, ℕ, ◌+◌, ◌-◌, ◌*◌, nat_le, List, [], ◌∷◌, ◌++◌, replicate, true, false, Some, None}
use Rattle.std.specs.Prelude.{Ok, Err, is_ok, if◌then◌else◌, refl, codes}
use Prim.Native.String.{String}
use Rattle.sha2.specs.Sha256.{sha256, compress, digest_bytes, first_words, hash_after, rounds, schedule}
use Rattle.dz_name.specs.Words.{Name, Octets}
use Rattle.dz_name.specs.Name.{wire_of, labels_in}
use Rattle.dz_name.specs.Numbers.{two, four, number_of_two, number_of_four}
use Rattle.dz_name.specs.Reading.{name_at, name_from, element_at}
use Rattle.dz_header.specs.Header.{header_in}
use Rattle.dz_header.specs.RecordHead.{head_in}
use Rattle.dz_header.specs.Shape.{behind_owner, behind_head, shape_of}
use Rattle.dz_tsig.specs.Checking.{State, first_state, is_timely, mac_input, step}
use Rattle.dz_tsig.specs.Hmac.{hmac, padded}
use Rattle.dz_tsig.specs.Numbers.{six, number_of_six}
use Rattle.dz_tsig.specs.Signature.{signature_of, signature_among, after_questions, tsig_at}
use Rattle.dz_tsig.specs.Signing.{mac_octets, request_mac, tsig_head, tsig_octets, tsig_rdata, with_tsig, without_tsig}
use Rattle.dz_tsig.specs.Tsig.{Tsig, after_names, after_size, hmac_sha256}
use Rattle.dz_tsig.specs.declared.check.TheConstants.{UNSIGNED_MOST}
use Rattle.dz_tsig.specs.declared.fault.TsigFault.TheVariants as faults
use Rattle.dz_tsig.specs.declared.mac.TheConstants.{BLOCK_OCTETS, IPAD, MAC_OCTETS, OPAD}
use Rattle.dz_settings.specs.declared.key.Key.{Key}
use Rattle.dz_tsig.specs.declared.signature.Signature.TheVariants.{Absent, Malformed, Present}
use Rattle.dz_tsig.specs.declared.signature.TheConstants.{CLASS_ANY, POINTER, TYPE_TSIG}
use Rattle.dz_tsig.specs.declared.sign.TheConstants.{FUDGE, RDATA_OCTETS}

-- ---- numbers: RFC 8945 sections 4.2, 10 and 5.3.1; RFC 2104 section 2 and FIPS 180-4
pub tsig_is_250 : TYPE_TSIG ≡ 250
tsig_is_250 = refl

pub any_is_255 : CLASS_ANY ≡ 255
any_is_255 = refl

pub pointer_is_192 : POINTER ≡ 192
pointer_is_192 = refl

pub rdata_octets_is_61 : RDATA_OCTETS ≡ 61
rdata_octets_is_61 = refl

pub fudge_is_300 : FUDGE ≡ 300
fudge_is_300 = refl

pub at_most_99_unsigned : UNSIGNED_MOST ≡ 99
at_most_99_unsigned = refl

pub a_block_has_64_octets : BLOCK_OCTETS ≡ 64
a_block_has_64_octets = refl

pub a_mac_has_32_octets : MAC_OCTETS ≡ 32
a_mac_has_32_octets = refl

pub pads : IPAD ∷ OPAD ∷ [] ≡ 0x36 ∷ 0x5c ∷ []
pads = refl

pub six_octets : six 1000 ≡ 0 ∷ 0 ∷ 0 ∷ 0 ∷ 3 ∷ 232 ∷ []
unfolding six
six_octets = refl

pub of_six_octets : number_of_six (0 ∷ 0 ∷ 0 ∷ 0 ∷ 3 ∷ 232 ∷ 1 ∷ 44 ∷ []) ≡ 1000
unfolding number_of_six
of_six_octets = refl

-- ---- octets in hex
-- the value of a hex digit in lower case
abbrev digit : ℕ → ℕ
digit c = if nat_le 97 c then c - 87 else c - 48

-- the octets of pairs of hex digits
abbrev pairs : List ℕ → Octets
pairs [] = []
pairs (c ∷ []) = []
pairs (c ∷ d ∷ rest) = (digit c * 16 + digit d) ∷ pairs rest

-- the octets that a text in hex denotes
abbrev hex : String → Octets
hex text = pairs (codes text)

-- ---- HMAC-SHA-256 of the test cases 1 to 4 of RFC 4231 (sections 4.2 to 4.5), whose keys have at most 64 octets
pub rfc_4231_case_1 : hmac (replicate 20 0x0b) (codes "Hi There")
    ≡ hex "b0344c61d8db38535ca8afceaf0bf12b881dc200c9833da726e9376c2e32cff7"
unfolding hmac padded sha256 compress digest_bytes first_words hash_after rounds schedule
rfc_4231_case_1 = refl

pub rfc_4231_case_2 : hmac (codes "Jefe") (codes "what do ya want for nothing?")
    ≡ hex "5bdcc146bf60754e6a042426089575c75a003f089d2739839dec58b964ec3843"
unfolding hmac padded sha256 compress digest_bytes first_words hash_after rounds schedule
rfc_4231_case_2 = refl

pub rfc_4231_case_3 : hmac (replicate 20 0xaa) (replicate 50 0xdd)
    ≡ hex "773ea91e36800e46854db8ebd09181a72959098b3ef8c122d9635514ced565fe"
unfolding hmac padded sha256 compress digest_bytes first_words hash_after rounds schedule
rfc_4231_case_3 = refl

pub rfc_4231_case_4 : hmac (hex "0102030405060708090a0b0c0d0e0f10111213141516171819") (replicate 50 0xcd)
    ≡ hex "82558a389a443c0ea4cc819899f2083a85f0faa3e578f8077a2e3ff46729665b"
unfolding hmac padded sha256 compress digest_bytes first_words hash_after rounds schedule
rfc_4231_case_4 = refl

-- ---- a message of a header alone, with ID 2, and a MAC
-- a message of a header alone, with ID 2
abbrev plain : Octets
plain = hex "000284000000000000000000"

-- some MAC of 32 octets
abbrev mac : Octets
mac = replicate 32 7

-- the name k.
abbrev name : Name
name = codes "k" ∷ []

-- a key of that name
abbrev key : Key
key = record { name = name; secret = codes "s" }

-- a TSIG of that key and MAC, right after the header
abbrev tsig : Tsig
tsig = record {
  at = 12;
  key = name;
  algorithm = hmac_sha256;
  time = 1000;
  fudge = 300;
  mac = mac;
  id = 2;
  error = 0;
  other = [];
}

-- ---- the octets of a TSIG (RFC 8945 section 4.2)
-- the message with that TSIG
abbrev signed : Octets
signed = hex
    "000284000000000000000001016b0000fa00ff00000000003d0b686d61632d736861323536000000000003e8012c00200707070707070707070707070707070707070707070707070707070707070707000200000000"

pub tsig_is_added : with_tsig name 1000 mac plain ≡ signed
unfolding with_tsig tsig_octets tsig_rdata tsig_head wire_of six two four number_of_two
tsig_is_added = refl

-- it is read as it was written
pub tsig_is_read : signature_of signed ≡ Present tsig
unfolding signature_of signature_among after_questions tsig_at after_names after_size header_in shape_of behind_owner
    behind_head head_in name_at name_from element_at labels_in number_of_two number_of_four number_of_six
tsig_is_read = refl

-- the letter case of the owner name doesn't matter
pub owner_in_capitals : signature_of (hex
    "000284000000000000000001014b0000fa00ff00000000003d0b686d61632d736861323536000000000003e8012c00200707070707070707070707070707070707070707070707070707070707070707000200000000")
    ≡ Present tsig
unfolding signature_of signature_among after_questions tsig_at after_names after_size header_in shape_of behind_owner
    behind_head head_in name_at name_from element_at labels_in number_of_two number_of_four number_of_six
owner_in_capitals = refl

-- BADTIME is 18, and its other data is a time in six octets
pub bad_time : signature_of (hex
    "000284000000000000000001016b0000fa00ff0000000000430b686d61632d736861323536000000000003e8012c002007070707070707070707070707070707070707070707070707070707070707070002001200060000000003e9")
    ≡ Present (record tsig { error = 18; other = six 1001 })
unfolding signature_of signature_among after_questions tsig_at after_names after_size header_in shape_of behind_owner
    behind_head head_in name_at name_from element_at labels_in number_of_two number_of_four number_of_six six
bad_time = refl

-- without a TSIG
pub without_one : signature_of plain ≡ Absent
unfolding signature_of signature_among after_questions tsig_at after_names after_size header_in shape_of behind_owner
    behind_head head_in name_at name_from element_at labels_in number_of_two number_of_four number_of_six
without_one = refl

-- class IN
pub another_class : signature_of (hex
    "000284000000000000000001016b0000fa000100000000003d0b686d61632d736861323536000000000003e8012c00200707070707070707070707070707070707070707070707070707070707070707000200000000")
    ≡ Malformed
unfolding signature_of signature_among after_questions tsig_at after_names after_size header_in shape_of behind_owner
    behind_head head_in name_at name_from element_at labels_in number_of_two number_of_four number_of_six
another_class = refl

-- a TTL of 1
pub another_ttl : signature_of (hex
    "000284000000000000000001016b0000fa00ff00000001003d0b686d61632d736861323536000000000003e8012c00200707070707070707070707070707070707070707070707070707070707070707000200000000")
    ≡ Malformed
unfolding signature_of signature_among after_questions tsig_at after_names after_size header_in shape_of behind_owner
    behind_head head_in name_at name_from element_at labels_in number_of_two number_of_four number_of_six
another_ttl = refl

-- in the answer section
pub in_the_answer : signature_of (hex
    "000284000000000100000000016b0000fa00ff00000000003d0b686d61632d736861323536000000000003e8012c00200707070707070707070707070707070707070707070707070707070707070707000200000000")
    ≡ Malformed
unfolding signature_of signature_among after_questions tsig_at after_names after_size header_in shape_of behind_owner
    behind_head head_in name_at name_from element_at labels_in number_of_two number_of_four number_of_six
in_the_answer = refl

-- before another additional record
pub not_the_last : signature_of (hex
    "000284000000000000000002016b0000fa00ff00000000003d0b686d61632d736861323536000000000003e8012c002007070707070707070707070707070707070707070707070707070707070707070002000000000000010001000000000004c0000201")
    ≡ Malformed
unfolding signature_of signature_among after_questions tsig_at after_names after_size header_in shape_of behind_owner
    behind_head head_in name_at name_from element_at labels_in number_of_two number_of_four number_of_six
not_the_last = refl

-- a second one
pub two_of_them : signature_of (hex
    "000284000000000000000002016b0000fa00ff00000000003d0b686d61632d736861323536000000000003e8012c00200707070707070707070707070707070707070707070707070707070707070707000200000000016b0000fa00ff00000000003d0b686d61632d736861323536000000000003e8012c00200707070707070707070707070707070707070707070707070707070707070707000200000000")
    ≡ Malformed
unfolding signature_of signature_among after_questions tsig_at after_names after_size header_in shape_of behind_owner
    behind_head head_in name_at name_from element_at labels_in number_of_two number_of_four number_of_six
two_of_them = refl

-- before octets that belong to no record
pub octets_after_it : signature_of (hex
    "000284000000000000000001016b0000fa00ff00000000003d0b686d61632d736861323536000000000003e8012c0020070707070707070707070707070707070707070707070707070707070707070700020000000000")
    ≡ Malformed
unfolding signature_of signature_among after_questions tsig_at after_names after_size header_in shape_of behind_owner
    behind_head head_in name_at name_from element_at labels_in number_of_two number_of_four number_of_six
octets_after_it = refl

-- a MAC that is longer than the RDATA has room for
pub mac_cut_short : signature_of (hex
    "000284000000000000000001016b0000fa00ff00000000003d0b686d61632d736861323536000000000003e8012c00270707070707070707070707070707070707070707070707070707070707070707000200000000")
    ≡ Malformed
unfolding signature_of signature_among after_questions tsig_at after_names after_size header_in shape_of behind_owner
    behind_head head_in name_at name_from element_at labels_in number_of_two number_of_four number_of_six
mac_cut_short = refl

-- ---- what MACs cover (RFC 8945 sections 4.3 and 5.3.1)
-- of a query: the query and the variables
pub digested_of_a_query : request_mac key plain 1000
    ≡ hmac (codes "s") (plain ++ hex "016b0000ff000000000b686d61632d736861323536000000000003e8012c00000000")
unfolding request_mac wire_of six two four
digested_of_a_query = refl

-- of the first message of an answer: the MAC of the request with its length, the message and the variables, error and
-- other data among them
pub digested_first : mac_input key (first_state mac) signed (record tsig { error = 18; other = six 1001 })
    ≡ hex "0020" ++ mac ++ plain
    ++ hex "016b0000ff000000000b686d61632d736861323536000000000003e8012c001200060000000003e9"
unfolding without_tsig wire_of six two four number_of_two
digested_first = refl

-- of a later one: the previous MAC with its length, the unsigned messages since, the message with its original ID, and
-- the timers
pub digested_later : mac_input key (record { digested = mac_octets mac ++ plain; unsigned = 1; time = Some 999 }) (hex
    "000984000000000000000001016b0000fa00ff00000000003d0b686d61632d736861323536000000000003e8012c00200707070707070707070707070707070707070707070707070707070707070707000200000000")
    tsig
    ≡ hex "0020" ++ mac ++ plain ++ plain ++ hex "0000000003e8012c"
unfolding without_tsig wire_of six two four number_of_two
digested_later = refl

-- ---- faults of a message
-- the state after this number of unsigned messages
abbrev after : ℕ → State
after count = record { digested = []; unsigned = count; time = Some 1000 }

-- the first message without a TSIG
pub first_is_unsigned : step key 1000 false (first_state mac) plain ≡ Err faults.Missing
unfolding step signature_of signature_among after_questions tsig_at after_names after_size header_in shape_of
    behind_owner behind_head head_in name_at name_from element_at labels_in number_of_two number_of_four number_of_six
first_is_unsigned = refl

-- the last one
pub last_is_unsigned : step key 1000 true (after 0) plain ≡ Err faults.Missing
unfolding step signature_of signature_among after_questions tsig_at after_names after_size header_in shape_of
    behind_owner behind_head head_in name_at name_from element_at labels_in number_of_two number_of_four number_of_six
last_is_unsigned = refl

-- the hundredth in a row
pub hundredth_is_unsigned : step key 1000 false (after 99) plain ≡ Err faults.Missing
unfolding step signature_of signature_among after_questions tsig_at after_names after_size header_in shape_of
    behind_owner behind_head head_in name_at name_from element_at labels_in number_of_two number_of_four number_of_six
hundredth_is_unsigned = refl

-- the ninety-ninth goes on
pub ninety_ninth_is_unsigned : step key 1000 false (after 98) plain
    ≡ Ok (record { digested = plain; unsigned = 99; time = Some 1000 })
unfolding step signature_of signature_among after_questions tsig_at after_names after_size header_in shape_of
    behind_owner behind_head head_in name_at name_from element_at labels_in number_of_two number_of_four number_of_six
ninety_ninth_is_unsigned = refl

-- another key; its MAC is wrong too
pub another_key : step key 1000 true (first_state mac) (hex
    "000284000000000000000001016a0000fa00ff00000000003d0b686d61632d736861323536000000000003e8012c00200707070707070707070707070707070707070707070707070707070707070707000200000000")
    ≡ Err faults.Name
unfolding step signature_of signature_among after_questions tsig_at after_names after_size header_in shape_of
    behind_owner behind_head head_in name_at name_from element_at labels_in number_of_two number_of_four number_of_six
another_key = refl

-- another algorithm: hmac-sha512
pub another_algorithm : step key 1000 true (first_state mac) (hex
    "000284000000000000000001016b0000fa00ff00000000003d0b686d61632d736861353132000000000003e8012c00200707070707070707070707070707070707070707070707070707070707070707000200000000")
    ≡ Err faults.Name
unfolding step signature_of signature_among after_questions tsig_at after_names after_size header_in shape_of
    behind_owner behind_head head_in name_at name_from element_at labels_in number_of_two number_of_four number_of_six
another_algorithm = refl

-- another MAC
pub another_mac : step key 1000 true (first_state mac) signed ≡ Err faults.Mac
unfolding step signature_of signature_among after_questions tsig_at after_names after_size header_in shape_of
    behind_owner behind_head head_in name_at name_from element_at labels_in number_of_two number_of_four number_of_six
    hmac padded sha256 compress digest_bytes first_words hash_after rounds schedule without_tsig wire_of six two four
another_mac = refl

-- a first message of this time and error, whose MAC is right
abbrev right : ℕ → ℕ → Octets
right time error =
    hex "000284000000000000000001016b0000fa00ff00000000003d0b686d61632d73686132353600" ++ (six time ++ (hex "012c0020"
    ++ (hmac (codes "s") (hex "0020" ++ mac ++ plain ++ hex "016b0000ff000000000b686d61632d73686132353600" ++ six time
    ++ hex "012c" ++ two error ++ hex "0000")
    ++ (hex "0002" ++ (two error ++ hex "0000")))))

pub right_passes : is_ok (step key 1000 true (first_state mac) (right 1000 0)) ≡ true
unfolding step signature_of signature_among after_questions tsig_at after_names after_size header_in shape_of
    behind_owner behind_head head_in name_at name_from element_at labels_in number_of_two number_of_four number_of_six
    hmac padded sha256 compress digest_bytes first_words hash_after rounds schedule without_tsig wire_of six two four
right_passes = refl

-- BADTIME
pub right_with_error : step key 1000 true (first_state mac) (right 1000 18) ≡ Err faults.Error
unfolding step signature_of signature_among after_questions tsig_at after_names after_size header_in shape_of
    behind_owner behind_head head_in name_at name_from element_at labels_in number_of_two number_of_four number_of_six
    hmac padded sha256 compress digest_bytes first_words hash_after rounds schedule without_tsig wire_of six two four
right_with_error = refl

-- a time that is too early counts before an error
pub right_but_early : step key 1301 true (first_state mac) (right 1000 18) ≡ Err faults.Time
unfolding step signature_of signature_among after_questions tsig_at after_names after_size header_in shape_of
    behind_owner behind_head head_in name_at name_from element_at labels_in number_of_two number_of_four number_of_six
    hmac padded sha256 compress digest_bytes first_words hash_after rounds schedule without_tsig wire_of six two four
right_but_early = refl

-- ---- times
-- a TSIG of this time
abbrev at : ℕ → Tsig
at time = record tsig { time = time }

pub as_late_as_may_be : is_timely 1000 None (at 1300) ≡ true
as_late_as_may_be = refl

pub too_late : is_timely 1000 None (at 1301) ≡ false
too_late = refl

pub as_early_as_may_be : is_timely 1000 None (at 700) ≡ true
as_early_as_may_be = refl

pub too_early : is_timely 1000 None (at 699) ≡ false
too_early = refl

-- in a later message only the previous time counts
pub the_same_time : is_timely 5000 (Some 1000) (at 1000) ≡ true
the_same_time = refl

pub time_goes_back : is_timely 1000 (Some 1000) (at 999) ≡ false
time_goes_back = refl
