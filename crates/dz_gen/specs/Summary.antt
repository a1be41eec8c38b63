-- Meaning: the summary of what a server wrote.
use Rattle.std.specs.Prelude.{ℕ, Bool, ◌==◌, ◌&&◌, nat_eq, [], ◌∷◌, ◌++◌, length, drop, filter, codes, decimal}
use Rattle.std.specs.List.{slice_split, starts_with}
use Rattle.hex.specs.Hex.{encode_lower}
use Rattle.sha2.specs.Sha512.{sha384}
use Rattle.dz_name.specs.Words.{Octets}

-- a line ends with this octet
abbrev pub is_newline : ℕ → Bool
is_newline octet = octet == 10

-- how many lines pass a test
abbrev pub count_of : (Octets → Bool) → Octets → ℕ
count_of test text = length (filter test (slice_split is_newline text))

-- a line begins with a word and a space
abbrev pub begins : Octets → Octets → Bool
begins word line = starts_with nat_eq line word

-- a line is a reply of a response code, by its digit: the eighth after `reply ` (RFC 1035 section 4.1.1)
abbrev pub has_code : Octets → Octets → Bool
has_code digit line = starts_with nat_eq line (codes "reply ") && starts_with nat_eq (drop 13 line) digit

-- a word and a number on a line
unfoldable pub tally : Octets → ℕ → Octets
tally word n = word ++ (decimal n ++ 10 ∷ [])

-- how many jobs were asked for, and what came of them
abbrev pub events : Octets → Octets
events text =
    (((tally (codes "jobs ") (count_of (begins (codes "job ")) text)
    ++ tally (codes "published ") (count_of (begins (codes "published ")) text))
    ++ tally (codes "refused ") (count_of (begins (codes "refused ")) text))
    ++ tally (codes "added ") (count_of (begins (codes "added ")) text))
    ++ tally (codes "reset ") (count_of (begins (codes "reset ")) text)

-- how many replies had the codes NOERROR, SERVFAIL and REFUSED
abbrev pub replies : Octets → Octets
replies text =
    (tally (codes "noerror ") (count_of (has_code (codes "0")) text)
    ++ tally (codes "servfail ") (count_of (has_code (codes "2")) text))
    ++ tally (codes "refused-replies ") (count_of (has_code (codes "5")) text)

-- the whole summary, with the SHA-384 of the text
abbrev pub summary : Octets → Octets
summary text = (events text ++ replies text) ++ (codes "digest " ++ (encode_lower (sha384 text) ++ 10 ∷ []))
