-- A line of the script is read as what it was written for.
use Rattle.std.proofs.Common.{◌≡◌, ℕ, ◌-◌, ◌/◌, ◌%◌, ◌^◌, ◌<◌, Bool, true, false, List, [], ◌∷◌, ◌++◌, length, refl}
use Rattle.std.proofs.Common.{◌∙◌, ap, arith, Option, Some, Ok}
use Rattle.std.specs.Prelude.{◌==◌, ◌&&◌, nat_lt, nat_le, nat_eq, slice_index, codes}
use Rattle.std.specs.List.{AllByRecursion, onto_first}
use Rattle.std.specs.Str.{bytes_eq}
use Rattle.std.proofs.lemmas.Bool.Decides.{nat_tests}
use Rattle.std.proofs.lemmas.List.Splits.{slice_split-cons_no}
use Rattle.hex.specs.Hex.{decode_of, encode_lower, encode_with, hex_digit_value, lower_digits}
use Rattle.hex.proofs.HexLemmas.{IsDigits-lower_digits, decode_of-encode_lower}
use Rattle.dz_script.specs.Lines.{HasNoNewline}
use Rattle.dz_name.specs.Words.{Octets}
use Rattle.dz_header.specs.declared.transport.Transport.TheVariants.{Udp}
use Rattle.dz_script.specs.Event.{ticket_of, take_from, ask_from, event_of}
use Rattle.dz_script.specs.Fields.{fields_of}
use Rattle.dz_script.specs.Hex.{taken_octets, octets_in}
use Rattle.dz_script.specs.Line.{moment_of, event_at, event_line, line_in, is_skipped, line_of}
use Rattle.dz_script.specs.declared.line.Event.{Event}
use Rattle.dz_script.specs.declared.line.Event.TheVariants.{Job, Take, Ask}
use Rattle.dz_script.specs.declared.line.Line.TheVariants as lines
use Rattle.dz_gen.proofs.ByteLemmas.{AreBytes, byte_there}
use Rattle.dz_gen.proofs.DecimalLemmas.{AreDigits, IsNumber, number_read}
use Rattle.dz_gen.proofs.MessageLemmas.{AreSome, IsRequest}

-- ---- fields
-- a field has neither a space nor a newline
abbrev pub IsField : Octets → Type 0
IsField text = AllByRecursion (λ c. 32 < c) text

abbrev pub IsText : Octets → Type 0
IsText text = AllByRecursion (λ c. 31 < c) text

pub field_text : (text : Octets) → IsField text → IsText text
field_text [] p = tt
field_text (c ∷ text) p = (omega (arith, p.0), field_text text p.1)

pub text-append : (text more : Octets) → IsText text → IsText more → IsText (text ++ more)
text-append [] more p q = q
text-append (c ∷ text) more p q = (p.0, text-append text more p.1 q)

pub no_newline : (text : Octets) → IsText text → HasNoNewline text
no_newline [] p = tt
no_newline (c ∷ text) p = ((λ e. omega (arith, p.0, e)), no_newline text p.1)

digits_field : (text : Octets) → AreDigits text → IsField text
digits_field [] p = tt
digits_field (c ∷ text) p = (omega (arith, p.0), digits_field text p.1)

pub number_field : (n : ℕ) (text : Octets) → IsNumber n text → IsField text
number_field n text is = digits_field text is.digits

hex_high : (c v : ℕ) → hex_digit_value c ≡ Some v → 32 < c
hex_high c v h = grind (arith, nat_tests)

pub hex_field : (octets : Octets) → AreBytes octets → IsField (encode_lower octets)
unfolding encode_with
hex_field [] p = tt
hex_field (b ∷ octets) p =
    let fits : b < 256 = p.0 in (
      hex_high (slice_index lower_digits (b / 16)) (b / 16) (IsDigits-lower_digits (b / 16) (omega arith)),
      (
        hex_high (slice_index lower_digits (b % 16)) (b % 16) (IsDigits-lower_digits (b % 16) (omega arith)),
        hex_field octets p.1,
      ),
    )

no_space : (c : ℕ) → 32 < c → (c == 32) ≡ false
no_space c high = grind (arith, nat_tests)

-- a field, a space and the rest
pub first_field : (field rest : Octets) → IsField field → fields_of (field ++ 32 ∷ rest) ≡ field ∷ fields_of rest
first_field [] rest p = refl
first_field (c ∷ field) rest p =
    slice_split-cons_no (λ octet. octet == 32) c (field ++ 32 ∷ rest) (no_space c p.0)
    ∙ ap (onto_first c) (first_field field rest p.1)

pub last_field : (field : Octets) → IsField field → fields_of field ≡ field ∷ []
last_field [] p = refl
last_field (c ∷ field) p = slice_split-cons_no (λ octet. octet == 32) c field (no_space c p.0)
    ∙ ap (onto_first c) (last_field field p.1)

-- ---- events
not_skipped : (c : ℕ) (text : Octets) → 47 < c → is_skipped (c ∷ text) ≡ false
not_skipped c text high =
    let empty : (length (c ∷ text) == 0) ≡ false = grind (arith, nat_tests) in
    let comment : nat_eq 35 c ≡ false = grind (arith, nat_tests) in
    rw (empty, comment) refl

not_skipped_line : (line : Octets) → is_skipped line ≡ false → line_of line ≡ line_in (fields_of line)
unfolding line_of
not_skipped_line line kept = rw kept refl

-- a moment is no word
moment_in : (c : ℕ) (moment : Octets) (fields : List Octets) → c < 58
    → line_in ((c ∷ moment) ∷ fields) ≡ event_line (c ∷ moment) fields
moment_in c moment fields low =
    let catalog : nat_eq c 99 ≡ false = grind (arith, nat_tests) in
    let group : nat_eq c 103 ≡ false = grind (arith, nat_tests) in
    rw (catalog, group) refl

moment_first : (moment rest : Octets) → AreDigits moment → 0 < length moment
    → fields_of (moment ++ 32 ∷ rest) ≡ moment ∷ fields_of rest
    → line_of (moment ++ 32 ∷ rest) ≡ event_line moment (fields_of rest)
moment_first [] rest digits some fields = absurd (omega arith)
moment_first (c ∷ moment) rest digits some fields =
    not_skipped_line ((c ∷ moment) ++ 32 ∷ rest) (not_skipped c (moment ++ 32 ∷ rest) digits.0.0)
    ∙ (ap line_in fields ∙ moment_in c moment (fields_of rest) digits.0.1)

pub event_read : (moment rest : Octets) (m : ℕ) (fields : List Octets) (event : Event) → IsNumber m moment → m < 2 ^ 40
    → fields_of rest ≡ fields
    → event_of fields ≡ Some event → line_of (moment ++ 32 ∷ rest) ≡ Some (lines.Event m event)
event_read moment rest m fields event is early cut reads =
    moment_first moment rest is.digits is.some (first_field moment rest (number_field m moment is))
    ∙ (ap (λ fs. event_at (moment_of moment) (event_of fs)) cut
    ∙ (ap (event_at (moment_of moment)) reads
    ∙ ap (λ (o : Option ℕ). event_at o (Some event)) (number_read (2 ^ 40 - 1) m moment is (omega arith))))

-- ---- octets in hex
pub hex_back : (octets : Octets) → AreBytes octets → decode_of (encode_lower octets) ≡ Ok octets
hex_back octets p = decode_of-encode_lower octets (byte_there octets p)

two_are_not_one : (b : Bool) → (b && false) ≡ false
two_are_not_one true = refl
two_are_not_one false = refl

no_dash : (octets : Octets) → 0 < length octets → bytes_eq (encode_lower octets) (codes "-") ≡ false
unfolding encode_with
no_dash [] some = absurd (omega arith)
no_dash (b ∷ octets) some = two_are_not_one _

pub taken_back : (octets : Octets) → AreSome octets → taken_octets (encode_lower octets) ≡ Some octets
unfolding taken_octets
taken_back octets is =
    let t : nat_lt 0 (length octets) ≡ true = grind (arith, nat_tests, is.some) in
    rw (no_dash octets is.some, hex_back octets is.bytes, t) refl

pub request_back : (octets : Octets) → IsRequest octets → octets_in (encode_lower octets) ≡ Some octets
unfolding octets_in
request_back octets is =
    let t : nat_lt 0 (length octets) ≡ true = grind (arith, nat_tests, is.some) in
    let u : nat_le (length octets) 65535 ≡ true = grind (arith, nat_tests, is.short) in
    rw (hex_back octets is.bytes, t, u) refl

-- ---- what an event's fields say
pub job_said : event_of (codes "job" ∷ []) ≡ Some Job
job_said = refl

pub take_said : (ticket : ℕ) (octets number hex : Octets) → IsNumber ticket number → ticket < 2 ^ 64
    → taken_octets hex ≡ Some octets
    → event_of (codes "take" ∷ number ∷ hex ∷ []) ≡ Some (Take ticket octets)
take_said ticket octets number hex is small back =
    let read : ticket_of number ≡ Some ticket = number_read (2 ^ 64 - 1) ticket number is (omega arith) in
    ap (λ t. take_from t (taken_octets hex)) read ∙ ap (take_from (Some ticket)) back

pub ask_said : (octets hex : Octets) → octets_in hex ≡ Some octets
    → event_of (codes "udp" ∷ codes "198.51.100.1" ∷ hex ∷ [])
    ≡ Some (Ask Udp (record { address = 198 ∷ 51 ∷ 100 ∷ 1 ∷ []; port = 53 }) octets)
ask_said octets hex back = ap (ask_from Udp (Some (record { address = 198 ∷ 51 ∷ 100 ∷ 1 ∷ []; port = 53 }))) back
