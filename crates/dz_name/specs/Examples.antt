-- Judge: names, their order, their text and their reading, and the numbers of the DNS, computed by the checker.
use Rattle.std.specs.Prelude.{◌≡◌, ℕ, ◌-◌, List, refl, [], ◌∷◌, ◌++◌, map, flat_map, length, replicate, codes, Result}
use Rattle.std.specs.Prelude.{Some, None, Ok, Err, true, false}
use Rattle.std.specs.declared.cmp.Ordering.TheVariants.{Less, Equal, Greater}
use Rattle.dz_name.specs.Words.{Name, Octets}
use Rattle.dz_name.specs.Name.{lower, wire_of, same_name, is_within, canonical_order, wildcard_of}
use Rattle.dz_name.specs.Reading.{Reading, name_at, name_from, element_at, canonical_end}
use Rattle.dz_name.specs.declared.wire_fault.WireFault.TheVariants.{Short, BadLabelKind, BadPointer}
use Rattle.dz_name.specs.declared.wire_fault.WireFault.TheVariants as faults
use Rattle.dz_name.specs.Text.{items, labels_from, with_label, name_of_text, text_of}
use Rattle.dz_name.specs.declared.text.NameError.{NameError}
use Rattle.dz_name.specs.declared.text.NameError.TheVariants.{LabelTooLong, NameTooLong, EmptyLabel, BadEscape}
use Rattle.dz_name.specs.declared.dns.TheConstants.{TYPE_A, TYPE_NS, TYPE_MD, TYPE_MF, TYPE_CNAME, TYPE_SOA, TYPE_MB}
use Rattle.dz_name.specs.declared.dns.TheConstants.{TYPE_MG, TYPE_MR, TYPE_PTR, TYPE_MINFO, TYPE_MX, TYPE_TXT, TYPE_RP}
use Rattle.dz_name.specs.declared.dns.TheConstants.{TYPE_AFSDB, TYPE_RT, TYPE_SIG, TYPE_PX, TYPE_AAAA, TYPE_NXT}
use Rattle.dz_name.specs.declared.dns.TheConstants.{TYPE_SRV, TYPE_NAPTR, TYPE_KX, TYPE_A6, TYPE_DNAME, TYPE_OPT}
use Rattle.dz_name.specs.declared.dns.TheConstants.{TYPE_DS, TYPE_RRSIG, TYPE_NSEC, TYPE_ZONEMD, TYPE_TKEY, TYPE_IXFR}
use Rattle.dz_name.specs.declared.dns.TheConstants.{TYPE_AXFR, TYPE_MAILA, TYPE_ANY, CLASS_IN, OPCODE_QUERY}
use Rattle.dz_name.specs.declared.dns.TheConstants.{OPCODE_NOTIFY, LABEL_OCTETS, NAME_OCTETS, HEADER_OCTETS}
use Rattle.dz_name.specs.declared.dns.TheConstants.{MESSAGE_OCTETS, LENGTH_OCTETS, UDP_OCTETS, EDNS_OCTETS, ALIASES}
use Rattle.dz_name.specs.declared.dns.TheConstants.{ZONE_RECORDS, TRANSFER_OCTETS}
use Rattle.dz_name.specs.declared.decimal.TheConstants.{PAST}
use Rattle.dz_name.specs.declared.name_ref.TheConstants.{LABELS}
use Rattle.dz_name.specs.declared.wire.TheConstants.{POINTER_REACH}
use Rattle.dz_name.specs.declared.wire_fault.TheConstants.{NAME_LOOKS}

-- example.
abbrev example : Name
example = codes "example" ∷ []

pub wire_of_example : wire_of example ≡ 7 ∷ codes "example" ++ 0 ∷ []
unfolding wire_of
wire_of_example = refl

-- RFC 1035 section 4.1.4: F.ISI.ARPA, FOO.F.ISI.ARPA with a pointer to it, and ARPA by a pointer into it
abbrev rfc_1035 : Octets
rfc_1035 = 1 ∷ codes "F" ++ 3 ∷ codes "ISI" ++ 4 ∷ codes "ARPA" ++ 0 ∷ 3 ∷ codes "FOO" ++ 192 ∷ 0 ∷ 192 ∷ 6 ∷ []

pub foo_f_isi_arpa : name_at rfc_1035 12 ≡ Ok (codes "foo" ∷ codes "f" ∷ codes "isi" ∷ codes "arpa" ∷ [], 18)
unfolding name_at name_from element_at
foo_f_isi_arpa = refl

pub arpa : name_at rfc_1035 18 ≡ Ok (codes "arpa" ∷ [], 20)
unfolding name_at name_from element_at
arpa = refl

-- a pointer to itself, and a label that is cut short
pub pointer_to_itself : name_at (192 ∷ 0 ∷ []) 0 ≡ Err BadPointer
unfolding name_at name_from element_at
pointer_to_itself = refl

pub cut_label : name_at (3 ∷ codes "ab") 0 ≡ Err Short
unfolding name_at name_from element_at
cut_label = refl

-- RFC 4034 section 6.1: example, a.example, yljkjljk.a.example, Z.a.example, zABC.a.EXAMPLE, z.example
pub apex_first : canonical_order example (codes "a" ∷ example) ≡ Less
apex_first = refl

pub child_before_sibling : canonical_order (codes "yljkjljk" ∷ codes "a" ∷ example) (codes "z" ∷ codes "a" ∷ example)
    ≡ Less
child_before_sibling = refl

pub shorter_label_first : canonical_order (codes "zabc" ∷ codes "a" ∷ example) (codes "z" ∷ codes "a" ∷ example)
    ≡ Greater
shorter_label_first = refl

pub by_the_last_label : canonical_order (codes "z" ∷ example) (codes "zabc" ∷ codes "a" ∷ example) ≡ Greater
by_the_last_label = refl

pub below_itself : is_within example example ≡ true
below_itself = refl

pub beside : is_within (codes "an-example" ∷ []) example ≡ false
beside = refl

-- texts: escapes, and texts that are not names (RFC 1035 section 5.1)
pub escapes : name_of_text (codes "A\\.b\\046.Example.") ≡ Ok (codes "a.b." ∷ example)
unfolding name_of_text items labels_from with_label wire_of
escapes = refl

pub two_dots : name_of_text (codes "a..b") ≡ Err EmptyLabel
unfolding name_of_text items labels_from with_label wire_of
two_dots = refl

pub above_255 : name_of_text (codes "\\256") ≡ Err BadEscape
unfolding name_of_text items labels_from with_label wire_of
above_255 = refl

pub text_of_wildcard : text_of (wildcard_of example) ≡ codes "*.example."
unfolding text_of
text_of_wildcard = refl

-- ---- the order of RFC 4034 section 6.1, but for the name with an octet above 127, which follows the one with `\001`
abbrev in_order : List Name
in_order =
    (codes "example" ∷ [])
    ∷ (codes "a" ∷ codes "example" ∷ [])
    ∷ (codes "yljkjljk" ∷ codes "a" ∷ codes "example" ∷ [])
    ∷ (codes "z" ∷ codes "a" ∷ codes "example" ∷ [])
    ∷ (codes "zabc" ∷ codes "a" ∷ codes "example" ∷ [])
    ∷ (codes "z" ∷ codes "example" ∷ [])
    ∷ ((1 ∷ []) ∷ codes "z" ∷ codes "example" ∷ [])
    ∷ (codes "*" ∷ codes "z" ∷ codes "example" ∷ [])
    ∷ ((200 ∷ []) ∷ codes "z" ∷ codes "example" ∷ [])
    ∷ []

abbrev from_0_to_8 : List ℕ
from_0_to_8 = 0 ∷ 1 ∷ 2 ∷ 3 ∷ 4 ∷ 5 ∷ 6 ∷ 7 ∷ 8 ∷ []

-- each against each: greater than those before it, equal to itself, and less than those after it
pub order_of_rfc_4034 : map (λ a. map (canonical_order a) in_order) in_order
    ≡ map (λ i. replicate i Greater ++ Equal ∷ replicate (8 - i) Less) from_0_to_8
order_of_rfc_4034 = refl

pub each_is_itself_alone : map (λ a. map (same_name a) in_order) in_order
    ≡ map (λ i. replicate i false ++ true ∷ replicate (8 - i) false) from_0_to_8
each_is_itself_alone = refl

pub root_before_all : canonical_order [] (codes "a" ∷ []) ≡ Less
root_before_all = refl

-- ---- texts of names (RFC 1035 section 5.1)
-- all that computes the name of a text: whoever unfolds `read` unfolds its whole list
read : Octets → Result Name NameError
unfolding name_of_text items labels_from with_label wire_of
read text = name_of_text text

pub the_root : name_of_text (codes ".") ≡ Ok []
unfolding read
the_root = refl

pub with_a_last_dot : name_of_text (codes "example.") ≡ Ok (codes "example" ∷ [])
unfolding read
with_a_last_dot = refl

pub without_a_last_dot : name_of_text (codes "example") ≡ Ok (codes "example" ∷ [])
unfolding read
without_a_last_dot = refl

pub in_lower_case : name_of_text (codes "WWW.Example.COM") ≡ Ok (codes "www" ∷ codes "example" ∷ codes "com" ∷ [])
unfolding read
in_lower_case = refl

pub an_escaped_dot : name_of_text (codes "a\\.b.c") ≡ Ok (codes "a.b" ∷ codes "c" ∷ [])
unfolding read
an_escaped_dot = refl

pub an_escaped_backslash : name_of_text (codes "\\\\.c.") ≡ Ok (codes "\\" ∷ codes "c" ∷ [])
unfolding read
an_escaped_backslash = refl

pub a_dot_as_label : name_of_text (codes "\\.") ≡ Ok (codes "." ∷ [])
unfolding read
a_dot_as_label = refl

pub octets_by_number : name_of_text (codes "\\000\\255x") ≡ Ok ((0 ∷ 255 ∷ 120 ∷ []) ∷ [])
unfolding read
octets_by_number = refl

pub numbers_of_a_dot_and_a_backslash : name_of_text (codes "\\065\\046\\092") ≡ Ok (codes "a.\\" ∷ [])
unfolding read
numbers_of_a_dot_and_a_backslash = refl

pub other_characters_behind_a_backslash : name_of_text (codes "\\A\\@\\ .") ≡ Ok (codes "a@ " ∷ [])
unfolding read
other_characters_behind_a_backslash = refl

pub services_and_wildcards : name_of_text (codes "_sip._TCP.*./")
    ≡ Ok (codes "_sip" ∷ codes "_tcp" ∷ codes "*" ∷ codes "/" ∷ [])
unfolding read
services_and_wildcards = refl

pub octets_as_they_are : name_of_text (codes "a b" ++ 0 ∷ 233 ∷ []) ≡ Ok ((97 ∷ 32 ∷ 98 ∷ 0 ∷ 233 ∷ []) ∷ [])
unfolding read
octets_as_they_are = refl

pub three_digits_and_no_more : name_of_text (codes "\\0099") ≡ Ok ((9 ∷ 57 ∷ []) ∷ [])
unfolding read
three_digits_and_no_more = refl

-- the first fault of these: a label without octets
pub labels_without_octets : map name_of_text ([] ∷ codes ".." ∷ codes ".a" ∷ codes "a.." ∷ codes "a..b" ∷
    codes "a..\\300" ∷ [])
    ≡ replicate 6 (Err EmptyLabel)
unfolding read
labels_without_octets = refl

-- and of these: a backslash without an octet
pub escapes_of_no_octet : map name_of_text (codes "\\" ∷ codes "a.\\" ∷ codes "\\1" ∷ codes "\\12" ∷ codes "\\12a" ∷
    codes "\\1.a" ∷ codes "\\256" ∷ codes "\\300" ∷ codes "\\999" ∷ codes "a\\300.." ∷ [])
    ≡ replicate 10 (Err BadEscape)
unfolding read
escapes_of_no_octet = refl

-- ---- a label has at most 63 octets, and an escape counts as one (RFC 1035 section 3.1)
abbrev letters : ℕ → Octets
letters n = replicate n 97

pub a_label_of_63_octets : name_of_text (letters 63) ≡ Ok (letters 63 ∷ [])
unfolding read
a_label_of_63_octets = refl

pub labels_of_64_octets_and_of_70 : map name_of_text (letters 64 ∷ letters 70 ∷ []) ≡ replicate 2 (Err LabelTooLong)
unfolding read
labels_of_64_octets_and_of_70 = refl

-- a bad escape within a label comes before the label's end, and one after its dot comes after it
pub a_bad_escape_in_a_long_label : name_of_text (letters 69 ++ 92 ∷ []) ≡ Err BadEscape
unfolding read
a_bad_escape_in_a_long_label = refl

pub a_bad_escape_behind_a_long_label : name_of_text (letters 68 ++ 46 ∷ 92 ∷ []) ≡ Err LabelTooLong
unfolding read
a_bad_escape_behind_a_long_label = refl

abbrev escaped : ℕ → Octets
escaped n = flat_map (λ text. text) (replicate n (codes "\\097"))

pub a_label_of_63_escapes : name_of_text (escaped 63) ≡ Ok (letters 63 ∷ [])
unfolding read
a_label_of_63_escapes = refl

pub a_label_of_64_escapes : name_of_text (escaped 64) ≡ Err LabelTooLong
unfolding read
a_label_of_64_escapes = refl

-- ---- a name has at most 255 octets (RFC 1035 section 3.1)
abbrev three_long_labels : Octets
three_long_labels = letters 63 ++ 46 ∷ letters 63 ++ 46 ∷ letters 63 ++ 46 ∷ []

abbrev longest : Name
longest = letters 63 ∷ letters 63 ∷ letters 63 ∷ letters 61 ∷ []

pub octets_of_the_longest : length (wire_of longest) ≡ 255
unfolding wire_of
octets_of_the_longest = refl

pub the_longest_is_read : name_of_text (three_long_labels ++ letters 61) ≡ Ok longest
unfolding read
the_longest_is_read = refl

pub an_octet_more_is_too_long : name_of_text (three_long_labels ++ letters 62) ≡ Err NameTooLong
unfolding read
an_octet_more_is_too_long = refl

pub a_long_label_before_a_long_name : name_of_text (three_long_labels ++ letters 64) ≡ Err LabelTooLong
unfolding read
a_long_label_before_a_long_name = refl

-- the name is too long at the end of its fourth label, so what comes after this one is not read
pub a_long_name_before_an_empty_label : name_of_text (three_long_labels ++ letters 62 ++ 46 ∷ 46 ∷ 97 ∷ [])
    ≡ Err NameTooLong
unfolding read
a_long_name_before_an_empty_label = refl

-- ---- names as text: letters, digits and `-`, `_`, `*`, `/` stand for themselves; a dot and a backslash are escaped,
-- and all others are numbers
abbrev printed : Octets → Octets
printed label = text_of (lower label ∷ codes "x" ∷ [])

pub text_of_plain : printed (codes "azAZ09-_*/") ≡ codes "azaz09-_*/.x."
unfolding text_of
text_of_plain = refl

pub text_of_dot_and_backslash : printed (46 ∷ 92 ∷ []) ≡ codes "\\.\\\\.x."
unfolding text_of
text_of_dot_and_backslash = refl

pub text_of_below_the_visible : printed (0 ∷ 9 ∷ 31 ∷ 32 ∷ []) ≡ codes "\\000\\009\\031\\032.x."
unfolding text_of
text_of_below_the_visible = refl

pub text_of_marks : printed (33 ∷ 34 ∷ codes "#$%&'()+,")
    ≡ codes "\\033\\034\\035\\036\\037\\038\\039\\040\\041\\043\\044.x."
unfolding text_of
text_of_marks = refl

pub text_of_marks_between_digits_and_letters : printed (codes ":;<=>?@")
    ≡ codes "\\058\\059\\060\\061\\062\\063\\064.x."
unfolding text_of
text_of_marks_between_digits_and_letters = refl

pub text_of_marks_behind_letters : printed (codes "[]^`{|}~") ≡ codes "\\091\\093\\094\\096\\123\\124\\125\\126.x."
unfolding text_of
text_of_marks_behind_letters = refl

pub text_of_above_the_visible : printed (127 ∷ 128 ∷ 193 ∷ 255 ∷ []) ≡ codes "\\127\\128\\193\\255.x."
unfolding text_of
text_of_above_the_visible = refl

pub text_of_the_root : text_of [] ≡ codes "."
unfolding text_of
text_of_the_root = refl

-- ---- names in messages (RFC 1035 sections 3.1 and 4.1.4)
-- all that computes the reading of a name
read_at : Octets → ℕ → Reading
unfolding name_at name_from element_at
read_at m at = name_at m at

pub the_root_in_a_message : name_at (0 ∷ []) 0 ≡ Ok ([], 1)
unfolding read_at
the_root_in_a_message = refl

pub two_labels : name_at (3 ∷ codes "www" ++ 7 ∷ codes "example" ++ 0 ∷ []) 0
    ≡ Ok (codes "www" ∷ codes "example" ∷ [], 13)
unfolding read_at
two_labels = refl

pub two_labels_in_lower_case : name_at (3 ∷ codes "wWW" ++ 7 ∷ codes "EXAMPLE" ++ 0 ∷ []) 0
    ≡ Ok (codes "www" ∷ codes "example" ∷ [], 13)
unfolding read_at
two_labels_in_lower_case = refl

pub letters_and_their_neighbours : name_at (8 ∷ codes "@AZ[`az{" ++ 0 ∷ []) 0 ≡ Ok (codes "@az[`az{" ∷ [], 10)
unfolding read_at
letters_and_their_neighbours = refl

pub behind_other_octets : name_at (255 ∷ 255 ∷ 1 ∷ codes "a" ++ 0 ∷ 255 ∷ []) 2 ≡ Ok (codes "a" ∷ [], 5)
unfolding read_at
behind_other_octets = refl

pub a_pointer_behind_a_label : name_at (7 ∷ codes "example" ++ 0 ∷ 3 ∷ codes "www" ++ 192 ∷ 0 ∷ []) 9
    ≡ Ok (codes "www" ∷ codes "example" ∷ [], 15)
unfolding read_at
a_pointer_behind_a_label = refl

pub a_pointer_alone : name_at (7 ∷ codes "Example" ++ 0 ∷ 192 ∷ 0 ∷ []) 9 ≡ Ok (codes "example" ∷ [], 11)
unfolding read_at
a_pointer_alone = refl

pub two_pointers : name_at (1 ∷ codes "a" ++ 0 ∷ 192 ∷ 0 ∷ 192 ∷ 3 ∷ []) 5 ≡ Ok (codes "a" ∷ [], 7)
unfolding read_at
two_pointers = refl

pub a_pointer_into_a_name : name_at (3 ∷ codes "www" ++ 7 ∷ codes "example" ++ 0 ∷ 1 ∷ codes "b" ++ 192 ∷ 4 ∷ []) 13
    ≡ Ok (codes "b" ∷ codes "example" ∷ [], 17)
unfolding read_at
a_pointer_into_a_name = refl

pub labels_and_pointers_in_turn : name_at (1 ∷ codes "a" ++ 0 ∷ 1 ∷ codes "b" ++ 192 ∷ 0 ∷ 1 ∷ codes "c" ++ 192 ∷ 3 ∷
    []) 7
    ≡ Ok (codes "c" ∷ codes "b" ∷ codes "a" ∷ [], 11)
unfolding read_at
labels_and_pointers_in_turn = refl

-- labels of these lengths, one after the other
abbrev label_of : ℕ → Octets
label_of n = n ∷ letters n

abbrev labels_of_lengths : List ℕ → Octets
labels_of_lengths lengths = flat_map label_of lengths

-- five labels fill 320 octets; the pointer leads to the fifth, which begins at 256
pub a_pointer_has_14_bits : name_at (labels_of_lengths (63 ∷ 63 ∷ 63 ∷ 63 ∷ 63 ∷ []) ++ 0 ∷ 193 ∷ 0 ∷ []) 321
    ≡ Ok (letters 63 ∷ [], 323)
unfolding read_at
a_pointer_has_14_bits = refl

-- no octet, a label that is cut, and a pointer of one octet
pub octets_that_are_missing : map (λ (row : Octets × ℕ). name_at row.0 row.1) (([], 0) ∷ (0 ∷ [], 1) ∷ (
  0 ∷ [],
  18446744073709551615,
) ∷ (1 ∷ codes "a", 0) ∷ (3 ∷ 97 ∷ 98 ∷ [], 0) ∷ (192 ∷ [], 0) ∷ (
  0 ∷ 1 ∷ codes "a" ++ 192 ∷
      [],
  1,
) ∷ [])
    ≡ replicate 7 (Err Short)
unfolding read_at
octets_that_are_missing = refl

-- the top bits 01 and 10 are no label's
pub top_bits_01_and_10 : map (λ (row : Octets × ℕ). name_at row.0 row.1) ((64 ∷ 0 ∷ [], 0) ∷ (127 ∷ [], 0) ∷ (
  128 ∷ 0 ∷
      [],
  0,
) ∷ (191 ∷ [], 0) ∷ (1 ∷ codes "a" ++ 64 ∷ [], 0) ∷ [])
    ≡ replicate 5 (Err BadLabelKind)
unfolding read_at
top_bits_01_and_10 = refl

-- a pointer to itself
pub pointer_to_0_at_0 : name_at (192 ∷ 0 ∷ []) 0 ≡ Err BadPointer
unfolding read_at
pointer_to_0_at_0 = refl

pub pointer_to_itself_behind_a_root : name_at (0 ∷ 192 ∷ 1 ∷ []) 1 ≡ Err BadPointer
unfolding read_at
pointer_to_itself_behind_a_root = refl

-- to the first octet of its own piece, and to a later one
pub pointer_to_its_own_piece : name_at (0 ∷ 1 ∷ codes "a" ++ 192 ∷ 1 ∷ []) 1 ≡ Err BadPointer
unfolding read_at
pointer_to_its_own_piece = refl

pub pointer_into_its_own_piece : name_at (1 ∷ codes "a" ++ 1 ∷ codes "b" ++ 192 ∷ 2 ∷ []) 0 ≡ Err BadPointer
unfolding read_at
pointer_into_its_own_piece = refl

-- forward
pub pointer_to_later_octets : name_at (192 ∷ 2 ∷ 0 ∷ []) 0 ≡ Err BadPointer
unfolding read_at
pointer_to_later_octets = refl

-- a piece that was led to, and points to its own first octet
pub pointer_to_its_own_piece_behind_a_pointer : name_at (1 ∷ codes "a" ++ 192 ∷ 0 ∷ 192 ∷ 0 ∷ []) 4 ≡ Err BadPointer
unfolding read_at
pointer_to_its_own_piece_behind_a_pointer = refl

-- the longest name, and one of an octet more
pub the_longest_in_a_message : name_at (wire_of longest) 0 ≡ Ok (longest, 255)
unfolding read_at wire_of
the_longest_in_a_message = refl

pub an_octet_more_in_a_message : name_at (labels_of_lengths (63 ∷ 63 ∷ 63 ∷ 62 ∷ []) ++ 0 ∷ []) 0
    ≡ Err faults.NameTooLong
unfolding read_at
an_octet_more_in_a_message = refl

-- three labels of 63 octets, and one more before a pointer to the first
pub long_by_a_pointer_and_fitting : name_at (labels_of_lengths (63 ∷ 63 ∷ 63 ∷ []) ++ 0 ∷ 2 ∷ 97 ∷ 97 ∷ 192 ∷ 0 ∷
    []) 193
    ≡ Ok (letters 2 ∷ letters 63 ∷ letters 63 ∷ letters 63 ∷ [], 198)
unfolding read_at
long_by_a_pointer_and_fitting = refl

-- 190 octets of labels, and 61 before a pointer to them: with one piece more before them 254 octets of labels fit,
-- and 255 do not
abbrev chain : Octets
chain = labels_of_lengths (63 ∷ 63 ∷ 61 ∷ []) ++ 0 ∷ label_of 60 ++ 192 ∷ 0 ∷ []

pub a_chain_that_fits : name_at (chain ++ 2 ∷ 97 ∷ 97 ∷ 192 ∷ 191 ∷ []) 254
    ≡ Ok (letters 2 ∷ letters 60 ∷ letters 63 ∷ letters 63 ∷ letters 61 ∷ [], 259)
unfolding read_at
a_chain_that_fits = refl

pub a_chain_that_is_too_long : name_at (chain ++ 3 ∷ 97 ∷ 97 ∷ 97 ∷ 192 ∷ 191 ∷ []) 254 ≡ Err faults.NameTooLong
unfolding read_at
a_chain_that_is_too_long = refl

-- a label that is cut short and too long
pub cut_before_too_long : name_at (labels_of_lengths (63 ∷ 63 ∷ 63 ∷ []) ++ 63 ∷ 97 ∷ []) 0 ≡ Err Short
unfolding read_at
cut_before_too_long = refl

-- too long before a bad kind, and a bad kind before the sum
pub too_long_before_a_bad_kind : name_at (labels_of_lengths (63 ∷ 63 ∷ 63 ∷ 63 ∷ []) ++ 64 ∷ []) 0
    ≡ Err faults.NameTooLong
unfolding read_at
too_long_before_a_bad_kind = refl

pub a_bad_kind_before_too_long : name_at (labels_of_lengths (63 ∷ 63 ∷ 63 ∷ []) ++ 128 ∷ []) 0 ≡ Err BadLabelKind
unfolding read_at
a_bad_kind_before_too_long = refl

-- ---- names in canonical form: without a pointer, and in lower case (RFC 4034 section 6.2)
pub canonical_end_of_the_root : canonical_end (0 ∷ []) 0 ≡ Some 1
unfolding canonical_end read_at wire_of
canonical_end_of_the_root = refl

pub canonical_end_between_other_octets : canonical_end (255 ∷ 1 ∷ codes "a" ++ 0 ∷ 255 ∷ []) 1 ≡ Some 4
unfolding canonical_end read_at wire_of
canonical_end_between_other_octets = refl

pub canonical_end_of_upper_case : canonical_end (1 ∷ codes "A" ++ 0 ∷ []) 0 ≡ None
unfolding canonical_end read_at wire_of
canonical_end_of_upper_case = refl

pub canonical_end_of_a_pointer : canonical_end (1 ∷ codes "a" ++ 0 ∷ 192 ∷ 0 ∷ []) 3 ≡ None
unfolding canonical_end read_at wire_of
canonical_end_of_a_pointer = refl

pub canonical_end_of_a_pointer_behind_a_label : canonical_end (1 ∷ codes "a" ++ 0 ∷ 1 ∷ codes "b" ++ 192 ∷ 0 ∷ []) 3
    ≡ None
unfolding canonical_end read_at wire_of
canonical_end_of_a_pointer_behind_a_label = refl

pub canonical_end_of_what_is_cut : canonical_end (1 ∷ codes "a") 0 ≡ None
unfolding canonical_end read_at wire_of
canonical_end_of_what_is_cut = refl

pub canonical_end_of_nothing : canonical_end [] 3 ≡ None
unfolding canonical_end read_at wire_of
canonical_end_of_nothing = refl

-- ---- the numbers of the DNS, so that none can change (RFC 1035, and as its declaration says)
pub type_a_is_1 : TYPE_A ≡ 1
type_a_is_1 = refl

pub type_ns_is_2 : TYPE_NS ≡ 2
type_ns_is_2 = refl

pub type_md_is_3 : TYPE_MD ≡ 3
type_md_is_3 = refl

pub type_mf_is_4 : TYPE_MF ≡ 4
type_mf_is_4 = refl

pub type_cname_is_5 : TYPE_CNAME ≡ 5
type_cname_is_5 = refl

pub type_soa_is_6 : TYPE_SOA ≡ 6
type_soa_is_6 = refl

pub type_mb_is_7 : TYPE_MB ≡ 7
type_mb_is_7 = refl

pub type_mg_is_8 : TYPE_MG ≡ 8
type_mg_is_8 = refl

pub type_mr_is_9 : TYPE_MR ≡ 9
type_mr_is_9 = refl

pub type_ptr_is_12 : TYPE_PTR ≡ 12
type_ptr_is_12 = refl

pub type_minfo_is_14 : TYPE_MINFO ≡ 14
type_minfo_is_14 = refl

pub type_mx_is_15 : TYPE_MX ≡ 15
type_mx_is_15 = refl

pub type_txt_is_16 : TYPE_TXT ≡ 16
type_txt_is_16 = refl

pub type_rp_is_17 : TYPE_RP ≡ 17
type_rp_is_17 = refl

pub type_afsdb_is_18 : TYPE_AFSDB ≡ 18
type_afsdb_is_18 = refl

pub type_rt_is_21 : TYPE_RT ≡ 21
type_rt_is_21 = refl

pub type_sig_is_24 : TYPE_SIG ≡ 24
type_sig_is_24 = refl

pub type_px_is_26 : TYPE_PX ≡ 26
type_px_is_26 = refl

pub type_aaaa_is_28 : TYPE_AAAA ≡ 28
type_aaaa_is_28 = refl

pub type_nxt_is_30 : TYPE_NXT ≡ 30
type_nxt_is_30 = refl

pub type_srv_is_33 : TYPE_SRV ≡ 33
type_srv_is_33 = refl

pub type_naptr_is_35 : TYPE_NAPTR ≡ 35
type_naptr_is_35 = refl

pub type_kx_is_36 : TYPE_KX ≡ 36
type_kx_is_36 = refl

pub type_a6_is_38 : TYPE_A6 ≡ 38
type_a6_is_38 = refl

pub type_dname_is_39 : TYPE_DNAME ≡ 39
type_dname_is_39 = refl

pub type_opt_is_41 : TYPE_OPT ≡ 41
type_opt_is_41 = refl

pub type_ds_is_43 : TYPE_DS ≡ 43
type_ds_is_43 = refl

pub type_rrsig_is_46 : TYPE_RRSIG ≡ 46
type_rrsig_is_46 = refl

pub type_nsec_is_47 : TYPE_NSEC ≡ 47
type_nsec_is_47 = refl

pub type_zonemd_is_63 : TYPE_ZONEMD ≡ 63
type_zonemd_is_63 = refl

pub type_tkey_is_249 : TYPE_TKEY ≡ 249
type_tkey_is_249 = refl

pub type_ixfr_is_251 : TYPE_IXFR ≡ 251
type_ixfr_is_251 = refl

pub type_axfr_is_252 : TYPE_AXFR ≡ 252
type_axfr_is_252 = refl

pub type_maila_is_254 : TYPE_MAILA ≡ 254
type_maila_is_254 = refl

pub type_any_is_255 : TYPE_ANY ≡ 255
type_any_is_255 = refl

pub class_in_is_1 : CLASS_IN ≡ 1
class_in_is_1 = refl

pub opcode_query_is_0 : OPCODE_QUERY ≡ 0
opcode_query_is_0 = refl

pub opcode_notify_is_4 : OPCODE_NOTIFY ≡ 4
opcode_notify_is_4 = refl

pub label_octets_is_63 : LABEL_OCTETS ≡ 63
label_octets_is_63 = refl

pub name_octets_is_255 : NAME_OCTETS ≡ 255
name_octets_is_255 = refl

pub header_octets_is_12 : HEADER_OCTETS ≡ 12
header_octets_is_12 = refl

pub message_octets_is_65535 : MESSAGE_OCTETS ≡ 65535
message_octets_is_65535 = refl

pub length_octets_is_2 : LENGTH_OCTETS ≡ 2
length_octets_is_2 = refl

pub udp_octets_is_512 : UDP_OCTETS ≡ 512
udp_octets_is_512 = refl

pub edns_octets_is_1232 : EDNS_OCTETS ≡ 1232
edns_octets_is_1232 = refl

pub aliases_is_16 : ALIASES ≡ 16
aliases_is_16 = refl

pub zone_records_is_250000 : ZONE_RECORDS ≡ 250000
zone_records_is_250000 = refl

pub transfer_octets_is_67108864 : TRANSFER_OCTETS ≡ 67108864
transfer_octets_is_67108864 = refl

pub pointer_reach_is_16384 : POINTER_REACH ≡ 16384
pointer_reach_is_16384 = refl

pub name_looks_is_256 : NAME_LOOKS ≡ 256
name_looks_is_256 = refl

pub labels_is_128 : LABELS ≡ 128
labels_is_128 = refl

pub past_is_2_to_64 : PAST ≡ 18446744073709551616
past_is_2_to_64 = refl
