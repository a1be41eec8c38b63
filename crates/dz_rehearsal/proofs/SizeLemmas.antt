-- The script of at most 1,000 zones is within the limit of a script.
use Rattle.std.proofs.Common.{◌≡◌, ℕ, ◌+◌, ◌*◌, ◌<◌, ◌≤◌, ◌^◌, Bool, true, false, List, [], ◌∷◌, ◌++◌, filter, length}
use Rattle.std.proofs.Common.{refl, arith, inl, inr, length-append}
use Rattle.std.specs.Prelude.{flat_map, codes, ◌==◌, decimal, if◌then◌else◌}
use Rattle.std.specs.List.{AllByRecursion}
use Rattle.std.proofs.lemmas.Bool.{cases_Bool}
use Rattle.std.proofs.lemmas.Fmt.{length-decimal-le}
use Rattle.std.proofs.lemmas.List.FromFn.{length-range_with_len}
use Rattle.hex.specs.Hex.{encode_lower, lower_digits}
use Rattle.hex.proofs.HexLemmas.{length-encode_with}
use Rattle.dz_name.specs.Words.{Name, Octets}
use Rattle.dz_name.specs.Name.{wire_of}
use Rattle.dz_name.specs.Numbers.{two}
use Rattle.dz_name.specs.declared.dns.TheConstants.{TYPE_A}
use Rattle.dz_name.proofs.NumberLemmas.{length_two}
use Rattle.dz_header.specs.Header.{header_octets}
use Rattle.dz_header.specs.declared.question.Question.{Question}
use Rattle.dz_message.specs.Writing.{question_octets, message_octets}
use Rattle.dz_script.specs.Lines.{lines_of, onto_first}
use Rattle.dz_script.specs.declared.lines.TheConstants.{LIMIT}
use Rattle.dz_fleet.proofs.FlightLemmas.{all_filter}
use Rattle.dz_gen.specs.Texts.{named, transfer, ask_line, job_line, take_line}
use Rattle.dz_gen.specs.Records.{www}
use Rattle.dz_gen.specs.Messages.{question, message, query, part_of, whole_of, changes_of, catalog_changes}
use Rattle.dz_gen.specs.Script.{numbers, is_tenth, is_changed, again_ticket, change_ticket, catalog_ticket}
use Rattle.dz_gen.specs.Script.{reset_ticket, script, settings, catalog_text, first_transfer, next_transfer, reset}
use Rattle.dz_gen.specs.Script.{change_transfer, asked, transfers, questions}
use Rattle.dz_gen.proofs.MessageLemmas.{IsZone, length_header, www_short, other_short}
use Rattle.dz_gen.proofs.ReadingLemmas.{zones}
use Rattle.dz_rehearsal.proofs.UsedLemmas.{change_is, catalog_octets, catalog_size}
use Rattle.dz_rehearsal.proofs.ZoneUsedLemmas.{part_is, whole_is, changes_is}
use Rattle.dz_rehearsal.proofs.LifeLemmas.{either}

-- ---- the lines have the octets of the text
-- how many octets some texts have together
unfoldable pub total : List Octets → ℕ
total [] = 0
total (text ∷ texts) = length text + total texts

onto_total : (octet : ℕ) (lines : List Octets) → total (onto_first octet lines) ≡ 1 + total lines
unfolding onto_first total
onto_total octet [] = refl
onto_total octet (l ∷ ls) = omega arith

lines_total : (b : Bool) (octet : ℕ) (lines : List Octets)
    → total (if b then (10 ∷ []) ∷ lines else onto_first octet lines) ≡ 1 + total lines
unfolding total
lines_total true octet lines = omega arith
lines_total false octet lines = onto_total octet lines

-- the lines of a text have as many octets as the text
pub text_total : (text : Octets) → total (lines_of text) ≡ length text
unfolding lines_of total
text_total [] = refl
text_total (octet ∷ text) = omega (arith, lines_total (octet == 10) octet (lines_of text), text_total text)

-- ---- a line
hex_size : (octets : Octets) → length (encode_lower octets) ≡ 2 * length octets
hex_size octets = omega (arith, length-encode_with lower_digits octets)

-- the two lines of a transfer: its octets in hexadecimal, and at most 40 octets more
transfer_size : (moment octets : Octets) (ticket : ℕ) → length moment ≡ 4 → ticket < 10 ^ 5
    → length (transfer moment ticket octets) ≤ 40 + 2 * length octets
transfer_size moment octets ticket four small =
    omega (
      arith,
      four,
      length-decimal-le 5 ticket (omega arith) small (omega arith),
      hex_size octets,
      length-append (job_line moment) (take_line moment ticket octets),
      length-append moment (codes " job\n"),
      length-append moment (codes " take " ++ (decimal ticket ++ (codes " " ++ (encode_lower octets ++ codes "\n")))),
      length-append (codes " take ") (decimal ticket ++ (codes " " ++ (encode_lower octets ++ codes "\n"))),
      length-append (decimal ticket) (codes " " ++ (encode_lower octets ++ codes "\n")),
      length-append (codes " ") (encode_lower octets ++ codes "\n"),
      length-append (encode_lower octets) (codes "\n"),
    )

-- the line of a request
ask_size : (moment octets : Octets) → length moment ≡ 4 → length (ask_line moment octets) ≤ 40 + 2 * length octets
ask_size moment octets four =
    omega (
      arith,
      four,
      hex_size octets,
      length-append moment (codes " udp 198.51.100.1 " ++ (encode_lower octets ++ codes "\n")),
      length-append (codes " udp 198.51.100.1 ") (encode_lower octets ++ codes "\n"),
      length-append (encode_lower octets) (codes "\n"),
    )

-- ---- a request
question_size : (q : Question) → length (question_octets q) ≡ length (wire_of q.name) + 4
unfolding question_octets
question_size q =
    omega (
      arith,
      length-append (wire_of q.name) (two q.kind ++ two q.class),
      length-append (two q.kind)
          (two q.class),
      length_two q.kind,
      length_two q.class,
    )

query_size : (id : ℕ) (name : Name) → length (query id name) ≡ length (wire_of name) + 16
unfolding message_octets
query_size id name =
    let header : Octets = header_octets (message id 0 (question name TYPE_A ∷ []) []).header in
    let asked : Octets = question_octets (question name TYPE_A) in
    omega (
      arith,
      length-append header ((asked ++ []) ++ []),
      length-append (asked ++ []) [],
      length-append asked [],
      length_header id 0 1 0 0 0,
      question_size (question name TYPE_A),
    )

-- ---- many lines
-- a filter keeps no more than there are
kept_few : (p : ℕ → Bool) (ks : List ℕ) → length (filter p ks) ≤ length ks
kept_few p [] = omega arith
kept_few p (k ∷ ks) =
    elim (cases_Bool (p k)) [
      | inl t ↦ rw t (omega (arith, kept_few p ks))
      | inr f ↦
          rw f (omega (arith, kept_few p ks))
    ]

-- a text for each zone, each of at most so many octets
zones_size : (f : ℕ → Octets) (most : ℕ) (ks : List ℕ) → AllByRecursion IsZone ks
    → ((k : ℕ) → IsZone k → length (f k) ≤ most) → length (flat_map f ks) ≤ most * length ks
zones_size f most [] all bound = omega arith
zones_size f most (k ∷ ks) all bound =
    omega (arith, bound k all.0, zones_size f most ks all.1 bound, length-append (f k) (flat_map f ks))

-- each of six texts is bounded, and so are all of them together
six_bounded : (a b c d e f : Octets) (i j k l m o most : ℕ) → length a ≤ i → length b ≤ j → length c ≤ k
    → length d ≤ l → length e ≤ m → length f ≤ o → i + j + k + l + m + o ≤ most
    → length (((((a ++ b) ++ c) ++ d) ++ e) ++ f) ≤ most
six_bounded a b c d e f i j k l m o most p q r s t u all =
    omega (
      arith,
      p,
      q,
      r,
      s,
      t,
      u,
      all,
      length-append ((((a ++ b) ++ c) ++ d) ++ e) f,
      length-append (((a ++ b) ++ c) ++ d) e,
      length-append ((a ++ b) ++ c) d,
      length-append (a ++ b) c,
      length-append a b,
    )

two_bounded : (a b : Octets) (i j most : ℕ) → length a ≤ i → length b ≤ j → i + j ≤ most → length (a ++ b) ≤ most
two_bounded a b i j most p q all = omega (arith, p, q, all, length-append a b)

-- ---- the script
module _ (n : ℕ) (few : n ≤ 1000) where
  abbrev ks : List ℕ
  ks = numbers n

  all : AllByRecursion IsZone ks
  all = zones n few

  count : length ks ≡ n
  count = length-range_with_len 1 n

  first_size : length (flat_map first_transfer ks) ≤ 60044 * length ks
  first_size = zones_size first_transfer 60044 ks all (λ k is.
      let octets : length (if is_tenth k then part_of (k + 1) k else whole_of (k + 1) k) ≤ 30002 =
      either (λ o. length o ≤ 30002) (is_tenth k) (part_of (k + 1) k) (whole_of (k + 1) k)
      (part_is k (k + 1) is.some is.few (omega (arith, is.few))).size
      (whole_is k (k + 1) is.some is.few (omega (arith, is.few))).size in
      omega (
        arith,
        octets,
        transfer_size (codes "1000")
            (if is_tenth k then part_of (k + 1) k else whole_of (k + 1) k) (k + 1) (omega arith)
            (omega (arith, is.few)),
      ))

  again_size : length (flat_map (next_transfer n) (filter is_tenth ks)) ≤ 60044 * length (filter is_tenth ks)
  again_size = zones_size (next_transfer n) 60044 (filter is_tenth ks) (all_filter IsZone is_tenth ks all) (λ k is.
      let t = again_ticket n k in
      omega (
        arith,
        (whole_is k t is.some is.few (omega (arith, is.few, few))).size,
        transfer_size (codes "1060") (whole_of t k) t (omega arith) (omega (arith, is.few, few)),
      ))

  change_size : length (flat_map (change_transfer n) (filter is_changed ks)) ≤ 60044 * length (filter is_changed ks)
  change_size =
      zones_size (change_transfer n) 60044 (filter is_changed ks) (all_filter IsZone is_changed ks all) (λ k is.
      let t = change_ticket n k in
      omega (
        arith,
        (changes_is k t is.some is.few (omega (arith, is.few, few))).size,
        transfer_size (codes "1100") (changes_of t k) t (omega arith) (omega (arith, is.few, few)),
      ))

  reset_size : length (reset n) ≤ 120088
  reset_size =
      let t = catalog_ticket n in
      let u = reset_ticket n in
      omega (
        arith,
        length-append (transfer (codes "1100") t (catalog_changes t)) (transfer (codes "1100") u (whole_of u 1)),
        (change_is t (omega (arith, few))).size,
        (whole_is 1 u (omega arith) (omega arith) (omega (arith, few))).size,
        transfer_size (codes "1100") (catalog_changes t) t (omega arith) (omega (arith, few)),
        transfer_size (codes "1100") (whole_of u 1) u (omega arith) (omega (arith, few)),
      )

  catalog_text_size : length (catalog_text ks) ≤ 40 + 2 * (30002 * (n + 2))
  catalog_text_size =
      omega (arith, catalog_size n few, transfer_size (codes "1000") (catalog_octets n) 1 (omega arith) (omega arith))

  transfers_size : length (transfers n) ≤ 241000000
  transfers_size =
      let tenths = filter is_tenth ks in
      let changed = filter is_changed ks in
      let firsts : 60044 * length ks ≤ 60044000 = omega (arith, few, count) in
      let agains : 60044 * length tenths ≤ 60044000 = omega (arith, few, count, kept_few is_tenth ks) in
      let changes : 60044 * length changed ≤ 60044000 = omega (arith, few, count, kept_few is_changed ks) in
      six_bounded settings (catalog_text ks) (flat_map first_transfer ks) (flat_map (next_transfer n) tenths)
      (reset n) (flat_map (change_transfer n) changed)
      100 (40 + 2 * (30002 * (n + 2))) (60044 * length ks) (60044 * length tenths) 120088 (60044 * length changed)
      241000000
      (omega arith) catalog_text_size first_size again_size reset_size change_size
      (omega (arith, few, firsts, agains, changes))

  asked_size : (moment : Octets) → length moment ≡ 4 → length (flat_map (asked moment) ks) ≤ 600 * length ks
  asked_size moment four =
      zones_size (asked moment) 600 ks all (λ k is.
      omega (arith, ask_size moment (query k (www k)) four, query_size k (www k), (www_short k is).short))

  questions_size : length (questions n) ≤ 1300000
  questions_size =
      omega (
        arith,
        few,
        count,
        asked_size (codes "1150") (omega arith),
        asked_size (codes "1700") (omega arith),
        ask_size (codes "1150") (query 0 (named (codes "other."))) (omega arith),
        query_size 0 (named (codes "other.")),
        other_short.short,
        length-append (flat_map (asked (codes "1150")) ks ++ ask_line (codes "1150")
            (query 0 (named (codes "other.")))) (flat_map (asked (codes "1700")) ks),
        length-append (flat_map (asked (codes "1150")) ks)
            (ask_line (codes "1150") (query 0 (named (codes "other.")))),
      )

  pub script_size : length (script n) ≤ LIMIT
  script_size =
      two_bounded (transfers n) (questions n) 241000000 1300000 LIMIT transfers_size questions_size (omega arith)
