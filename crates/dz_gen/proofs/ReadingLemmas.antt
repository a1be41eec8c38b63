-- The script is read, line by line.
use Rattle.std.proofs.Common.{◌≡◌, ℕ, ◌^◌, ◌<◌, ◌≤◌, Bool, true, false, List, [], ◌∷◌, ◌++◌, map, filter, refl, sym}
use Rattle.std.proofs.Common.{◌∙◌, ap, subst, arith, Some, append_assoc}
use Rattle.std.specs.Prelude.{flat_map, codes, decimal, nat_lt, if◌then◌else◌}
use Rattle.std.specs.List.{All, AllByRecursion, list_all}
use Rattle.std.proofs.lemmas.Bool.{ltb-true, and_parts}
use Rattle.std.proofs.lemmas.List.{map-append, append-nil}
use Rattle.std.proofs.lemmas.List.Elements.{All-filter, All-head, All-tail}
use Rattle.std.proofs.lemmas.List.FromFn.{get_or-range_with_len, length-range_with_len}
use Rattle.hex.specs.Hex.{encode_lower}
use Rattle.dz_script.specs.Lines.{lines_of, octets_of, content, HasNoNewline, IsClosedLine}
use Rattle.dz_script.proofs.SplitLemmas.{lines_of-octets_of, content-closed}
use Rattle.dz_name.specs.Name.{wire_of}
use Rattle.dz_name.specs.Text.{items, labels_from, with_label, name_of_text}
use Rattle.dz_name.specs.Words.{Octets}
use Rattle.dz_script.specs.Fields.{fields_of}
use Rattle.dz_script.specs.Line.{line_of}
use Rattle.dz_script.specs.Settings.{peers_of, primaries_of}
use Rattle.dz_script.specs.declared.line.Event.TheVariants.{Job, Take}
use Rattle.dz_script.specs.declared.line.Line.{Line}
use Rattle.dz_script.specs.declared.line.Line.TheVariants.{Event}
use Rattle.dz_gen.specs.Texts.{named, transfer, job_line, take_line, ask_line}
use Rattle.dz_gen.specs.Records.{www}
use Rattle.dz_gen.specs.Messages.{query, part_of, whole_of, catalog_changes, changes_of}
use Rattle.dz_gen.specs.Script.{numbers, is_tenth, is_changed, first_ticket, again_ticket, catalog_ticket}
use Rattle.dz_gen.specs.Script.{reset_ticket, change_ticket, settings, catalog_text, first_transfer, next_transfer}
use Rattle.dz_gen.specs.Script.{reset, change_transfer, asked, transfers, questions, script}
use Rattle.dz_gen.specs.Reading.{IsReadAs, setting_lines, job_lines, ask_of, catalog_lines, first_lines, next_lines}
use Rattle.dz_gen.specs.Reading.{reset_lines, change_lines, asked_lines, transfer_lines, question_lines, script_lines}
use Rattle.dz_gen.specs.Reading.{IsReadable}
use Rattle.dz_gen.proofs.DecimalLemmas.{IsNumber, number_spelled, number_tested}
use Rattle.dz_gen.proofs.MessageLemmas.{IsZone, AreSome, IsRequest, catalog_some, changes_some, part_some, whole_some}
use Rattle.dz_gen.proofs.MessageLemmas.{zone_changes_some, query_request, www_short, other_short}
use Rattle.dz_gen.proofs.LineLemmas.{IsField, IsText, field_text, text-append, no_newline, number_field, hex_field}
use Rattle.dz_gen.proofs.LineLemmas.{first_field, last_field, event_read, taken_back, request_back, job_said}
use Rattle.dz_gen.proofs.LineLemmas.{take_said, ask_said}

-- ---- lines, one after another
-- a text is these lines, whole, and each of them is read
record Reads (text : Octets) (lines : List Line) : Type 0 where
  done : List Octets
  closed : AllByRecursion IsClosedLine done
  text_is : text ≡ octets_of done
  read : map (λ line. line_of (content line)) done ≡ map Some lines

octets_of-append : (done more : List Octets) → octets_of (done ++ more) ≡ octets_of done ++ octets_of more
unfolding octets_of
octets_of-append [] more = refl
octets_of-append (line ∷ done) more = rw (octets_of-append done more, append_assoc) refl

closed-append : (done more : List Octets) → AllByRecursion IsClosedLine done → AllByRecursion IsClosedLine more
    → AllByRecursion IsClosedLine (done ++ more)
closed-append [] more p q = q
closed-append (line ∷ done) more p q = (p.0, closed-append done more p.1 q)

reads_nothing : Reads [] []
unfolding octets_of
reads_nothing = record { done = []; closed = tt; text_is = refl; read = refl }

reads-append : (text more : Octets) (lines others : List Line) → Reads text lines → Reads more others
    → Reads (text ++ more) (lines ++ others)
reads-append text more lines others p q = record {
  done = p.done ++ q.done;
  closed = closed-append p.done q.done p.closed q.closed;
  text_is = rw (octets_of-append p.done q.done, p.text_is, q.text_is) refl;
  read =
      map-append (λ line. line_of (content line)) p.done q.done
      ∙ (ap (λ os. os ++ map (λ line. line_of (content line)) q.done) p.read
      ∙ (ap (λ os. map Some lines ++ os) q.read ∙ sym (map-append Some lines others)));
}

reads-each : (f : ℕ → Octets) (g : ℕ → List Line) → ((k : ℕ) → IsZone k → Reads (f k) (g k)) → (ks : List ℕ)
    → AllByRecursion IsZone ks → Reads (flat_map f ks) (flat_map g ks)
reads-each f g each [] all = reads_nothing
reads-each f g each (k ∷ ks) all =
    reads-append (f k) (flat_map f ks) (g k) (flat_map g ks) (each k all.0) (reads-each f g each ks all.1)

reads-map : (f : ℕ → Octets) (g : ℕ → Line) → ((k : ℕ) → IsZone k → Reads (f k) (g k ∷ [])) → (ks : List ℕ)
    → AllByRecursion IsZone ks → Reads (flat_map f ks) (map g ks)
reads-map f g each [] all = reads_nothing
reads-map f g each (k ∷ ks) all =
    reads-append (f k) (flat_map f ks) (g k ∷ []) (map g ks) (each k all.0) (reads-map f g each ks all.1)

-- one line: a text without its newline
reads_line : (front text : Octets) (line : Line) → HasNoNewline front → text ≡ front ++ 10 ∷ []
    → line_of front ≡ Some line → Reads text (line ∷ [])
unfolding octets_of
reads_line front text line unbroken is said = record {
  done = (front ++ 10 ∷ []) ∷ [];
  closed = (record { front = front; line_is = refl; unbroken = unbroken }, tt);
  text_is = is ∙ sym (append-nil (front ++ 10 ∷ []));
  read = ap (λ octets. line_of octets ∷ []) (content-closed front unbroken) ∙ ap (λ o. o ∷ []) said;
}

-- ---- the kinds of lines
field_tested : (text : Octets) → list_all (λ c. nat_lt 32 c) text ≡ true → IsField text
field_tested [] t = tt
field_tested (c ∷ text) t =
    let parts = and_parts (nat_lt 32 c) (list_all (λ c. nat_lt 32 c) text) t in
    (ltb-true 32 c parts.0, field_tested text parts.1)

job_field : IsField (codes "job")
job_field = field_tested (codes "job") refl

take_field : IsField (codes "take")
take_field = field_tested (codes "take") refl

udp_field : IsField (codes "udp")
udp_field = field_tested (codes "udp") refl

address_field : IsField (codes "198.51.100.1")
address_field = field_tested (codes "198.51.100.1") refl

ask_text : IsText (codes "udp 198.51.100.1 ")
ask_text =
    text-append (codes "udp") (codes " 198.51.100.1 ") (field_text (codes "udp") udp_field) (
      omega arith,
      text-append (codes "198.51.100.1") (codes " ") (field_text (codes "198.51.100.1") address_field)
          (omega arith, tt),
    )

-- a moment of the script
record IsMoment (m : ℕ) (moment : Octets) : Type 0 where
  number : IsNumber m moment
  early : m < 2 ^ 40

module _ (m : ℕ) (moment : Octets) (is : IsMoment m moment) where
  moment_text : (rest : Octets) → IsText rest → IsText (moment ++ 32 ∷ rest)
  moment_text rest p =
      text-append moment (32 ∷ rest) (field_text moment (number_field m moment is.number)) (omega arith, p)

  reads_event : (rest text : Octets) (line : Line) → IsText rest → text ≡ (moment ++ 32 ∷ rest) ++ 10 ∷ []
      → line_of (moment ++ 32 ∷ rest) ≡ Some line → Reads text (line ∷ [])
  reads_event rest text line p whole said =
      reads_line (moment ++ 32 ∷ rest) text line (no_newline (moment ++ 32 ∷ rest) (moment_text rest p)) whole said

  reads_job : Reads (job_line moment) (Event m Job ∷ [])
  reads_job =
      reads_event (codes "job") (job_line moment) (Event m Job) (field_text (codes "job") job_field)
      (sym (append_assoc moment (codes " job") (10 ∷ [])))
      (event_read moment (codes "job") m (codes "job" ∷ []) Job is.number is.early
      (last_field (codes "job") job_field) job_said)

  take_fields : (number hex : Octets) → IsField number → IsField hex
      → fields_of (codes "take" ++ 32 ∷ (number ++ 32 ∷ hex)) ≡ codes "take" ∷ number ∷ hex ∷ []
  take_fields number hex p q =
      first_field (codes "take") (number ++ 32 ∷ hex) take_field
      ∙ ap (λ fs. codes "take" ∷ fs) (first_field number hex p ∙ ap (λ fs. number ∷ fs) (last_field hex q))

  reads_take : (ticket : ℕ) (octets : Octets) → 0 < ticket → ticket < 2 ^ 64 → AreSome octets
      → Reads (take_line moment ticket octets) (Event m (Take ticket octets) ∷ [])
  reads_take ticket octets some small own =
      let spelled = number_spelled ticket some small in
      let number = number_field ticket (decimal ticket) spelled in
      let hex = hex_field octets own.bytes in
      let rest : Octets = codes "take" ++ 32 ∷ (decimal ticket ++ 32 ∷ encode_lower octets) in
      reads_event rest (take_line moment ticket octets) (Event m (Take ticket octets))
      (text-append (codes "take") (32 ∷ (decimal ticket ++ 32 ∷ encode_lower octets))
      (field_text (codes "take") take_field) (
        omega arith,
        text-append (decimal ticket) (32 ∷ encode_lower octets) (field_text (decimal ticket) number)
            (omega arith, field_text (encode_lower octets) hex),
      ))
      (sym (simp append_assoc))
      (event_read moment rest m (codes "take" ∷ decimal ticket ∷ encode_lower octets ∷ [])
      (Take ticket octets) is.number is.early
      (take_fields (decimal ticket) (encode_lower octets) number hex)
      (take_said ticket octets (decimal ticket) (encode_lower octets) spelled small (taken_back octets own)))

  reads_transfer : (ticket : ℕ) (octets : Octets) → 0 < ticket → ticket < 2 ^ 64 → AreSome octets
      → Reads (transfer moment ticket octets) (job_lines m ticket octets)
  reads_transfer ticket octets some small own =
      reads-append (job_line moment) (take_line moment ticket octets) (Event m Job ∷ [])
      (Event m (Take ticket octets) ∷ []) reads_job (reads_take ticket octets some small own)

  ask_fields : (hex : Octets) → IsField hex
      → fields_of (codes "udp 198.51.100.1 " ++ hex) ≡ codes "udp" ∷ codes "198.51.100.1" ∷ hex ∷ []
  ask_fields hex q =
      first_field (codes "udp") (codes "198.51.100.1" ++ 32 ∷ hex) udp_field
      ∙ ap (λ fs. codes "udp" ∷ fs) (first_field (codes "198.51.100.1") hex address_field
      ∙ ap (λ fs. codes "198.51.100.1" ∷ fs) (last_field hex q))

  reads_ask : (octets : Octets) → IsRequest octets → Reads (ask_line moment octets) (ask_of m octets ∷ [])
  reads_ask octets own =
      let hex = hex_field octets own.bytes in
      let rest : Octets = codes "udp 198.51.100.1 " ++ encode_lower octets in
      reads_event rest (ask_line moment octets) (ask_of m octets)
      (text-append (codes "udp 198.51.100.1 ") (encode_lower octets) ask_text (field_text (encode_lower octets) hex))
      (sym (append_assoc moment (codes " udp 198.51.100.1 " ++ encode_lower octets) (10 ∷ [])))
      (event_read moment rest m (codes "udp" ∷ codes "198.51.100.1" ∷ encode_lower octets ∷ []) _ is.number is.early
      (ask_fields (encode_lower octets) hex) (ask_said octets (encode_lower octets) (request_back octets own)))

-- ---- settings
text_tested : (text : Octets) → list_all (λ c. nat_lt 31 c) text ≡ true → IsText text
text_tested [] t = tt
text_tested (c ∷ text) t =
    let parts = and_parts (nat_lt 31 c) (list_all (λ c. nat_lt 31 c) text) t in
    (ltb-true 31 c parts.0, text_tested text parts.1)

catalog_said : map (λ line. line_of line) (codes "catalog cat.test. present 192.0.2.1"
    ∷ codes "group cat.test. strict require 192.0.2.2" ∷ []) ≡ map Some setting_lines
unfolding line_of name_of_text items labels_from with_label wire_of primaries_of peers_of
catalog_said = refl

reads_settings : Reads settings setting_lines
unfolding octets_of
reads_settings =
    let catalog : Octets = codes "catalog cat.test. present 192.0.2.1" in
    let group : Octets = codes "group cat.test. strict require 192.0.2.2" in
    let first = no_newline catalog (text_tested catalog refl) in
    let second = no_newline group (text_tested group refl) in
    record {
      done = (catalog ++ 10 ∷ []) ∷ (group ++ 10 ∷ []) ∷ [];
      closed = (
        record { front = catalog; line_is = refl; unbroken = first },
        (record { front = group; line_is = refl; unbroken = second }, tt),
      );
      text_is = refl;
      read =
          ap (λ octets. line_of octets ∷ line_of (content (group ++ 10 ∷ [])) ∷ []) (content-closed catalog first)
          ∙ (ap (λ octets. line_of catalog ∷ line_of octets ∷ []) (content-closed group second) ∙ catalog_said);
    }

-- ---- moments
at_1000 : IsMoment 1000 (codes "1000")
at_1000 = record { number = number_tested (codes "1000") refl (omega arith); early = omega arith }

at_1060 : IsMoment 1060 (codes "1060")
at_1060 = record { number = number_tested (codes "1060") refl (omega arith); early = omega arith }

at_1100 : IsMoment 1100 (codes "1100")
at_1100 = record { number = number_tested (codes "1100") refl (omega arith); early = omega arith }

at_1150 : IsMoment 1150 (codes "1150")
at_1150 = record { number = number_tested (codes "1150") refl (omega arith); early = omega arith }

at_1700 : IsMoment 1700 (codes "1700")
at_1700 = record { number = number_tested (codes "1700") refl (omega arith); early = omega arith }

-- ---- the zones' numbers
zones_by_recursion : (ks : List ℕ) → All IsZone ks → AllByRecursion IsZone ks
zones_by_recursion [] all = tt
zones_by_recursion (k ∷ ks) all = (All-head IsZone k ks all, zones_by_recursion ks (All-tail IsZone k ks all))

zones_all : (n : ℕ) → n ≤ 1000 → All IsZone (numbers n)
zones_all n few = λ i d inside.
    let small : i < n = omega (arith, inside, length-range_with_len 1 n) in
    let is = get_or-range_with_len 1 n i d small in
    record { some = omega (arith, is); few = omega (arith, is) }

pub zones : (n : ℕ) → n ≤ 1000 → AllByRecursion IsZone (numbers n)
zones n few = zones_by_recursion (numbers n) (zones_all n few)

zones_kept : (p : ℕ → Bool) (n : ℕ) → n ≤ 1000 → AllByRecursion IsZone (filter p (numbers n))
zones_kept p n few = zones_by_recursion (filter p (numbers n)) (All-filter p IsZone (numbers n) (zones_all n few))

one_of : (b : Bool) (octets others : Octets) → AreSome octets → AreSome others → AreSome (if b then octets else others)
one_of true octets others p q = p
one_of false octets others p q = q

one_zone : IsZone 1
one_zone = record { some = omega arith; few = omega arith }

-- ---- the parts of the script
module _ (n : ℕ) (few : n ≤ 1000) where
  reads_catalog : Reads (catalog_text (numbers n)) (catalog_lines (numbers n))
  reads_catalog = reads_transfer 1000 (codes "1000") at_1000 1 _ (omega arith) (omega arith)
      (catalog_some (numbers n) (zones n few))

  reads_first : (k : ℕ) → IsZone k → Reads (first_transfer k) (first_lines k)
  reads_first k is =
      reads_transfer 1000 (codes "1000") at_1000 (first_ticket k) _ (omega arith) (omega (arith, is.few))
      (one_of (is_tenth k) (part_of (first_ticket k) k) (whole_of (first_ticket k) k) (part_some (first_ticket k) k is)
      (whole_some (first_ticket k) k is))

  reads_next : (k : ℕ) → IsZone k → Reads (next_transfer n k) (next_lines n k)
  reads_next k is =
      reads_transfer 1060 (codes "1060") at_1060 (again_ticket n k) (whole_of (again_ticket n k) k) (omega arith)
      (omega (arith, is.few)) (whole_some (again_ticket n k) k is)

  reads_reset : Reads (reset n) (reset_lines n)
  reads_reset =
      reads-append _ _ (job_lines 1100 (catalog_ticket n) (catalog_changes (catalog_ticket n)))
      (job_lines 1100 (reset_ticket n) (whole_of (reset_ticket n) 1))
      (reads_transfer 1100 (codes "1100") at_1100 (catalog_ticket n) (catalog_changes (catalog_ticket n)) (omega arith)
      (omega arith) (changes_some (catalog_ticket n)))
      (reads_transfer 1100 (codes "1100") at_1100 (reset_ticket n) (whole_of (reset_ticket n) 1) (omega arith)
      (omega arith) (whole_some (reset_ticket n) 1 one_zone))

  reads_change : (k : ℕ) → IsZone k → Reads (change_transfer n k) (change_lines n k)
  reads_change k is =
      reads_transfer 1100 (codes "1100") at_1100 (change_ticket n k) (changes_of (change_ticket n k) k) (omega arith)
      (omega (arith, is.few)) (zone_changes_some (change_ticket n k) k is)

  reads_transfers : Reads (transfers n) (transfer_lines n)
  reads_transfers =
      let ks = numbers n in
      let tenths = filter is_tenth ks in
      let changed = filter is_changed ks in
      reads-append _ (flat_map (change_transfer n) changed) _ (flat_map (change_lines n) changed)
      (reads-append _ (reset n) _ (reset_lines n)
      (reads-append _ (flat_map (next_transfer n) tenths) _ (flat_map (next_lines n) tenths)
      (reads-append _ (flat_map first_transfer ks) _ (flat_map first_lines ks)
      (reads-append settings (catalog_text ks) setting_lines (catalog_lines ks) reads_settings reads_catalog)
      (reads-each first_transfer first_lines reads_first ks (zones n few)))
      (reads-each (next_transfer n) (next_lines n) reads_next tenths (zones_kept is_tenth n few)))
      reads_reset)
      (reads-each (change_transfer n) (change_lines n) reads_change changed (zones_kept is_changed n few))

  reads_asked : (m : ℕ) (moment : Octets) → IsMoment m moment
      → Reads (flat_map (asked moment) (numbers n)) (asked_lines m (numbers n))
  reads_asked m moment is =
      reads-map (asked moment) (λ k. ask_of m (query k (www k)))
      (λ k zone. reads_ask m moment is (query k (www k)) (query_request k (www k) (www_short k zone))) (numbers n)
      (zones n few)

  reads_questions : Reads (questions n) (question_lines n)
  reads_questions =
      let other : Octets = query 0 (named (codes "other.")) in
      reads-append _ (flat_map (asked (codes "1700")) (numbers n)) _ (asked_lines 1700 (numbers n))
      (reads-append (flat_map (asked (codes "1150")) (numbers n)) (ask_line (codes "1150") other)
      (asked_lines 1150 (numbers n)) (ask_of 1150 other ∷ [])
      (reads_asked 1150 (codes "1150") at_1150)
      (reads_ask 1150 (codes "1150") at_1150 other (query_request 0 (named (codes "other.")) other_short)))
      (reads_asked 1700 (codes "1700") at_1700)

  reads_script : Reads (script n) (script_lines n)
  reads_script =
      reads-append (transfers n) (questions n) (transfer_lines n) (question_lines n) reads_transfers reads_questions

-- ---- the lines are those that a reader finds
nothing_left : (done : List Octets) → done ++ lines_of [] ≡ done
unfolding lines_of
nothing_left done = append-nil done

found : (text : Octets) (lines : List Line) → Reads text lines → IsReadAs text lines
found text lines p =
    let e : lines_of text ≡ p.done =
    ap lines_of (p.text_is ∙ sym (append-nil (octets_of p.done)))
    ∙ (lines_of-octets_of p.done [] p.closed ∙ nothing_left p.done) in
    record {
      closed = subst (λ (ls : List Octets). AllByRecursion IsClosedLine ls) (sym e) p.closed;
      read = ap (λ (ls : List Octets). map (λ line. line_of (content line)) ls) e ∙ p.read;
    }

pub script_read : (n : ℕ) → IsReadable n
script_read n few = found (script n) (script_lines n) (reads_script n few)
