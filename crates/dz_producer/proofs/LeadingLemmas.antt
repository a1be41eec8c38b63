-- The difference of a change leads from the old catalog to the new one.
use Rattle.std.proofs.Common.{◌≡◌, ℕ, ◌+◌, ◌<◌, ◌≤◌, ◌^◌, true, false, List, [], ◌∷◌, ◌++◌, length, refl, sym, ◌∙◌, ap}
use Rattle.std.proofs.Common.{subst, arith, append-nil, Some, None, inl, inr}
use Rattle.std.specs.Prelude.{◌==◌, nat_lt}
use Rattle.std.specs.List.{AllByRecursion, flat_map}
use Rattle.std.proofs.lemmas.Bool.{cases_Bool, eqb-true, ltb-false}
use Rattle.std.proofs.lemmas.Bool.Decides.{nat_tests}
use Rattle.std.proofs.lemmas.Grind.{flat_map-append}
use Rattle.dz_name.specs.Name.{IsName, same_name, wire_of}
use Rattle.dz_name.specs.Words.{Octets}
use Rattle.dz_serial.specs.Serial.{is_newer}
use Rattle.dz_header.specs.declared.question.Question.{Question}
use Rattle.dz_message.specs.Frame.{stream}
use Rattle.dz_message.specs.Message.{Content}
use Rattle.dz_message.specs.Piece.{packed, written, size_of, has_room, FitsAlone}
use Rattle.dz_message.specs.Writing.{question_octets}
use Rattle.dz_message.proofs.PieceLemmas.{one_taken, size_more, size_begun, question_size}
use Rattle.dz_member.specs.declared.listing.Node.{Node}
use Rattle.dz_record.specs.Record.{Record, IsRecord, record_octets}
use Rattle.dz_record.specs.Records.{distinct}
use Rattle.dz_zone.specs.Valid.{fault_of}
use Rattle.dz_zone.specs.Version.{Zone, IsVersion, zone_of}
use Rattle.dz_xfr.specs.Apex.{serial_of, held_serial}
use Rattle.dz_xfr.specs.Place.{Place, amid, ended, failed, read, said}
use Rattle.dz_xfr.specs.Stands.{more}
use Rattle.dz_xfr.proofs.ReadingLemmas.{read_pieces, ended_alone, failed_not_ended}
use Rattle.dz_ixfr.specs.Reading.{Amid, one, start, place_of}
use Rattle.dz_ixfr.specs.Reading as incremental
use Rattle.dz_ixfr.proofs.ToEnd.{to_end}
use Rattle.dz_take.specs.Form.{form, is_old_soa, checked, decision_of}
use Rattle.dz_take.specs.Outcome.{answers, decided_from, outcome, or_incomplete}
use Rattle.dz_take.specs.Transfer.{Transfer, Decision, new}
use Rattle.dz_take.specs.inner.Following.{Opens, IsIncrementalKind}
use Rattle.dz_take.proofs.KindLemmas.{form_first, form_incremental}
use Rattle.dz_take.proofs.TakingLemmas.{messages_back}
use Rattle.dz_outward.proofs.OutgoingLemmas.{soa_short}
use Rattle.dz_outward.proofs.RoundLemmas.{Deciding, Behind, decides, shorts}
use Rattle.dz_producer.specs.Amended.{IsCatalog, listed, is_dropped, gone, kept, nodes_after, digest_of, deleted}
use Rattle.dz_producer.specs.Amended.{added_records, difference, difference_octets, question_of}
use Rattle.dz_producer.specs.Laws.{IsNode, LeadsOn, change_of}
use Rattle.dz_producer.specs.Produced.{produced}
use Rattle.dz_producer.specs.Records.{soa, node_records, plain_records, all_records}
use Rattle.dz_producer.proofs.CatalogLemmas.{soa_number}
use Rattle.dz_producer.proofs.DifferenceLemmas.{NoAmendFault, no_amend_fault, soa_opens, old_is, new_is, old_number}
use Rattle.dz_producer.proofs.DifferenceLemmas.{records_are, zone, zone_is, zone_faultless, is_incremental}
use Rattle.dz_producer.proofs.ListingLemmas.{by_turns}
use Rattle.dz_producer.proofs.OwnerLemmas.{name_itself}
use Rattle.dz_producer.proofs.RecordLemmas.{all_append}
use Rattle.dz_producer.proofs.SentLemmas.{Roomy, all_parts, all_gone, all_in_order, all_fit, flat_roomy, soa_held}
use Rattle.dz_producer.proofs.SentLemmas.{digest_held, nodes_held}
use Rattle.dz_producer.proofs.ValidLemmas.{Fitting, fitting}

-- nothing is newer than itself
newer_differs : (a b : ℕ) → is_newer a b ≡ true → (b == a) ≡ false
newer_differs a b t =
    elim (cases_Bool (b == a)) [
      | inr f ↦ f
      | inl e ↦
          let same : b ≡ a = eqb-true b a e in
          let itself : is_newer a a ≡ true = subst (λ n. is_newer a n ≡ true) same t in
          let never : nat_lt a a ≡ false = grind (arith, nat_tests) in
          let k = rw never at itself in absurd (cc)
    ]

turned_equal : (a b : ℕ) → (b == a) ≡ false → (a == b) ≡ false
turned_equal a b f = grind (arith, nat_tests)

-- a front of what is read to its end is read as a part
front_amid : (old : Zone) (front rest end : List Record) (r : Record) → place_of old (front ++ r ∷ rest) ≡ ended end
    → incremental.reading_of old front ≡ more
front_amid old front rest end r e =
    let pieces : read (one old.apex) (place_of old front) (r ∷ rest) ≡ ended end =
    sym (read_pieces (one old.apex) (amid (start old)) front (r ∷ rest)) ∙ e in
    (elim (place_of old front) as (λ p. read (one old.apex) p (r ∷ rest) ≡ ended end → said p ≡ more) [
      | amid x ↦ λ h. refl
      | ended other ↦ λ h. let none : r ∷ rest ≡ [] = (ended_alone (one old.apex) other end (r ∷ rest) h).0 in
          absurd (cc)
      | failed fault ↦ λ h. absurd (failed_not_ended (one old.apex) fault (r ∷ rest) end h)
    ]) pieces

module _ (old : Zone) (serial : ℕ) (dropped : List Octets) (added : List Node) (catalog : IsCatalog old)
    (small : serial < 2 ^ 32) (ok : NoAmendFault old serial dropped added) where
  abbrev apex : List (List ℕ)
  apex = old.apex

  abbrev held : ℕ
  held = held_serial old

  abbrev old_nodes : List Node
  old_nodes = listed old

  abbrev nodes : List Node
  nodes = nodes_after old dropped added

  abbrev first : Record
  first = soa apex serial

  abbrev second : Record
  second = soa apex held

  abbrev goes : List Record
  goes = deleted old dropped

  abbrev comes : List Record
  comes = added_records old serial dropped added

  abbrev behind : List Record
  behind = goes ++ first ∷ (comes ++ first ∷ [])

  abbrev all : List Record
  all = first ∷ second ∷ behind

  -- the records after the change, the catalog, and the transfer
  abbrev end : List Record
  end = zone old serial dropped added catalog ok

  abbrev target : Zone
  target = produced apex serial nodes

  abbrev transfer : Transfer
  transfer = change_of old

  all_is : difference old serial dropped added ≡ all
  unfolding difference
  all_is = refl

  number : serial_of first ≡ serial
  number = soa_number apex serial small

  opens : Opens transfer first
  opens =
      let apart : (serial == held) ≡ false = newer_differs held serial ok.newer in
      record { soa = soa_opens apex serial; unsettled = rw (number, apart, ok.newer) refl }

  old_follows : is_old_soa apex first second ≡ true
  old_follows =
      let apart : (held == serial) ≡ false = turned_equal held serial (newer_differs held serial ok.newer) in
      let its : serial_of second ≡ held = old_number old serial dropped added catalog ok in
      rw (its, number, apart, soa_opens apex held) refl

  kind_is : (rest : List Record) → IsIncrementalKind transfer old (first ∷ second ∷ rest)
  kind_is rest =
      record {
        first = first;
        second = second;
        rest = rest;
        are = refl;
        opens = opens;
        base = refl;
        kind = old_follows;
      }

  -- all records decide
  read_all : place_of old all ≡ ended end
  read_all =
      ap (place_of old) (sym all_is)
      ∙ to_end old (difference old serial dropped added) end (is_incremental old serial dropped added catalog ok)

  form_whole : form transfer all ≡ Some (new target)
  form_whole =
      let faultless : fault_of apex (distinct end) ≡ None = zone_faultless old serial dropped added catalog ok in
      let is : zone_of apex end ≡ target = zone_is old serial dropped added catalog ok in
      let decided : checked apex end (fault_of apex (distinct end)) ≡ new target =
      ap (checked apex end) faultless ∙ ap (λ (z : Zone). new z) is in
      form_incremental transfer old all (kind_is behind)
      ∙ (ap (λ (p : Place Amid). decision_of apex (said p)) read_all ∙ ap (λ (d : Decision). Some d) decided)

  -- no front of them does
  form_front : (front rest : List Record) (r : Record) → 0 < length front → front ++ r ∷ rest ≡ all
      → form transfer front ≡ None
  form_front [] rest r some e = absurd (omega arith)
  form_front (x ∷ []) rest r some e =
      let same : first ≡ x = cc in
      subst (λ y. form transfer (y ∷ []) ≡ None) same (form_first transfer first opens)
  form_front (x ∷ y ∷ front) rest r some e =
      let same : first ≡ x = cc in
      let same_next : second ≡ y = cc in
      let whole : place_of old ((x ∷ y ∷ front) ++ r ∷ rest) ≡ ended end = ap (place_of old) e ∙ read_all in
      let part = front_amid old (x ∷ y ∷ front) rest end r whole in
      let begun : IsIncrementalKind transfer old (first ∷ y ∷ front) =
      subst (λ s. IsIncrementalKind transfer old (first ∷ s ∷ front)) same_next (kind_is front) in
      let kind : IsIncrementalKind transfer old (x ∷ y ∷ front) =
      subst (λ s. IsIncrementalKind transfer old (s ∷ y ∷ front)) same begun in
      form_incremental transfer old (x ∷ y ∷ front) kind ∙ ap (decision_of apex) part

  deciding : Deciding transfer all (new target)
  deciding = record { id_short = omega arith; part = form_front; whole = form_whole }

  -- ---- each record can be sent
  module _ (version : IsVersion old) (are : AllByRecursion IsNode added) where
    abbrev flat : List Node → List Record
    flat ns = flat_map (node_records apex) ns

    abbrev old_records : List Record
    old_records = all_records apex held old_nodes

    abbrev new_records : List Record
    new_records = all_records apex serial nodes

    abbrev old_digest : List Record
    old_digest = digest_of apex held old_nodes ∷ []

    abbrev new_digest : List Record
    new_digest = digest_of apex serial nodes ∷ []

    old_fits : Fitting apex held old_nodes
    old_fits = fitting apex held old_nodes catalog.faultless

    new_fits : Fitting apex serial nodes
    new_fits = fitting apex serial nodes ok.made

    old_held : AllByRecursion IsRecord old_records
    old_held =
        let held_records : AllByRecursion IsRecord old.records = by_turns IsRecord old.records version.held in
        all_in_order IsRecord old_records
        (subst (λ (rs : List Record). AllByRecursion IsRecord rs)
        (records_are old serial dropped added catalog ok) held_records)

    name : IsName apex
    name = old_held.0.owner

    -- of some nodes and the digest
    taken : (P : Record → Type 0) → AllByRecursion P old_records → AllByRecursion P goes
    taken P each =
        let parts = all_parts P (flat old_nodes) old_digest each.1.1.1 in
        let some = all_gone P (node_records apex) (is_dropped dropped) old_nodes parts.0 in
        all_append P (flat (gone old dropped)) old_digest some parts.1

    -- of the added nodes
    of_added : (P : Record → Type 0) → AllByRecursion P (flat nodes) → AllByRecursion P (flat added)
    of_added P each =
        let joined : flat nodes ≡ flat (kept old dropped) ++ flat added =
        flat_map-append (node_records apex) (kept old dropped) added in
        (all_parts P (flat (kept old dropped)) (flat added)
        (subst (λ (rs : List Record). AllByRecursion P rs) joined each)).1

    held_added : AllByRecursion IsRecord comes
    held_added =
        let roomy = flat_roomy apex serial nodes (new_is old serial dropped added catalog ok) new_fits in
        let digest_is = digest_held apex serial (plain_records apex serial nodes) name in
        all_append IsRecord (flat added) new_digest (nodes_held apex added name are (of_added Roomy roomy))
        (digest_is, tt)

    all_new_fit : AllByRecursion FitsAlone new_records
    all_new_fit = all_fit apex serial nodes (new_is old serial dropped added catalog ok) new_fits

    all_old_fit : AllByRecursion FitsAlone old_records
    all_old_fit = all_fit apex held old_nodes (old_is old serial dropped added catalog ok) old_fits

    fit_added : AllByRecursion FitsAlone comes
    fit_added =
        let parts = all_parts FitsAlone (flat nodes) new_digest all_new_fit.1.1.1 in
        all_append FitsAlone (flat added) new_digest (of_added FitsAlone parts.0) parts.1

    -- after the first record
    all_behind : (P : Record → Type 0) → P first → P second → AllByRecursion P goes → AllByRecursion P comes
        → AllByRecursion P (second ∷ behind)
    all_behind P of_first of_second away more_records =
        let rest : AllByRecursion P (comes ++ first ∷ []) =
        all_append P comes (first ∷ []) more_records (of_first, tt) in
        (of_second, all_append P goes (first ∷ (comes ++ first ∷ [])) away (of_first, rest))

    held_behind : AllByRecursion IsRecord (second ∷ behind)
    held_behind = all_behind IsRecord (soa_held apex serial name) old_held.0 (taken IsRecord old_held) held_added

    fit_behind : AllByRecursion FitsAlone (second ∷ behind)
    fit_behind = all_behind FitsAlone all_new_fit.0 all_old_fit.0 (taken FitsAlone all_old_fit) fit_added

    -- ---- the stream
    abbrev question : Question
    question = question_of old

    abbrev messages : List Content
    messages = packed 0 (question ∷ []) (first ∷ []) (second ∷ behind)

    small_first : length (record_octets first) ≤ 795
    small_first = soa_short first (soa_held apex serial name) refl

    begun_size : size_of (question ∷ []) [] ≡ 12 + (length (wire_of apex) + 4)
    begun_size =
        let one_question = ap (λ (xs : List ℕ). length xs) (append-nil (question_octets question)) in
        omega (arith, size_begun (question ∷ []), one_question, question_size question)

    has_place : has_room true (size_of (question ∷ []) []) (length (record_octets first)) ≡ true
    has_place =
        let asked = begun_size in
        let short = name.short in
        let record_short = small_first in
        grind (arith, nat_tests)

    packed_is : packed 0 (question ∷ []) [] (difference old serial dropped added) ≡ messages
    packed_is = ap (packed 0 (question ∷ []) []) all_is
        ∙ one_taken 0 (question ∷ []) [] first (second ∷ behind) has_place

    first_size : size_of (question ∷ []) (first ∷ []) ≤ 65535
    first_size =
        let asked = begun_size in
        let short = name.short in
        let record_short = small_first in
        omega (arith, size_more (question ∷ []) [] first)

    in_limit : length (stream (written messages)) ≤ 67108864
    in_limit =
        let short = ltb-false 67108864 (length (difference_octets old serial dropped added)) ok.short in
        subst (λ (c : List Content). length (stream (written c)) ≤ 67108864) packed_is short

    from_start : Behind transfer all [] (question ∷ []) (first ∷ []) (second ∷ behind)
    unfolding answers
    from_start =
        let short = in_limit in
        let same : same_name apex apex ≡ true = name_itself apex in
        record {
          are = refl;
          short = omega arith;
          fits = rw same refl;
          asked = omega arith;
          asking = (record { name = name; kind = omega arith; class = omega arith }, tt);
          taken = (soa_held apex serial name, tt);
          left = held_behind;
          alone = fit_behind;
          size = first_size;
          some = omega arith;
        }

    pub leads : outcome transfer (difference_octets old serial dropped added) ≡ new target
    leads =
        let decided =
        decides transfer all (new target) [] (question ∷ []) (first ∷ []) (second ∷ behind) deciding from_start in
        let short = shorts 0 (question ∷ []) (first ∷ []) (second ∷ behind) first_size fit_behind in
        let back = messages_back (written messages) short in
        ap (λ (c : List Content). outcome transfer (stream (written c))) packed_is
        ∙ (ap (λ (m : List Octets). or_incomplete (decided_from transfer [] m)) back ∙ ap or_incomplete decided)

pub leads_on : LeadsOn
leads_on old serial dropped added version catalog small are none =
    leads old serial dropped added catalog small (no_amend_fault old serial dropped added none) version
    (by_turns IsNode added are)
