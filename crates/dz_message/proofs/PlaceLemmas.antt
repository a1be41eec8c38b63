-- What is at a place of a message: octets, numbers, fields of RDATA and records that were written there.
use Rattle.std.proofs.Common.{inl, inr, ◌≡◌, ℕ, suc, ◌+◌, ◌-◌, ◌<◌, ◌≤◌, ◌^◌, true, false, List, [], ◌∷◌, ◌++◌, length}
use Rattle.std.proofs.Common.{take, drop, refl, sym, ◌∙◌, ap, subst, arith, append_assoc, length-append, length-drop}
use Rattle.std.proofs.Common.{length-take-le, get_or, get_or-drop, Ok, Some, None}
use Rattle.std.specs.Prelude.{slice_index, nat_lt}
use Rattle.std.specs.Option.{option_map_or}
use Rattle.std.specs.List.{AllByRecursion, flat_map}
use Rattle.std.proofs.lemmas.List.{drop_all, drop-drop, take-append-drop, get_or_append_left}
use Rattle.std.proofs.lemmas.List.{take-append-le}
use Rattle.std.proofs.lemmas.Bool.Decides.{nat_tests, eqb_tells, leb_tells}
use Rattle.dz_name.specs.Name.{wire_of}
use Rattle.dz_name.specs.Numbers.{two, four, number_of_two, number_of_four}
use Rattle.dz_name.specs.Reading.{Reads}
use Rattle.dz_name.proofs.NumberLemmas.{length_two, length_four, number-two, number-four}
use Rattle.dz_name.proofs.CanonicalLemmas.{canonical_end_found, drop_between, end_of_between, reads_wire}
use Rattle.dz_record.specs.declared.fields.Field.{Field}
use Rattle.dz_record.specs.declared.fields.Field.TheVariants.{FixedLength, DomainName, CharacterString, Remainder}
use Rattle.dz_record.specs.Fields.{fields_of, field_end, fits}
use Rattle.dz_record.specs.Record.{Record, IsRecord, ttl_of}
use Rattle.dz_record.proofs.FieldLemmas.{fits_record}
use Rattle.dz_header.proofs.PlaceLemmas.{length_there, drop_there}
use Rattle.dz_message.specs.Spelling.{AreOctets, IsField, AreFields, no_field, one_field, IsRecordAt, Each, no_one}
use Rattle.dz_message.specs.Spelling.{one_first}

-- the octets of RDATA from a place on, in the whole message
rdata_there : (m : List ℕ) (base at : ℕ) (rdata more : List ℕ) → drop base m ≡ rdata ++ more → at ≤ length rdata
    → drop (base + at) m ≡ drop at rdata ++ more
rdata_there m base at rdata more is le =
    let split : drop base m ≡ take at rdata ++ (drop at rdata ++ more) =
    is ∙ ap (λ xs. xs ++ more) (sym (take-append-drop at rdata))
    ∙ append_assoc (take at rdata) (drop at rdata) more in
    drop_there m base at (take at rdata) (drop at rdata ++ more) split (length-take-le at rdata le)

-- this many octets of RDATA as they are
octets_there : (m : List ℕ) (base at count : ℕ) (rdata more : List ℕ) → drop base m ≡ rdata ++ more
    → at + count ≤ length rdata
    → AreOctets m (base + at) (base + length rdata) count (take count (drop at rdata)) (base + (at + count))
octets_there m base at count rdata more is le =
    let there = rdata_there m base at rdata more is (omega arith) in
    let room : count ≤ length (drop at rdata) = omega (arith, length-drop at rdata) in
    record {
      next_is = omega arith;
      within = omega arith;
      piece_is = sym (ap (take count) there ∙ take-append-le count (drop at rdata) more room);
    }

-- a field of RDATA ends within it, and is a field of the message that the RDATA is in
record FieldThere (m : List ℕ) (base at end : ℕ) (rdata : List ℕ) (field : Field) : Type 0 where
  pub behind : at ≤ end
  pub within : end ≤ length rdata
  pub is : IsField m (base + at) (base + length rdata) field (take (end - at) (drop at rdata)) (base + end)

-- two ends that are one
some_is : (a b : ℕ) → Some a ≡ Some b → a ≡ b
some_is a b e = cc

-- a field of RDATA without pointers is a field of the message
field_there : (field : Field) (m : List ℕ) (base at end : ℕ) (rdata more : List ℕ) → drop base m ≡ rdata ++ more
    → at ≤ length rdata → field_end field rdata at ≡ Some end
    → FieldThere m base at end rdata field
unfolding field_end
field_there (FixedLength n) m base at end rdata more is le ends = elim (leb_tells n (length rdata - at)) [
  | inr w ↦ let q = rw w.0 at ends in absurd (cc)
  | inl w ↦
      let e : at + n ≡ end = some_is (at + n) end (rw w.0 at ends) in
      let size : n ≡ end - at = omega arith in
      let are = octets_there m base at n rdata more is (omega (arith, w.1)) in
      let piece : AreOctets m (base + at) (base + length rdata) n (take (end - at) (drop at rdata)) (base + end) =
      subst (λ x. AreOctets m (base + at) (base + length rdata) n (take x (drop at rdata)) (base + end)) size
      (subst (λ x. AreOctets m (base + at) (base + length rdata) n (take n (drop at rdata)) (base + x)) e are) in
      record { behind = omega arith; within = omega (arith, w.1); is = piece }
]
field_there DomainName m base at end rdata more is le ends =
    let found = canonical_end_found rdata at end ends in
    let labels = found.0 in
    let between = found.1 in
    let last = end_of_between rdata at end labels between in
    let stood = drop_between rdata at end labels between in
    let there : drop (base + at) m ≡ wire_of labels ++ (drop end rdata ++ more) =
    rdata_there m base at rdata more is le ∙ ap (λ xs. xs ++ more) stood
    ∙ append_assoc (wire_of labels) (drop end rdata) more in
    let reads = reads_wire m labels (drop end rdata ++ more) (base + at) 0 (base + at) between.name.each
    (omega (arith, between.name.short)) there in
    let e : base + at + length (wire_of labels) ≡ base + end = omega (arith, last) in
    record {
      behind = omega (arith, between.some);
      within = between.within;
      is = record {
        labels = labels;
        name = rw e at reads;
        within = omega (arith, between.within);
        piece_is = between.wire;
      };
    }
field_there CharacterString m base at end rdata more is le ends =
    elim (leb_tells (suc (slice_index rdata at)) (length rdata - at)) [
      | inr w ↦ let t : nat_lt (slice_index rdata at) (length rdata - at) ≡ false = grind (arith, nat_tests, w.1) in
          let q = rw t at ends in absurd (cc)
      | inl w ↦
          let t : nat_lt (slice_index rdata at) (length rdata - at) ≡ true = grind (arith, nat_tests, w.1) in
          let e : at + (slice_index rdata at + 1) ≡ end =
          some_is (at + (slice_index rdata at + 1)) end (rw t at ends) in
          let same : slice_index m (base + at) ≡ slice_index rdata at =
          first_there m base at rdata more is (omega (arith, w.1)) in
          let size : slice_index rdata at + 1 ≡ end - at = omega arith in
          let are = octets_there m base at (slice_index rdata at + 1) rdata more is (omega (arith, w.1)) in
          let piece : AreOctets m (base + at) (base + length rdata) (slice_index rdata at + 1)
          (take (end - at) (drop at rdata)) (base + end) =
          subst (λ x. AreOctets m (base + at) (base + length rdata) (slice_index rdata at + 1) (take x (drop at rdata))
          (base + end)) size
          (subst (λ x. AreOctets m (base + at) (base + length rdata) (slice_index rdata at + 1)
          (take (slice_index rdata at + 1) (drop at rdata)) (base + x)) e are) in
          record { behind = omega arith; within = omega (arith, w.1); is = rw same piece }
    ]
  where
    first_there : (m : List ℕ) (base at : ℕ) (rdata more : List ℕ) → drop base m ≡ rdata ++ more → at < length rdata
        → slice_index m (base + at) ≡ slice_index rdata at
    first_there m base at rdata more is lt =
        sym (get_or-drop base m at 0) ∙ ap (λ xs. get_or xs at 0) is ∙ get_or_append_left rdata more 0 at lt
field_there Remainder m base at end rdata more is le ends =
    let e : length rdata ≡ end = some_is (length rdata) end ends in
    let size : base + length rdata - (base + at) ≡ length rdata - at = omega arith in
    let are = octets_there m base at (length rdata - at) rdata more is (omega arith) in
    let last : at + (length rdata - at) ≡ end = omega arith in
    let piece : AreOctets m (base + at) (base + length rdata) (length rdata - at) (take (end - at) (drop at rdata))
    (base + end) =
    subst (λ x. AreOctets m (base + at) (base + length rdata) (length rdata - at) (take (x - at) (drop at rdata))
    (base + end)) e
    (subst (λ x. AreOctets m (base + at) (base + length rdata) (length rdata - at)
    (take (length rdata - at) (drop at rdata)) (base + x)) last are) in
    record { behind = omega arith; within = omega arith; is = rw size piece }

-- a piece of RDATA and what follows it
piece_and_rest : (rdata : List ℕ) (at end : ℕ) → at ≤ end
    → take (end - at) (drop at rdata) ++ drop end rdata ≡ drop at rdata
piece_and_rest rdata at end le =
    let n : at + (end - at) ≡ end = omega arith in
    ap (λ xs. take (end - at) (drop at rdata) ++ xs) (sym (drop-drop (end - at) at rdata ∙ ap (λ k. drop k rdata) n))
    ∙ take-append-drop (end - at) (drop at rdata)

-- RDATA without pointers spells its fields in the message
pub fields_there : (fields : List Field) (m : List ℕ) (base at : ℕ) (rdata more : List ℕ) → drop base m ≡ rdata ++ more
    → at ≤ length rdata → fits fields rdata at ≡ true
    → AreFields m (base + length rdata) fields (base + at) (drop at rdata)
unfolding fits
fields_there [] m base at rdata more is le h = elim (eqb_tells at (length rdata)) [
  | inr w ↦ let q = rw w.0 at h in absurd (cc)
  | inl w ↦ rw (w.1, drop_all (length rdata) rdata (omega arith)) no_field
]
fields_there (field ∷ fields) m base at rdata more is le h =
    elim (field_end field rdata at) as (λ e. field_end field rdata at ≡ e
    → option_map_or (λ end. fits fields rdata end) e false ≡ true
    → AreFields m (base + length rdata) (field ∷ fields) (base + at) (drop at rdata)) [
      | None ↦ λ p q. absurd (cc)
      | Some end ↦ λ p q.
          let first = field_there field m base at end rdata more is le p in
          let rest = fields_there fields m base end rdata more is first.within q in
          subst (λ xs. AreFields m (base + length rdata) (field ∷ fields) (base + at) xs)
          (piece_and_rest rdata at end first.behind)
          (one_field (take (end - at) (drop at rdata)) (drop end rdata) first.is rest)
    ] refl h

-- RDATA has at most 65,535 octets (RFC 1035 section 4.1.3)
pub short_rdata : (r : Record) → IsRecord r → length r.rdata ≤ 65535
short_rdata r is = elim (leb_tells (length r.rdata) 65535) [
  | inl w ↦ w.1
  | inr w ↦ let q = rw w.0 at is.rdata in absurd (cc)
]

-- the number at a place
pub two_there : (m : List ℕ) (at n : ℕ) (rest : List ℕ) → n < 2 ^ 16 → drop at m ≡ two n ++ rest
    → number_of_two (drop at m) ≡ n
two_there m at n rest lt is = ap number_of_two is ∙ number-two n rest lt

-- the number of four octets at a place
pub four_there : (m : List ℕ) (at n : ℕ) (rest : List ℕ) → n < 2 ^ 32 → drop at m ≡ four n ++ rest
    → number_of_four (drop at m) ≡ n
four_there m at n rest lt is = ap number_of_four is ∙ number-four n rest lt

-- what follows the owner of a record
abbrev pub fixed_octets : Record → List ℕ
fixed_octets r = two r.kind ++ (two 1 ++ (four r.ttl ++ (two (length r.rdata) ++ r.rdata)))

-- a record after an owner that reads as its own
pub record_there : (m owner : List ℕ) (r : Record) (more : List ℕ) (at : ℕ) → r.kind < 2 ^ 16 → IsRecord r
    → Reads m at 0 at (Ok (r.owner, at + length owner))
    → drop at m ≡ (owner ++ fixed_octets r) ++ more → IsRecordAt m at r (at + length (owner ++ fixed_octets r))
record_there m owner r more at kind_small held reads is =
    let b : ℕ = at + length owner in
    let k = two r.kind in
    let t = four r.ttl in
    let n = two (length r.rdata) in
    let short = short_rdata r held in
    let split : drop at m ≡ owner ++ (k ++ (two 1 ++ (t ++ (n ++ (r.rdata ++ more))))) =
    is ∙ append_assoc owner (k ++ (two 1 ++ (t ++ (n ++ r.rdata)))) more
    ∙ ap (λ xs. owner ++ xs) (append_assoc k (two 1 ++ (t ++ (n ++ r.rdata))) more
    ∙ ap (λ xs. k ++ xs) (append_assoc (two 1) (t ++ (n ++ r.rdata)) more
    ∙ ap (λ xs. two 1 ++ xs)
    (append_assoc t (n ++ r.rdata) more ∙ ap (λ xs. t ++ xs) (append_assoc n r.rdata more)))) in
    let d0 : drop b m ≡ k ++ (two 1 ++ (t ++ (n ++ (r.rdata ++ more)))) =
    drop_there m at (length owner) owner _ split refl in
    let d2 : drop (b + 2) m ≡ two 1 ++ (t ++ (n ++ (r.rdata ++ more))) = drop_there m b 2 k _ d0 (length_two r.kind) in
    let d4' : drop (b + 2 + 2) m ≡ t ++ (n ++ (r.rdata ++ more)) =
    drop_there m (b + 2) 2 (two 1) _ d2 (length_two 1) in
    let d4 : drop (b + 4) m ≡ t ++ (n ++ (r.rdata ++ more)) = ap (λ x. drop x m) (omega arith) ∙ d4' in
    let d8' : drop (b + 4 + 4) m ≡ n ++ (r.rdata ++ more) = drop_there m (b + 4) 4 t _ d4 (length_four r.ttl) in
    let d8 : drop (b + 8) m ≡ n ++ (r.rdata ++ more) = ap (λ x. drop x m) (omega arith) ∙ d8' in
    let d10' : drop (b + 8 + 2) m ≡ r.rdata ++ more = drop_there m (b + 8) 2 n _ d8 (length_two (length r.rdata)) in
    let d10 : drop (b + 10) m ≡ r.rdata ++ more = ap (λ x. drop x m) (omega arith) ∙ d10' in
    let kind = two_there m b r.kind _ kind_small d0 in
    let class = two_there m (b + 2) 1 _ (omega arith) d2 in
    let ttl = four_there m (b + 4) r.ttl _ (omega (arith, held.ttl)) d4 in
    let size = two_there m (b + 8) (length r.rdata) _ (omega (arith, short)) d8 in
    let low : nat_lt r.ttl (2 ^ 31) ≡ true = grind (arith, nat_tests, held.ttl) in
    let fields : AreFields m (b + 10 + length r.rdata) (fields_of r.kind) (b + 10) r.rdata =
    subst (λ x. AreFields m (b + 10 + length r.rdata) (fields_of r.kind) x r.rdata) (omega arith)
    (fields_there (fields_of r.kind) m (b + 10) 0 r.rdata more d10 (omega arith) (fits_record r held)) in
    let count = length_there m (b + 10) r.rdata more d10 in
    let whole : at + length (owner ++ (k ++ (two 1 ++ (t ++ (n ++ r.rdata))))) ≡ b + 10 + length r.rdata =
    omega (
      arith,
      length-append owner (k ++ (two 1 ++ (t ++ (n ++ r.rdata)))),
      length-append k (two 1 ++ (t ++ (n ++ r.rdata))),
      length-append (two 1) (t ++ (n ++ r.rdata)),
      length-append t (n ++ r.rdata),
      length-append n r.rdata,
      length_two r.kind,
      length_two 1,
      length_four r.ttl,
      length_two (length r.rdata),
    ) in
    let last = length_there m (b + 8) n (r.rdata ++ more) d8 in
    let there : b + 10 ≤ length m = omega (arith, last, length_two (length r.rdata)) in
    rw whole record {
      behind = b;
      owner = reads;
      kind = sym kind;
      class = class;
      ttl = sym (ap ttl_of ttl ∙ (rw low refl));
      next_is = ap (λ x. b + 10 + x) (sym size);
      within = omega (arith, count, there);
      held = held.kind;
      rdata = fields;
      short = short;
    }

-- what is written one after the other, from a place on, reads so
pub each_there : {X : Type 0} (Sound : X → Type 0) (One : ℕ → X → ℕ → Type 0) (octets : X → List ℕ)
    (m : List ℕ) (low : ℕ)
    → ((x : X) (more : List ℕ) (at : ℕ) → Sound x → low ≤ at → drop at m ≡ octets x ++ more
    → One at x (at + length (octets x)))
    → (xs : List X) (more : List ℕ) (at : ℕ) → AllByRecursion Sound xs
    → low ≤ at → drop at m ≡ flat_map octets xs ++ more → Each One at xs (at + length (flat_map octets xs))
each_there Sound One octets m low one [] more at sound behind is = let z : at + 0 ≡ at = omega arith in rw z no_one
each_there Sound One octets m low one (x ∷ xs) more at sound behind is =
    let split : drop at m ≡ octets x ++ (flat_map octets xs ++ more) =
    is ∙ append_assoc (octets x) (flat_map octets xs) more in
    let first = one x (flat_map octets xs ++ more) at sound.0 behind split in
    let next : drop (at + length (octets x)) m ≡ flat_map octets xs ++ more =
    drop_there m at (length (octets x)) (octets x) (flat_map octets xs ++ more) split refl in
    let rest = each_there Sound One octets m low one xs more (at + length (octets x)) sound.1 (omega arith) next in
    let e : at + length (octets x) + length (flat_map octets xs) ≡ at + length (octets x ++ flat_map octets xs) =
    omega (arith, length-append (octets x) (flat_map octets xs)) in
    one_first first (rw e at rest)
