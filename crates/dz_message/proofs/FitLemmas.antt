-- RDATA that was read fits its type.
use Rattle.std.proofs.Common.{◌≡◌, ℕ, ◌-◌, ◌+◌, ◌≤◌, List, [], ◌∷◌, ◌++◌, length, take, drop, Result, Ok, Err, Some}
use Rattle.std.proofs.Common.{refl, sym, ap, ◌∙◌, subst, append_assoc, length-append, arith, true, inl, inr}
use Rattle.std.specs.Prelude.{nat_le, nat_lt, ◌==◌, slice_index, if◌then◌else◌}
use Rattle.std.proofs.lemmas.List.{length-take-le, length-drop, get_or-take, get_or-drop, get_or_append_left}
use Rattle.std.proofs.lemmas.List.{get_or-append-add}
use Rattle.std.proofs.lemmas.Bool.Decides.{nat_tests, leb_tells, eqb_tells}
use Rattle.dz_name.specs.Name.{wire_of}
use Rattle.dz_name.specs.Reading.{name_at}
use Rattle.dz_name.proofs.ReadingLemmas.{name_at_name, name_at_within}
use Rattle.dz_name.proofs.CanonicalLemmas.{canonical_end_wire}
use Rattle.dz_record.specs.declared.fields.Field.{Field}
use Rattle.dz_record.specs.declared.fields.Field.TheVariants.{FixedLength, DomainName, CharacterString, Remainder}
use Rattle.dz_record.specs.Fields.{fields_of, field_end, fits, is_rdata}
use Rattle.dz_message.specs.declared.fault.MessageFault.{MessageFault}
use Rattle.dz_message.specs.declared.fault.MessageFault.TheVariants.{BadRdata}
use Rattle.dz_name.specs.declared.wire_fault.WireFault.{WireFault}
use Rattle.dz_message.specs.Reading.{◌>>=◌, named, octets_at, name_within, field_at, rdata_at}

-- what follows an Ok of two readers
pub then_ok : {A B : Type 0} (r : Result A MessageFault) (f : A → Result B MessageFault) (y : B) → (r >>= f) ≡ Ok y
    → (x : A) × (r ≡ Ok x) × (f x ≡ Ok y)
then_ok (Ok x) f y h = (x, refl, h)
then_ok (Err e) f y h = absurd (cc)

-- octets that were read: how many, and where they end
pub record IsTaken (m : List ℕ) (at end count : ℕ) (piece : List ℕ) (next : ℕ) : Type 0 where
  pub few : count ≤ end - at
  pub piece_is : piece ≡ take count (drop at m)
  pub next_is : next ≡ at + count

pub ok_is : {A : Type 0} (a b : A) → ◌≡◌ {A = Result A MessageFault} (Ok a) (Ok b) → a ≡ b
ok_is a b q = cc

pub taken : (m : List ℕ) (at end count : ℕ) (x : List ℕ × ℕ) → octets_at m at end count ≡ Ok x
    → IsTaken m at end count x.0 x.1
unfolding octets_at
taken m at end count x h =
    elim (leb_tells count (end - at)) [
      | inl w ↦
          let q : ◌≡◌ {A = Result (List ℕ × ℕ) MessageFault} (Ok (take count (drop at m), at + count)) (Ok x) =
          rw w.0 at h in
          let e : (take count (drop at m), at + count) ≡ x = ok_is _ _ q in
          record { few = w.1; piece_is = sym (ap (λ p. p.0) e); next_is = sym (ap (λ p. p.1) e) }
      | inr w ↦ let q = rw w.0 at h in absurd (cc)
    ]

length_taken : (m : List ℕ) (at end count : ℕ) (piece : List ℕ) (next : ℕ) → end ≤ length m → at ≤ end
    → IsTaken m at end count piece next → length piece ≡ count
length_taken m at end count piece next le start is =
    ap length is.piece_is ∙ length-take-le count (drop at m) (omega (arith, length-drop at m, is.few))

pub record IsNameRead (m : List ℕ) (at end : ℕ) (piece : List ℕ) (next : ℕ) : Type 0 where
  pub labels : List (List ℕ)
  pub read : name_at m at ≡ Ok (labels, next)
  pub within : next ≤ end
  pub piece_is : piece ≡ wire_of labels

pub named_ok : {X : Type 0} (r : Result X WireFault) (x : X) → named r ≡ Ok x → r ≡ Ok x
named_ok (Ok name) x h = cc
named_ok (Err fault) x h = absurd (cc)

pub name_read : (m : List ℕ) (at end : ℕ) (x : List ℕ × ℕ) → name_within m at end ≡ Ok x → IsNameRead m at end x.0 x.1
unfolding name_within
name_read m at end x h =
    let name = then_ok (named (name_at m at))
    (λ name. if nat_le name.1 end then Ok (wire_of name.0, name.1) else Err BadRdata) x h in
    elim (leb_tells name.0.1 end) [
      | inl w ↦
          let q : ◌≡◌ {A = Result (List ℕ × ℕ) MessageFault} (Ok (wire_of name.0.0, name.0.1)) (Ok x) =
          rw w.0 at name.2 in
          let e : (wire_of name.0.0, name.0.1) ≡ x = ok_is _ _ q in
          record {
            labels = name.0.0;
            read = named_ok (name_at m at) name.0 name.1 ∙ ap (λ n. Ok (name.0.0, n)) (ap (λ p. p.1) e);
            within = omega (arith, w.1, ap (λ p. p.1) e);
            piece_is = sym (ap (λ p. p.0) e);
          }
      | inr w ↦ let q = rw w.0 at name.2 in absurd (cc)
    ]

-- where nothing is left of the RDATA, nothing more is read
nothing_left : (fields : List Field) (m : List ℕ) (end : ℕ) (rest : List ℕ) → end ≤ length m
    → rdata_at m end end fields ≡ Ok rest → length rest ≡ 0
unfolding rdata_at
nothing_left [] m end rest le h =
    let t : (end == end) ≡ true = grind (arith, nat_tests) in
    let q : ◌≡◌ {A = Result (List ℕ) MessageFault} (Ok []) (Ok rest) = rw t at h in
    sym (ap (λ xs. length xs) (ok_is _ _ q))
nothing_left (field ∷ fields) m end rest le h =
    let piece = then_ok (field_at m end end field)
    (λ piece. rdata_at m piece.1 end fields >>= λ more. Ok (piece.0 ++ more)) rest h in
    let more = then_ok (rdata_at m piece.0.1 end fields) (λ more. Ok (piece.0.0 ++ more)) rest piece.2 in
    let none = no_piece field m end piece.0 le piece.1 in
    let tail = nothing_left fields m end more.0 le (subst (λ n. rdata_at m n end fields ≡ Ok more.0) none.1 more.1) in
    omega (arith, none.0, tail, ap (λ xs. length xs) (ok_is _ _ more.2), length-append piece.0.0 more.0)
  where
    none_taken : (m : List ℕ) (end count : ℕ) (x : List ℕ × ℕ) → end ≤ length m → octets_at m end end count ≡ Ok x
        → (length x.0 ≡ 0) × (x.1 ≡ end)
    none_taken m end count x le h =
        let is = taken m end end count x h in
        let long = length_taken m end end count x.0 x.1 le (omega arith) is in
        (omega (arith, is.few), omega (arith, is.few, is.next_is))

    no_piece : (field : Field) (m : List ℕ) (end : ℕ) (x : List ℕ × ℕ) → end ≤ length m
        → field_at m end end field ≡ Ok x → (length x.0 ≡ 0) × (x.1 ≡ end)
    no_piece (FixedLength count) m end x le h = none_taken m end count x le h
    no_piece DomainName m end x le h =
        let is = name_read m end end x h in
        absurd (omega (arith, is.within, (name_at_within m end x.1 is.labels is.read).0))
    no_piece CharacterString m end x le h = none_taken m end (slice_index m end + 1) x le h
    no_piece Remainder m end x le h = none_taken m end (end - end) x le h

-- a piece that was read is found again where it is written
piece_found : (field : Field) (fields : List Field) (m : List ℕ) (at end : ℕ) (x : List ℕ × ℕ) (front rest : List ℕ)
    → end ≤ length m → at ≤ end → field_at m at end field ≡ Ok x → rdata_at m x.1 end fields ≡ Ok rest
    → (field_end field (front ++ (x.0 ++ rest)) (length front) ≡ Some (length front + length x.0)) × (x.1 ≤ end)
unfolding field_end
piece_found (FixedLength count) fields m at end x front rest le start h more =
    let is = taken m at end count x h in
    let long = length_taken m at end count x.0 x.1 le start is in
    let t : nat_le count (length (front ++ (x.0 ++ rest)) - length front) ≡ true =
    grind (arith, nat_tests, length-append front (x.0 ++ rest), length-append x.0 rest) in
    (rw (t, long) refl, omega (arith, is.few, is.next_is))
piece_found DomainName fields m at end x front rest le start h more =
    let is = name_read m at end x h in
    (rw is.piece_is (canonical_end_wire front is.labels rest (name_at_name m at x.1 is.labels is.read)), is.within)
piece_found CharacterString fields m at end x front rest le start h more =
    let is = taken m at end (slice_index m at + 1) x h in
    let long = length_taken m at end (slice_index m at + 1) x.0 x.1 le start is in
    let first : slice_index x.0 0 ≡ slice_index m at =
    ap (λ xs. slice_index xs 0) is.piece_is ∙ get_or-take (slice_index m at + 1) (drop at m) 0 0 (omega arith)
    ∙ get_or-drop at m 0 0 ∙ ap (λ n. slice_index m n) (omega arith) in
    let there : slice_index (front ++ (x.0 ++ rest)) (length front) ≡ slice_index m at =
    ap (λ n. slice_index (front ++ (x.0 ++ rest)) n) (omega arith) ∙ get_or-append-add front (x.0 ++ rest) 0 0
    ∙ get_or_append_left x.0 rest 0 0 (omega arith) ∙ first in
    let t : nat_lt (slice_index m at) (length (front ++ (x.0 ++ rest)) - length front) ≡ true =
    grind (arith, nat_tests, length-append front (x.0 ++ rest), length-append x.0 rest) in
    (rw (there, t, long) refl, omega (arith, is.few, is.next_is))
piece_found Remainder fields m at end x front rest le start h more =
    let is = taken m at end (end - at) x h in
    let at_end : x.1 ≡ end = omega (arith, is.next_is) in
    let none = nothing_left fields m end rest le (subst (λ n. rdata_at m n end fields ≡ Ok rest) at_end more) in
    (ap (λ n. Some n) (omega (arith, length-append front (x.0 ++ rest), length-append x.0 rest)), omega arith)

reads_fit : (fields : List Field) (m : List ℕ) (at end : ℕ) (front out : List ℕ) → end ≤ length m → at ≤ end
    → rdata_at m at end fields ≡ Ok out → fits fields (front ++ out) (length front) ≡ true
unfolding rdata_at fits
reads_fit [] m at end front out le start h =
    elim (eqb_tells at end) [
      | inl w ↦
          let q : ◌≡◌ {A = Result (List ℕ) MessageFault} (Ok []) (Ok out) = rw w.0 at h in
          let e = ap (λ xs. length xs) (ok_is _ _ q) in
          grind (arith, nat_tests, length-append front out)
      | inr w ↦ let q = rw w.0 at h in absurd (cc)
    ]
reads_fit (field ∷ fields) m at end front out le start h =
    let piece = then_ok (field_at m at end field)
    (λ piece. rdata_at m piece.1 end fields >>= λ more. Ok (piece.0 ++ more)) out h in
    let more = then_ok (rdata_at m piece.0.1 end fields) (λ more. Ok (piece.0.0 ++ more)) out piece.2 in
    let whole : piece.0.0 ++ more.0 ≡ out = ok_is _ _ more.2 in
    let found = piece_found field fields m at end piece.0 front more.0 le start piece.1 more.1 in
    let tail = reads_fit fields m piece.0.1 end (front ++ piece.0.0) more.0 le found.1 more.1 in
    let tail_there : fits fields (front ++ (piece.0.0 ++ more.0)) (length front + length piece.0.0) ≡ true =
    rw (append_assoc front piece.0.0 more.0, length-append front piece.0.0) at tail in
    rw (← whole, found.0) tail_there

-- RDATA that was read is RDATA of its type
pub rdata_fits : (kind : ℕ) (m : List ℕ) (at end : ℕ) (out : List ℕ) → end ≤ length m → at ≤ end
    → rdata_at m at end (fields_of kind) ≡ Ok out → length out ≤ 65535 → is_rdata kind out ≡ true
rdata_fits kind m at end out le start h short =
    let t : nat_le (length out) 65535 ≡ true = grind (arith, nat_tests) in
    rw (t, reads_fit (fields_of kind) m at end [] out le start h) refl
