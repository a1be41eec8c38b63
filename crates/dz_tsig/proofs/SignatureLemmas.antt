-- What a message shows of a TSIG, record by record.
use Rattle.std.proofs.Common.{◌≡◌, ℕ, zero, suc, ◌+◌, ◌*◌, ◌-◌, ◌<◌, ◌≤◌, ◌≢◌, Bool, true, false, [], ◌∷◌, length}
use Rattle.std.proofs.Common.{take, drop, refl, sym, subst, ◌∙◌, ap, arith, length-drop, Option, Some, None}
use Rattle.std.specs.Prelude.{nat_le, nat_lt, slice_index, ◌==◌, ◌&&◌, if◌then◌else◌}
use Rattle.std.proofs.lemmas.Bool.Decides.{nat_tests}
use Rattle.std.proofs.lemmas.List.{length-take-le}
use Rattle.dz_name.specs.Words.{Octets}
use Rattle.dz_header.specs.Shape.{behind_owner, behind_head, behind_records, shape_of}
use Rattle.dz_header.specs.RecordHead.{head_of}
use Rattle.dz_header.specs.declared.shape.Shape.{Shape}
use Rattle.dz_header.specs.declared.record_head.RecordHead.{RecordHead}
use Rattle.dz_tsig.specs.Signature.{found, shown, signature_among, after_question, after_questions, then_after}
use Rattle.dz_tsig.specs.declared.signature.Signature.{Signature}
use Rattle.dz_tsig.specs.declared.signature.Signature.TheVariants.{Absent, Malformed}

-- ---- what follows an owner is shorter
abbrev Within : ℕ → Option Octets → Type 0
Within n o = (rest : Octets) → o ≡ Some rest → length rest < n

within_none : (n : ℕ) → Within n None
within_none n rest e = absurd (cc)

within_some : (n : ℕ) (octets : Octets) → length octets < n → Within n (Some octets)
within_some n octets h rest e = let same : octets ≡ rest = cc in omega (arith, h, ap length same)

within_if : (n : ℕ) (b : Bool) (x y : Option Octets) → Within n x → Within n y → Within n (if b then x else y)
within_if n true x y f g = f
within_if n false x y f g = g

owner_within : (left : ℕ) (octets rest : Octets) → behind_owner left octets ≡ Some rest → length rest < length octets
unfolding behind_owner
owner_within zero [] rest e = absurd (cc)
owner_within (suc left) [] rest e = absurd (cc)
owner_within (suc left) (octet ∷ more) rest e = omega (arith, owner_within left more rest e)
owner_within zero (octet ∷ more) rest e =
    let n = length (octet ∷ more) in
    within_if n (octet == 0) (Some more) _ (within_some n more (omega arith))
    (within_if n (nat_le octet 63) (behind_owner octet more) _ (λ r f. omega (arith, owner_within octet more r f))
    (within_if n (nat_lt octet 192) None _ (within_none n)
    (within_if n (length more == 0) None (Some (drop 1 more)) (within_none n)
    (within_some n (drop 1 more) (omega (arith, length-drop 1 more)))))) rest e

-- a record's RDATA, and what follows the record, are no longer than the octets that it begins
pub record FitsIn (octets : Octets) (x : Shape × Octets × Octets) : Type 0 where
  pub rdata : length x.1 ≤ length octets
  pub rest : length x.2 + 11 ≤ length octets

record FitsHead (octets : Octets) (x : Shape × Octets × Octets) : Type 0 where
  rdata : length x.1 ≤ length octets
  rest : length x.2 + 10 ≤ length octets

pub head_long : (octets : Octets) (head : RecordHead) → head_of octets ≡ Some head → 10 ≤ length octets
head_long octets head e =
    elim (nat_lt (length octets) 10) as (λ b. nat_lt (length octets) 10 ≡ b → 10 ≤ length octets) [
      | true ↦ λ t. absurd (let g = rw t at e in cc)
      | false ↦ λ t. grind (arith, nat_tests)
    ] refl

head_fits : (root : Bool) (octets : Octets) (x : Shape × Octets × Octets) → behind_head root octets ≡ Some x
    → FitsHead octets x
unfolding behind_head
head_fits root octets x e = elim (head_of octets) as (λ h. head_of octets ≡ h → FitsHead octets x) [
  | None ↦ λ f. absurd (let g = rw f at e in cc)
  | Some head ↦ λ f. elim (nat_lt (length (drop 10 octets)) head.size) as (λ b.
      nat_lt (length (drop 10 octets)) head.size ≡ b → FitsHead octets x) [
        | true ↦ λ t. absurd (let g = rw (f, t) at e in cc)
        | false ↦ λ t.
            let g = rw (f, t) at e in
            let same : (
              record { root = root; head = head },
              take head.size (drop 10 octets),
              drop head.size (drop 10 octets),
            ) ≡ x = cc in
            let long : head.size ≤ length (drop 10 octets) = grind (arith, nat_tests) in
            subst (FitsHead octets) same (record {
              rdata = omega (arith, length-take-le head.size (drop 10 octets) long, length-drop 10 octets, long);
              rest =
                  omega
                  (arith, length-drop head.size (drop 10 octets), length-drop 10 octets, head_long octets head f);
            })
      ] refl
] refl

pub shape_fits : (octets : Octets) (x : Shape × Octets × Octets) → shape_of octets ≡ Some x → FitsIn octets x
unfolding shape_of
shape_fits octets x e = elim (behind_owner 0 octets) as (λ o. behind_owner 0 octets ≡ o → FitsIn octets x) [
  | None ↦ λ f. absurd (let g = rw f at e in cc)
  | Some rest ↦ λ f.
      let h = head_fits (slice_index octets 0 == 0) rest x (rw f at e) in
      let le = owner_within 0 octets rest f in
      record { rdata = omega (arith, h.rdata, le); rest = omega (arith, h.rest, le) }
] refl

-- ---- one record more
pub among_step : (m : Octets) (is_additional : Bool) (count i : ℕ) (octets : Octets) → i < count
    → signature_among m is_additional (count - i) octets ≡ shown m (is_additional && (i + 1 == count)) octets
    (signature_among m is_additional (count - (i + 1))) (shape_of octets)
unfolding signature_among
among_step m is_additional count i octets lt =
    let e : count - i ≡ suc (count - (i + 1)) = omega arith in
    let t : ((count - (i + 1)) == 0) ≡ ((i + 1) == count) = grind (arith, nat_tests) in
    rw (e, t) refl

pub among_done : (m : Octets) (is_additional : Bool) (count i : ℕ) (octets : Octets) → count ≤ i
    → signature_among m is_additional (count - i) octets ≡ (if length octets == 0 then Absent else Malformed)
unfolding signature_among
among_done m is_additional count i octets le = let e : count - i ≡ 0 = omega arith in rw e refl

-- ---- one question more
pub question_step : (count i : ℕ) (octets : Octets) → i < count → after_questions (count - i) octets
    ≡ then_after (after_questions (count - (i + 1))) (after_question (behind_owner 0 octets))
unfolding after_questions
question_step count i octets lt = let e : count - i ≡ suc (count - (i + 1)) = omega arith in rw e refl

pub question_done : (count i : ℕ) (octets : Octets) → count ≤ i → after_questions (count - i) octets ≡ Some octets
unfolding after_questions
question_done count i octets le = let e : count - i ≡ 0 = omega arith in rw e refl

-- ---- what the records show, by the shape of the first
module _ (m : Octets) (is_additional : Bool) (count i : ℕ) (octets : Octets) (whole : Signature)
    (so_far : signature_among m is_additional (count - i) octets ≡ whole) where
  by_shape : (shape : Option (Shape × Octets × Octets)) → i < count → shape ≡ shape_of octets
      → shown m (is_additional && (i + 1 == count)) octets (signature_among m is_additional (count - (i + 1))) shape
      ≡ whole
  by_shape shape lt e =
      ap (shown m (is_additional && (i + 1 == count)) octets (signature_among m is_additional (count - (i + 1)))) e
      ∙ (sym (among_step m is_additional count i octets lt) ∙ so_far)

  pub none_shown : i < count → None ≡ shape_of octets → Malformed ≡ whole
  none_shown lt e = by_shape None lt e

  pub tsig_shown : (x : Shape × Octets × Octets) → i < count → Some x ≡ shape_of octets → x.0.head.kind ≡ 250
      → found m (is_additional && (i + 1 == count)) octets x ≡ whole
  tsig_shown x lt e is =
      let t : (x.0.head.kind == 250) ≡ true = grind (arith, nat_tests) in
      let h : (if x.0.head.kind == 250 then found m (is_additional && (i + 1 == count)) octets x
      else signature_among m is_additional (count - (i + 1)) x.2) ≡ whole = by_shape (Some x) lt e in
      rw t at h

  pub other_shown : (x : Shape × Octets × Octets) → i < count → Some x ≡ shape_of octets → x.0.head.kind ≢ 250
      → signature_among m is_additional (count - (i + 1)) x.2 ≡ whole
  other_shown x lt e isnt =
      let t : (x.0.head.kind == 250) ≡ false = grind (arith, nat_tests) in
      let h : (if x.0.head.kind == 250 then found m (is_additional && (i + 1 == count)) octets x
      else signature_among m is_additional (count - (i + 1)) x.2) ≡ whole = by_shape (Some x) lt e in
      rw t at h

  pub none_left : count ≤ i → length octets ≡ 0 → Absent ≡ whole
  none_left le none = let t : (length octets == 0) ≡ true = grind (arith, nat_tests) in
      let h : signature_among m is_additional (count - i) octets ≡ (if length octets == 0 then Absent else Malformed) =
      among_done m is_additional count i octets le in
      sym (rw t at h) ∙ so_far

  pub some_left : count ≤ i → length octets ≢ 0 → Malformed ≡ whole
  some_left le some = let t : (length octets == 0) ≡ false = grind (arith, nat_tests) in
      let h : signature_among m is_additional (count - i) octets ≡ (if length octets == 0 then Absent else Malformed) =
      among_done m is_additional count i octets le in
      sym (rw t at h) ∙ so_far

-- ---- this many records have eleven octets each at least
pub records_long : (count : ℕ) (octets rest : Octets) → behind_records count octets ≡ Some rest
    → 11 * count ≤ length octets
unfolding behind_records
records_long zero octets rest e = omega arith
records_long (suc count) octets rest e =
    elim (shape_of octets) as (λ o. shape_of octets ≡ o → 11 * suc count ≤ length octets) [
      | None ↦ λ f. absurd (let g = rw f at e in cc)
      | Some x ↦ λ f.
          let more = records_long count x.2 rest (rw f at e) in
          omega (arith, more, (shape_fits octets x f).rest)
    ] refl
