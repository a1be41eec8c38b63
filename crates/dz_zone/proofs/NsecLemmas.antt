-- The places of NSEC records.
use Rattle.std.proofs.Common.{◌≡◌, ℕ, ◌+◌, ◌-◌, ◌<◌, ◌≤◌, true, false, List, [], ◌∷◌, ◌++◌, length, get_or, refl, sym}
use Rattle.std.proofs.Common.{◌∙◌, subst, arith, inl, inr, Some, None}
use Rattle.std.specs.List.Sorted.{IsPartitionPoint, IsPartitionedBy}
use Rattle.std.proofs.lemmas.List.{get_or_default, get_or_append_left, get_or_push, length_push}
use Rattle.std.proofs.lemmas.Bool.{cases_lt}
use Rattle.std.proofs.lemmas.Bool.Decides.{nat_tests}
use Rattle.std.specs.Prelude.{nat_lt}
use Rattle.dz_record.specs.Record.{Record, IsRecord}
use Rattle.dz_zone.specs.Version.{IsLastNsec}
use Rattle.dz_zone.specs.inner.Kept.{AreNsecs}

-- the last of the places before one
module _ (records : List Record) (nsecs : List ℕ) (place before : ℕ) (are : AreNsecs records nsecs)
    (few : before ≤ length nsecs)
    (low : (i : ℕ) → i < before → get_or nsecs i 0 < place)
    (high : (i : ℕ) → before ≤ i → i < length nsecs → place ≤ get_or nsecs i 0) where
  pub none_before : before ≡ 0 → IsLastNsec records place None
  none_before none k d lt within is =
      let at = are.complete k d within is in
      let from : place ≤ get_or nsecs at.0 0 = high at.0 (omega arith) at.1 in
      omega (arith, from, at.2)

  pub last_before : (last : ℕ) → 0 < before → last ≡ get_or nsecs (before - 1) 0 → IsLastNsec records place (Some last)
  last_before last some is = (
    rw is (low (before - 1) (omega arith)),
    rw is ((are.sound (before - 1) no_one (omega arith)).0),
    λ d. rw is ((are.sound (before - 1) d (omega arith)).1),
    λ k d above lt within kind.
        let at = are.complete k d within kind in
        elim (cases_lt at.0 before) [
          | inl less ↦ elim (cases_lt at.0 (before - 1)) [
            | inl smaller ↦ let r = are.rise at.0 (before - 1) smaller (omega arith) in omega (arith, r, at.2, is)
            | inr not_smaller ↦ let e : at.0 ≡ before - 1 = omega arith in let f = rw e at at.2 in omega (arith, f, is)
          ]
          | inr from ↦ let h = high at.0 from at.1 in omega (arith, h, at.2)
        ],
  )
    where
      no_one : Record
      no_one = record { owner = []; kind = 0; ttl = 0; rdata = [] }

-- the places before a place are the first ones
pub places_part : (records : List Record) (nsecs : List ℕ) (place : ℕ) → AreNsecs records nsecs
    → IsPartitionedBy (λ n. nat_lt n place) nsecs
places_part records nsecs place are i j d le within t = elim (cases_lt i j) [
  | inl lt ↦
      let r : get_or nsecs i 0 < get_or nsecs j 0 = are.rise i j lt within in
      let a : get_or nsecs i d ≡ get_or nsecs i 0 = get_or_default nsecs i d 0 (omega arith) in
      let b : get_or nsecs j d ≡ get_or nsecs j 0 = get_or_default nsecs j d 0 within in
      grind (arith, nat_tests)
  | inr ge ↦ let e : i ≡ j = omega arith in rw e t
]

pub point_low : (nsecs : List ℕ) (place before : ℕ) → IsPartitionPoint (λ n. nat_lt n place ≡ true)
    (λ n. nat_lt n place ≡ false) nsecs before → (i : ℕ) → i < before → get_or nsecs i 0 < place
point_low nsecs place before point i lt =
    let t : nat_lt (get_or nsecs i 0) place ≡ true = point.0 i 0 (omega arith) lt in
    grind (arith, nat_tests)

pub point_high : (nsecs : List ℕ) (place before : ℕ) → IsPartitionPoint (λ n. nat_lt n place ≡ true)
    (λ n. nat_lt n place ≡ false) nsecs before → (i : ℕ) → before ≤ i → i < length nsecs → place ≤ get_or nsecs i 0
point_high nsecs place before point i from within =
    let t : nat_lt (get_or nsecs i 0) place ≡ false = point.1 i 0 from within in
    grind (arith, nat_tests)

-- the places of the first records
pub record AreUpto (upto : ℕ) (records : List Record) (nsecs : List ℕ) : Type 0 where
  pub sound : (i : ℕ) (d : Record) → i < length nsecs
      → (get_or nsecs i 0 < upto) × ((get_or records (get_or nsecs i 0) d).kind ≡ 47)
  pub complete : (k : ℕ) (d : Record) → k < upto → (get_or records k d).kind ≡ 47
      → (i : ℕ) × (i < length nsecs) × (get_or nsecs i 0 ≡ k)
  pub rise : (i j : ℕ) → i < j → j < length nsecs → get_or nsecs i 0 < get_or nsecs j 0

no_one : Record
no_one = record { owner = []; kind = 0; ttl = 0; rdata = [] }

pub upto_none : (records : List Record) → AreUpto 0 records []
upto_none records = record {
  sound = λ i d lt. absurd (omega arith);
  complete = λ k d lt e. absurd (omega arith);
  rise = λ i j lt within. absurd (omega arith);
}

pub upto_skip : (upto : ℕ) (records : List Record) (nsecs : List ℕ) → upto < length records
    → ((d : Record) → (get_or records upto d).kind ≡ 47 → ⊥) → AreUpto upto records nsecs
    → AreUpto (upto + 1) records nsecs
upto_skip upto records nsecs within other are = record {
  sound = λ i d lt. let s = are.sound i d lt in (omega (arith, s.0), s.1);
  complete = λ k d lt e. elim (cases_lt k upto) [
    | inl less ↦ are.complete k d less e
    | inr ge ↦ let f : k ≡ upto = omega arith in absurd (other d (rw f at e))
  ];
  rise = are.rise;
}

pub upto_push : (upto : ℕ) (records : List Record) (nsecs : List ℕ) → upto < length records
    → ((d : Record) → (get_or records upto d).kind ≡ 47) → AreUpto upto records nsecs
    → AreUpto (upto + 1) records (nsecs ++ upto ∷ [])
upto_push upto records nsecs within here are = record {
  sound = λ i d lt. elim (cases_lt i (length nsecs)) [
    | inl less ↦
        let s = are.sound i d less in
        rw (get_or_append_left nsecs (upto ∷ []) 0 i less) (omega (arith, s.0), s.1)
    | inr ge ↦ let f : length nsecs ≡ i = omega (arith, length_push nsecs upto) in
        rw (get_or_push nsecs upto 0 i f) (omega arith, here d)
  ];
  complete = λ k d lt e. elim (cases_lt k upto) [
    | inl less ↦
        let c = are.complete k d less e in
        (c.0, omega (arith, c.1, length_push nsecs upto), get_or_append_left nsecs (upto ∷ []) 0 c.0 c.1 ∙ c.2)
    | inr ge ↦ let f : k ≡ upto = omega arith in
        (length nsecs, omega (arith, length_push nsecs upto), get_or_push nsecs upto 0 (length nsecs) refl ∙ sym f)
  ];
  rise = λ i j lt within_j. elim (cases_lt j (length nsecs)) [
    | inl less ↦ rw (
      get_or_append_left nsecs (upto ∷ []) 0 i (omega arith),
      get_or_append_left nsecs (upto ∷ []) 0 j less,
    ) (are.rise i j lt less)
    | inr ge ↦
        let f : length nsecs ≡ j = omega (arith, length_push nsecs upto) in
        let i_in : i < length nsecs = omega arith in
        let s = are.sound i no_one i_in in
        rw (get_or_append_left nsecs (upto ∷ []) 0 i i_in, get_or_push nsecs upto 0 j f) s.0
  ];
}

pub upto_all : (upto : ℕ) (records : List Record) (nsecs : List ℕ) → length records ≤ upto → upto ≤ length records
    → AreUpto upto records nsecs → AreNsecs records nsecs
upto_all upto records nsecs le ge are = record {
  sound = λ i d lt. let s = are.sound i d lt in (omega (arith, s.0), s.1);
  complete = λ k d lt e. are.complete k d (omega arith) e;
  rise = are.rise;
}

-- what is known of the record at a place, and of those before it
pub held_more : (upto : ℕ) (records : List Record) (r : Record) → ((d : Record) → r ≡ get_or records upto d)
    → IsRecord r
    → ((k : ℕ) (d : Record) → k < upto → IsRecord (get_or records k d)) → (k : ℕ) (d : Record) → k < upto + 1
    → IsRecord (get_or records k d)
held_more upto records r there held below k d lt = elim (cases_lt k upto) [
  | inl less ↦ below k d less
  | inr ge ↦ let e : k ≡ upto = omega arith in rw e (subst IsRecord (there d) held)
]
