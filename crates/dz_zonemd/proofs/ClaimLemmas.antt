-- The records that verify a zone, algorithm by algorithm.
use Rattle.std.proofs.Common.{◌≡◌, Bool, true, false, List, [], ◌∷◌, length, refl, sym, ◌∙◌, ap, inl, inr, ◌+◌, arith}
use Rattle.std.proofs.Common.{Some, None, cond}
use Rattle.std.specs.Prelude.{◌==◌, ◌&&◌, ◌||◌, count_by}
use Rattle.std.specs.List.{find, list_any}
use Rattle.std.specs.Str.{bytes_eq}
use Rattle.std.proofs.lemmas.Bool.{cases_Bool, eqb-true}
use Rattle.std.proofs.lemmas.List.Sums.{sum_by-cons}
use Rattle.dz_name.specs.Words.{Name}
use Rattle.dz_record.specs.Record.{Record}
use Rattle.dz_zonemd.specs.declared.algorithm.Algorithm.{Algorithm}
use Rattle.dz_zonemd.specs.declared.algorithm.Algorithm.TheVariants.{Sha384, Sha512}
use Rattle.dz_zonemd.specs.Digested.{digested}
use Rattle.dz_zonemd.specs.Standing.{zonemds, is_serial, verifies}
use Rattle.dz_zonemd.specs.Zonemd.{serial_in, scheme_in, algorithm_in, digest_in, number_of, hash_by, is_by, is_twin}
use Rattle.dz_zonemd.specs.Zonemd.{size_of}
use Rattle.dz_zonemd.specs.inner.Claims.{agrees, verified_by}

both : (a b : Bool) → (a && b) ≡ true → (a ≡ true) × (b ≡ true)
both true b h = (refl, h)
both false b h = absurd (cc)

-- the numbers of a record of an algorithm
pub scheme_known : (algorithm : Algorithm) (r : Record) → is_by algorithm r ≡ true → scheme_in r ≡ 1
scheme_known algorithm r h =
    eqb-true (scheme_in r) 1 (both (scheme_in r == 1) (algorithm_in r == number_of algorithm) h).0

pub algorithm_known : (algorithm : Algorithm) (r : Record) → is_by algorithm r ≡ true
    → algorithm_in r ≡ number_of algorithm
algorithm_known algorithm r h = eqb-true (algorithm_in r) (number_of algorithm)
    (both (scheme_in r == 1) (algorithm_in r == number_of algorithm) h).1

-- its twins are the records of the algorithm
twins : (algorithm : Algorithm) (r : Record) → is_by algorithm r ≡ true → (found : List Record)
    → count_by (is_twin r) found ≡ count_by (is_by algorithm) found
twins algorithm r h found =
    let same : (s : Record) → is_twin r s ≡ is_by algorithm s =
    λ s. ap (λ n. scheme_in s == n && algorithm_in s == algorithm_in r) (scheme_known algorithm r h)
    ∙ ap (λ n. scheme_in s == 1 && algorithm_in s == n) (algorithm_known algorithm r h) in
    ap (λ p. count_by p found) (λ i s. same s i)

first_algorithm : (l c x d : Bool) → (l && (c && x)) ≡ ((c && (l && x)) || (d && false))
first_algorithm true true true d = refl
first_algorithm true true false true = refl
first_algorithm true true false false = refl
first_algorithm true false x true = refl
first_algorithm true false x false = refl
first_algorithm false true x true = refl
first_algorithm false true x false = refl
first_algorithm false false x true = refl
first_algorithm false false x false = refl

second_algorithm : (l c x d : Bool) → (l && (c && x)) ≡ ((d && false) || (c && (l && x)))
second_algorithm true true x true = refl
second_algorithm true true x false = refl
second_algorithm true false x true = refl
second_algorithm true false x false = refl
second_algorithm false true x true = refl
second_algorithm false true x false = refl
second_algorithm false false x true = refl
second_algorithm false false x false = refl

no_algorithm : (c d : Bool) → false ≡ ((c && false) || (d && false))
no_algorithm true true = refl
no_algorithm true false = refl
no_algorithm false true = refl
no_algorithm false false = refl

-- a record is of one algorithm at most
not_both : (r : Record) → is_by Sha384 r ≡ true → is_by Sha512 r ≡ false
not_both r h =
    ap (λ n. scheme_in r == 1 && n == 2) (algorithm_known Sha384 r h)
    ∙ ap (λ n. n == 1 && false) (scheme_known Sha384 r h)

-- a record verifies a zone where it is the one of its algorithm, and agrees
verifies_by : (apex : Name) (records : List Record) (r : Record)
    → verifies apex records r ≡ ((count_by (is_by Sha384) (zonemds apex records) == 1 && agrees Sha384 apex records r)
    || (count_by (is_by Sha512) (zonemds apex records) == 1 && agrees Sha512 apex records r))
verifies_by apex records r =
    let alone : Algorithm → Bool = λ algorithm. count_by (is_by algorithm) (zonemds apex records) == 1 in
    elim (cases_Bool (is_by Sha384 r)) [
      | inl t ↦
          let n = twins Sha384 r t (zonemds apex records) in
          let rest = is_serial apex records (serial_in r)
          && bytes_eq (digest_in r) (hash_by Sha384 (digested apex records)) in
          rw (t, not_both r t, n) (first_algorithm (length (digest_in r) == 48) (alone Sha384) rest (alone Sha512))
      | inr f ↦ elim (cases_Bool (is_by Sha512 r)) [
        | inl t ↦
            let n = twins Sha512 r t (zonemds apex records) in
            let rest = is_serial apex records (serial_in r)
            && bytes_eq (digest_in r) (hash_by Sha512 (digested apex records)) in
            rw (f, t, n) (second_algorithm (length (digest_in r) == 64) (alone Sha512) rest (alone Sha384))
        | inr g ↦ rw (f, g) (no_algorithm (alone Sha384) (alone Sha512))
      ]
    ]

regroup : (c d p q u v : Bool)
    → (((c && p) || (d && q)) || ((c && u) || (d && v))) ≡ ((c && (p || u)) || (d && (q || v)))
regroup false false p q u v = refl
regroup false true p q u v = refl
regroup true false true q u v = refl
regroup true false false q true v = refl
regroup true false false q false v = refl
regroup true true true q u v = refl
regroup true true false true true v = refl
regroup true true false false true v = refl
regroup true true false true false v = refl
regroup true true false false false v = refl

any_parts : (c d : Bool) (f p q : Record → Bool) → ((r : Record) → f r ≡ ((c && p r) || (d && q r)))
    → (rs : List Record) → list_any f rs ≡ ((c && list_any p rs) || (d && list_any q rs))
any_parts c d f p q h [] = no_algorithm c d
any_parts c d f p q h (r ∷ rs) =
    rw (h r, any_parts c d f p q h rs) (regroup c d (p r) (q r) (list_any p rs) (list_any q rs))

pub verified_is : (apex : Name) (records : List Record)
    → list_any (verifies apex records) (zonemds apex records) ≡ (verified_by Sha384 apex records (zonemds apex records)
    || verified_by Sha512 apex records (zonemds apex records))
verified_is apex records = any_parts _ _ (verifies apex records) (agrees Sha384 apex records)
    (agrees Sha512 apex records) (verifies_by apex records) (zonemds apex records)

-- what the records of the apex say, given as they were found
pub found_verified : (apex : Name) (records found : List Record) → found ≡ zonemds apex records
    → (verified_by Sha384 apex records found || verified_by Sha512 apex records found)
    ≡ list_any (verifies apex records) found
found_verified apex records found all = rw all (sym (verified_is apex records))

pub first_tells : (a b c : Bool) → a ≡ true → (a || b) ≡ c → a ≡ c
first_tells true b c t h = h
first_tells false b c t h = absurd (cc)

pub second_tells : (a b c : Bool) → a ≡ false → (a || b) ≡ c → b ≡ c
second_tells false b c f h = h
second_tells true b c f h = absurd (cc)

-- a count, element by element
count_more : (p : Record → Bool) (r : Record) (rs : List Record) → p r ≡ true → count_by p (r ∷ rs) ≡ 1 + count_by p rs
count_more p r rs t = sum_by-cons (λ s. cond (p s) 1 0) r rs ∙ ap (λ b. cond b 1 0 + count_by p rs) t

count_same : (p : Record → Bool) (r : Record) (rs : List Record) → p r ≡ false → count_by p (r ∷ rs) ≡ count_by p rs
count_same p r rs f = sum_by-cons (λ s. cond (p s) 1 0) r rs ∙ (ap (λ b. cond b 1 0 + count_by p rs) f ∙ omega arith)

none_passes : (p q : Record → Bool) (rs : List Record) → count_by p rs ≡ 0 → list_any (λ r. p r && q r) rs ≡ false
none_passes p q [] e = refl
none_passes p q (r ∷ rs) e = elim (cases_Bool (p r)) [
  | inl t ↦ absurd (omega (arith, e, count_more p r rs t))
  | inr f ↦ let rest : count_by p rs ≡ 0 = sym (count_same p r rs f) ∙ e in rw (f, none_passes p q rs rest) refl
]

or_false : (b : Bool) → (b || false) ≡ b
or_false true = refl
or_false false = refl

-- of a list with one element of a kind, that one decides
one_decides : (p q : Record → Bool) (rs : List Record) (r : Record) → count_by p rs ≡ 1 → find p rs ≡ Some r
    → list_any (λ s. p s && q s) rs ≡ (p r && q r)
one_decides p q [] r e found = absurd (omega (arith, e))
one_decides p q (s ∷ rs) r e found = elim (cases_Bool (p s)) [
  | inl t ↦
      let rest : count_by p rs ≡ 0 = omega (arith, e, count_more p s rs t) in
      let is : Some s ≡ Some r = rw t at found in
      let same : s ≡ r = cc in
      rw (none_passes p q rs rest) (or_false (p s && q s) ∙ ap (λ x. p x && q x) same)
  | inr f ↦
      let rest : count_by p rs ≡ 1 = sym (count_same p s rs f) ∙ e in
      let later : find p rs ≡ Some r = rw f at found in
      rw f (one_decides p q rs r rest later)
]

pub one_alone : (algorithm : Algorithm) (apex : Name) (records found : List Record) (r : Record)
    → count_by (is_by algorithm) found ≡ 1
    → find (is_by algorithm) found ≡ Some r
    → agrees algorithm apex records r ≡ verified_by algorithm apex records found
one_alone algorithm apex records found r e is =
    rw e (sym (one_decides (is_by algorithm) (λ s. length (digest_in s) == size_of algorithm && (is_serial apex records
    (serial_in s) && bytes_eq (digest_in s) (hash_by algorithm (digested apex records)))) found r e is))

none_found : (p q : Record → Bool) (rs : List Record) → find p rs ≡ None → list_any (λ r. p r && q r) rs ≡ false
none_found p q [] e = refl
none_found p q (r ∷ rs) e = elim (cases_Bool (p r)) [
  | inl t ↦ absurd (let is : Some r ≡ None = rw t at e in cc)
  | inr f ↦ let rest : find p rs ≡ None = rw f at e in rw (f, none_found p q rs rest) refl
]

pub none_alone : (algorithm : Algorithm) (apex : Name) (records found : List Record)
    → count_by (is_by algorithm) found ≡ 1
    → find (is_by algorithm) found ≡ None → false ≡ verified_by algorithm apex records found
none_alone algorithm apex records found e is =
    rw e (sym (none_found (is_by algorithm) (λ s. length (digest_in s) == size_of algorithm && (is_serial apex records
    (serial_in s) && bytes_eq (digest_in s) (hash_by algorithm (digested apex records)))) found is))
