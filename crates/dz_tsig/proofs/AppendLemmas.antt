-- What comes before more octets is read as it is without them: numbers, owners, records and questions.
use Rattle.std.proofs.Common.{◌≡◌, ℕ, zero, suc, ◌+◌, ◌≤◌, Bool, true, false, [], ◌∷◌, ◌++◌, length, take, drop, refl}
use Rattle.std.proofs.Common.{◌∙◌, ap, arith, length-append, length-drop, Option, Some, None}
use Rattle.std.specs.Prelude.{nat_le, nat_lt, slice_index, ◌==◌, if◌then◌else◌}
use Rattle.std.proofs.lemmas.Bool.Decides.{nat_tests}
use Rattle.std.proofs.lemmas.List.{drop-append-le, take-append-le}
use Rattle.dz_name.specs.Words.{Octets}
use Rattle.dz_name.specs.Numbers.{number_of_two, number_of_four}
use Rattle.dz_header.specs.Shape.{behind_owner, behind_head, shape_of}
use Rattle.dz_header.specs.RecordHead.{head_in, head_of}
use Rattle.dz_header.specs.declared.record_head.RecordHead.{RecordHead}
use Rattle.dz_header.specs.declared.shape.Shape.{Shape}
use Rattle.dz_tsig.specs.Signature.{after_question, after_questions}
use Rattle.dz_tsig.proofs.SignatureLemmas.{head_long}

-- ---- numbers
pub two_front : (xs more : Octets) → 2 ≤ length xs → number_of_two (xs ++ more) ≡ number_of_two xs
unfolding number_of_two
two_front [] more h = absurd (omega arith)
two_front (a ∷ []) more h = absurd (omega arith)
two_front (a ∷ b ∷ xs) more h = refl

pub four_front : (xs more : Octets) → 4 ≤ length xs → number_of_four (xs ++ more) ≡ number_of_four xs
unfolding number_of_four
four_front [] more h = absurd (omega arith)
four_front (a ∷ []) more h = absurd (omega arith)
four_front (a ∷ b ∷ []) more h = absurd (omega arith)
four_front (a ∷ b ∷ c ∷ []) more h = absurd (omega arith)
four_front (a ∷ b ∷ c ∷ d ∷ xs) more h = refl

pub two_at : (k : ℕ) (xs more : Octets) → k + 2 ≤ length xs
    → number_of_two (drop k (xs ++ more)) ≡ number_of_two (drop k xs)
two_at k xs more h = ap number_of_two (drop-append-le k xs more (omega (arith, h)))
    ∙ two_front (drop k xs) more (omega (arith, h, length-drop k xs))

pub four_at : (k : ℕ) (xs more : Octets) → k + 4 ≤ length xs
    → number_of_four (drop k (xs ++ more)) ≡ number_of_four (drop k xs)
four_at k xs more h = ap number_of_four (drop-append-le k xs more (omega (arith, h)))
    ∙ four_front (drop k xs) more (omega (arith, h, length-drop k xs))

-- ---- heads
head_in_front : (xs more : Octets) → 10 ≤ length xs → head_in (xs ++ more) ≡ head_in xs
unfolding head_in
head_in_front xs more h =
    rw (
      two_front xs more (omega (arith, h)),
      two_at 2 xs more (omega (arith, h)),
      four_at 4 xs more (omega (arith, h)),
      two_at 8 xs more (omega (arith, h)),
    ) refl

pub head_front : (xs more : Octets) (head : RecordHead) → head_of xs ≡ Some head → head_of (xs ++ more) ≡ Some head
head_front xs more head e =
    let long = head_long xs head e in
    let short : nat_lt (length xs) 10 ≡ false = grind (arith, nat_tests, long) in
    let still : nat_lt (length (xs ++ more)) 10 ≡ false = grind (arith, nat_tests, long, length-append xs more) in
    let own : Some (head_in xs) ≡ Some head = rw short at e in
    rw (still, head_in_front xs more long) own

-- ---- owners
some_front : (rest found more : Octets) → Some rest ≡ Some found → Some (rest ++ more) ≡ Some (found ++ more)
some_front rest found more e = let same : rest ≡ found = cc in ap (λ r. Some (r ++ more)) same

if_front : (b : Bool) (x y x' y' : Option Octets) (found more : Octets) → (x ≡ Some found → x' ≡ Some (found ++ more))
    → (y ≡ Some found → y' ≡ Some (found ++ more))
    → (if b then x else y) ≡ Some found → (if b then x' else y') ≡ Some (found ++ more)
if_front true x y x' y' found more f g = f
if_front false x y x' y' found more f g = g

pointer_front : (rest found more : Octets) → (if length rest == 0 then None else Some (drop 1 rest)) ≡ Some found
    → (if length (rest ++ more) == 0 then None else Some (drop 1 (rest ++ more))) ≡ Some (found ++ more)
pointer_front [] found more e = absurd (cc)
pointer_front (o ∷ rest) found more e =
    let t : (length (o ∷ rest) == 0) ≡ false = grind (arith, nat_tests) in
    let still : (length (o ∷ (rest ++ more)) == 0) ≡ false = grind (arith, nat_tests) in
    let own : Some rest ≡ Some found = rw t at e in
    rw still (some_front rest found more own)

pub owner_front : (left : ℕ) (xs found more : Octets) → behind_owner left xs ≡ Some found
    → behind_owner left (xs ++ more) ≡ Some (found ++ more)
unfolding behind_owner
owner_front zero [] found more e = absurd (cc)
owner_front (suc left) [] found more e = absurd (cc)
owner_front (suc left) (octet ∷ rest) found more e = owner_front left rest found more e
owner_front zero (octet ∷ rest) found more e =
    if_front (octet == 0) (Some rest) _ (Some (rest ++ more)) _ found more (some_front rest found more)
    (if_front (nat_le octet 63) (behind_owner octet rest) _ (behind_owner octet (rest ++ more)) _ found more
    (owner_front octet rest found more)
    (if_front (nat_lt octet 192) None _ None _ found more (λ f. absurd (cc)) (pointer_front rest found more))) e

-- ---- records
abbrev longer : Octets → Shape × Octets × Octets → Shape × Octets × Octets
longer more x = (x.0, x.1, x.2 ++ more)

behind_head_front : (root : Bool) (xs more : Octets) (x : Shape × Octets × Octets) → behind_head root xs ≡ Some x
    → behind_head root (xs ++ more) ≡ Some (longer more x)
unfolding behind_head
behind_head_front root xs more x e =
    elim (head_of xs) as (λ h. head_of xs ≡ h → behind_head root (xs ++ more) ≡ Some (longer more x)) [
      | None ↦ λ f. absurd (let g = rw f at e in cc)
      | Some head ↦
          λ f. elim (nat_lt (length (drop 10 xs)) head.size) as (λ b. nat_lt (length (drop 10 xs)) head.size ≡ b
          → behind_head root (xs ++ more) ≡ Some (longer more x)) [
            | true ↦ λ t. absurd (let g = rw (f, t) at e in cc)
            | false ↦ λ t.
                let g = rw (f, t) at e in
                let same :
                (record { root = root; head = head }, take head.size (drop 10 xs), drop head.size (drop 10 xs))
                ≡ x = cc in
                let fits : head.size ≤ length (drop 10 xs) = grind (arith, nat_tests) in
                let rest : drop 10 (xs ++ more) ≡ drop 10 xs ++ more =
                drop-append-le 10 xs more (head_long xs head f) in
                let still : nat_lt (length (drop 10 xs ++ more)) head.size ≡ false =
                grind (arith, nat_tests, fits, length-append (drop 10 xs) more) in
                let there : head_of (xs ++ more) ≡ Some head = head_front xs more head f in
                let front : take head.size (drop 10 xs ++ more) ≡ take head.size (drop 10 xs) =
                take-append-le head.size (drop 10 xs) more fits in
                let after : drop head.size (drop 10 xs ++ more) ≡ drop head.size (drop 10 xs) ++ more =
                drop-append-le head.size (drop 10 xs) more fits in
                rw (there, rest, still, front, after) (ap (λ y. Some (longer more y)) same)
          ] refl
    ] refl

owner_some : (xs found : Octets) → behind_owner 0 xs ≡ Some found → 1 ≤ length xs
unfolding behind_owner
owner_some [] found e = absurd (cc)
owner_some (o ∷ os) found e = omega arith

first_front : (xs more : Octets) → 1 ≤ length xs → slice_index (xs ++ more) 0 ≡ slice_index xs 0
first_front [] more h = absurd (omega arith)
first_front (o ∷ os) more h = refl

pub shape_front : (xs more : Octets) (x : Shape × Octets × Octets) → shape_of xs ≡ Some x
    → shape_of (xs ++ more) ≡ Some (longer more x)
unfolding shape_of
shape_front xs more x e =
    elim (behind_owner 0 xs) as (λ o. behind_owner 0 xs ≡ o → shape_of (xs ++ more) ≡ Some (longer more x)) [
      | None ↦ λ f. absurd (let g = rw f at e in cc)
      | Some rest ↦ λ f.
          let there : behind_owner 0 (xs ++ more) ≡ Some (rest ++ more) = owner_front 0 xs rest more f in
          let first : slice_index (xs ++ more) 0 ≡ slice_index xs 0 = first_front xs more (owner_some xs rest f) in
          rw (there, first) (behind_head_front (slice_index xs 0 == 0) rest more x (rw f at e))
    ] refl

-- ---- questions
question_front : (o : Option Octets) (found more : Octets) (o' : Option Octets)
    → ((rest : Octets) → o ≡ Some rest → o' ≡ Some (rest ++ more)) → after_question o ≡ Some found
    → after_question o' ≡ Some (found ++ more)
question_front None found more o' f e = absurd (cc)
question_front (Some rest) found more o' f e =
    elim (nat_lt (length rest) 4) as (λ b. nat_lt (length rest) 4 ≡ b → after_question o' ≡ Some (found ++ more)) [
      | true ↦ λ t. absurd (let g = rw t at e in cc)
      | false ↦ λ t.
          let g : Some (drop 4 rest) ≡ Some found = rw t at e in
          let long : 4 ≤ length rest = grind (arith, nat_tests) in
          let still : nat_lt (length (rest ++ more)) 4 ≡ false =
          grind (arith, nat_tests, long, length-append rest more) in
          let after : drop 4 (rest ++ more) ≡ drop 4 rest ++ more = drop-append-le 4 rest more long in
          rw (f rest refl, still, after) (some_front (drop 4 rest) found more g)
    ] refl

pub questions_front : (count : ℕ) (xs found more : Octets) → after_questions count xs ≡ Some found
    → after_questions count (xs ++ more) ≡ Some (found ++ more)
unfolding after_questions
questions_front zero xs found more e = some_front xs found more e
questions_front (suc count) xs found more e =
    elim (after_question (behind_owner 0 xs)) as (λ o. after_question (behind_owner 0 xs) ≡ o
    → after_questions (suc count) (xs ++ more) ≡ Some (found ++ more)) [
      | None ↦ λ f. absurd (let g = rw f at e in cc)
      | Some rest ↦ λ f.
          let there : after_question (behind_owner 0 (xs ++ more)) ≡ Some (rest ++ more) =
          question_front (behind_owner 0 xs) rest more (behind_owner 0 (xs ++ more))
          (λ r g. owner_front 0 xs r more g) f in
          rw there (questions_front count rest found more (rw f at e))
    ] refl
