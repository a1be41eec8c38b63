-- The given number of a kind, read one after the other as a loop does.
use Rattle.std.proofs.Common.{◌≡◌, ℕ, suc, ◌-◌, ◌+◌, ◌≤◌, ◌<◌, List, [], ◌∷◌, ◌++◌, Result, Ok, Err, refl, sym, ap}
use Rattle.std.proofs.Common.{◌∙◌, append_assoc, arith}
use Rattle.std.specs.List.{sum_by}
use Rattle.std.proofs.lemmas.List.{append-nil}
use Rattle.std.proofs.lemmas.List.Sums.{sum_by-append}
use Rattle.dz_message.specs.declared.fault.MessageFault.{MessageFault}
use Rattle.dz_message.specs.declared.fault.MessageError.{MessageError}
use Rattle.dz_message.specs.declared.fault.MessageError.TheVariants as errors
use Rattle.dz_message.specs.Reading.{◌>>=◌, many}
use Rattle.dz_message.specs.Answers.{Fails}

-- a reading preceded by what was read before
abbrev pub after : {X : Type 0} → List X → Result (List X × ℕ) MessageFault → Result (List X × ℕ) MessageFault
after front read = read >>= λ x. Ok (front ++ x.0, x.1)

regroup : {X : Type 0} (front : List X) (first : X) (read : Result (List X × ℕ) MessageFault)
    → after front (read >>= λ x. Ok (first ∷ x.0, x.1)) ≡ after (front ++ first ∷ []) read
regroup front first (Ok x) = ap (λ xs. Ok (xs, x.1)) (sym (append_assoc front (first ∷ []) x.0))
regroup front first (Err f) = refl

pub one_more : {X : Type 0} (one : ℕ → Result (X × ℕ) MessageFault) (front : List X) (count i at : ℕ) (first : X)
    (next : ℕ) (whole : Result (List X × ℕ) MessageFault) → i < count → one at ≡ Ok (first, next)
    → after front (many one (count - i) at) ≡ whole
    → after (front ++ first ∷ []) (many one (count - (i + 1)) next) ≡ whole
unfolding many
one_more one front count i at first next whole lt is so_far =
    let k : count - i ≡ suc (count - (i + 1)) = omega arith in
    let step : after front (many one (count - i) at) ≡ after (front ++ first ∷ []) (many one (count - (i + 1)) next) =
    rw (k, is) (regroup front first (many one (count - (i + 1)) next)) in
    sym step ∙ so_far

pub one_fails : {X : Type 0} (one : ℕ → Result (X × ℕ) MessageFault) (e : MessageError) (front : List X)
    (count i at : ℕ) (whole : Result (List X × ℕ) MessageFault) → i < count → Fails e (one at)
    → after front (many one (count - i) at) ≡ whole → Fails e whole
unfolding many
one_fails one errors.OutOfMemory front count i at whole lt is so_far = tt
one_fails one (errors.Fault f) front count i at whole lt is so_far =
    let k : count - i ≡ suc (count - (i + 1)) = omega arith in
    let step : after front (many one (count - i) at) ≡ Err f = rw (k, is) refl in
    sym so_far ∙ step

pub no_more : {X : Type 0} (one : ℕ → Result (X × ℕ) MessageFault) (front : List X) (count i at : ℕ)
    (whole : Result (List X × ℕ) MessageFault) → count ≤ i
    → after front (many one (count - i) at) ≡ whole → whole ≡ Ok (front, at)
unfolding many
no_more one front count i at whole le so_far =
    let k : count - i ≡ 0 = omega arith in
    let step : after front (many one (count - i) at) ≡ Ok (front, at) =
    rw k (ap (λ xs. Ok (xs, at)) (append-nil front)) in
    sym so_far ∙ step

pub begins : {X : Type 0} (one : ℕ → Result (X × ℕ) MessageFault) (count at : ℕ)
    → after [] (many one (count - 0) at) ≡ many one count at
begins one count at = let k : count - 0 ≡ count = omega arith in rw k (same (many one count at))
  where
    same : {X : Type 0} (read : Result (List X × ℕ) MessageFault) → after [] read ≡ read
    same (Ok x) = refl
    same (Err f) = refl

-- one more of a kind, each of which has its number
pub sum_more : {X : Type 0} (f : X → ℕ) (xs ys : List X) (x : X) (n so_far now : ℕ) → ys ≡ xs ++ x ∷ []
    → n + sum_by f xs ≤ so_far → so_far + f x ≤ now → n + sum_by f ys ≤ now
sum_more f xs ys x n so_far now is le more = rw is (omega (arith, sum_by-append f xs (x ∷ [])))
