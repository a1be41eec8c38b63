-- The first message that decides.
use Rattle.std.proofs.Common.{◌≡◌, ℕ, zero, suc, ◌<◌, List, [], ◌∷◌, ◌++◌, length, take, refl, sym, ◌∙◌, ap}
use Rattle.std.proofs.Common.{append_assoc, arith, Option, Some, None}
use Rattle.std.specs.Prelude.{slice_index_or, is_some, if◌then◌else◌}
use Rattle.std.proofs.lemmas.List.{append-nil}
use Rattle.dz_name.specs.Words.{Octets}
use Rattle.dz_take.specs.Form.{or_else}
use Rattle.dz_take.specs.Outcome.{judge, decided_from, decided, read_from, DecidesAt}
use Rattle.dz_take.specs.Transfer.{Transfer, Decision}

-- further messages are looked at where none decided
pub decided_more : (transfer : Transfer) (front messages more : List Octets) → decided_from transfer front (messages
    ++ more) ≡ or_else (decided_from transfer front messages) (decided_from transfer (front ++ messages) more)
unfolding decided_from
decided_more transfer front [] more = rw append-nil refl
decided_more transfer front (m ∷ messages) more =
    elim (judge transfer front m) as (λ j. or_else j (decided_from transfer (front ++ m ∷ []) (messages ++ more))
    ≡ or_else (or_else j (decided_from transfer (front ++ m ∷ []) messages))
    (decided_from transfer (front ++ m ∷ messages) more)) [
      | Some decision ↦ refl
      | None ↦ decided_more transfer (front ++ m ∷ []) messages more
          ∙ ap (λ l. or_else (decided_from transfer (front ++ m ∷ []) messages) (decided_from transfer l more))
          (append_assoc front (m ∷ []) messages)
    ]

or_none : (j : Option Decision) → or_else j None ≡ j
or_none None = refl
or_none (Some decision) = refl

one_is : (transfer : Transfer) (messages : List Octets) (m : Octets)
    → decided_from transfer messages (m ∷ []) ≡ judge transfer messages m
unfolding decided_from
one_is transfer messages m = or_none (judge transfer messages m)

-- the step of a stream: none of the messages decided, so the next one's judgement is the stream's
pub decided_push : (transfer : Transfer) (messages : List Octets) (m : Octets) → decided_from transfer [] messages
    ≡ None → decided_from transfer [] (messages ++ m ∷ []) ≡ judge transfer messages m
decided_push transfer messages m e = decided_more transfer [] messages (m ∷ [])
    ∙ (ap (λ d. or_else d (decided_from transfer messages (m ∷ []))) e ∙ one_is transfer messages m)

-- the same after a prefix
record Decides (transfer : Transfer) (front messages : List Octets) (k : ℕ) (decision : Decision) : Type 0 where
  within : k < length messages
  decides : judge transfer (front ++ take k messages) (slice_index_or messages k []) ≡ Some decision
  first : (j : ℕ) → j < k → judge transfer (front ++ take j messages) (slice_index_or messages j []) ≡ None

next_is : (transfer : Transfer) (front messages : List Octets) (m : Octets) (j : ℕ) (r : Option Decision)
    → judge transfer ((front ++ m ∷ []) ++ take j messages) (slice_index_or messages j []) ≡ r
    → judge transfer (front ++ take (suc j) (m ∷ messages)) (slice_index_or (m ∷ messages) (suc j) []) ≡ r
next_is transfer front messages m j r e =
    ap (λ l. judge transfer l (slice_index_or messages j [])) (sym (append_assoc front (m ∷ []) (take j messages))) ∙ e

here_is : (transfer : Transfer) (front messages : List Octets) (m : Octets) (r : Option Decision)
    → judge transfer front m ≡ r
    → judge transfer (front ++ take 0 (m ∷ messages)) (slice_index_or (m ∷ messages) 0 []) ≡ r
here_is transfer front messages m r e = ap (λ l. judge transfer l m) (append-nil front) ∙ e

later : (transfer : Transfer) (front messages : List Octets) (m : Octets) (k : ℕ) (decision : Decision)
    → judge transfer front m ≡ None → Decides transfer (front ++ m ∷ []) messages k decision
    → Decides transfer front (m ∷ messages) (suc k) decision
later transfer front messages m k decision n d = record {
  within = omega (arith, d.within);
  decides = next_is transfer front messages m k (Some decision) d.decides;
  first = before;
} where
  before : (j : ℕ) → j < suc k
      → judge transfer (front ++ take j (m ∷ messages)) (slice_index_or (m ∷ messages) j []) ≡ None
  before zero b = here_is transfer front messages m None n
  before (suc j) b = next_is transfer front messages m j None (d.first j (omega arith))

decides_from : (transfer : Transfer) (front messages : List Octets) (decision : Decision)
    → decided_from transfer front messages ≡ Some decision → (k : ℕ) × Decides transfer front messages k decision
unfolding decided_from
decides_from transfer front [] decision e = absurd (cc)
decides_from transfer front (m ∷ messages) decision e =
    (elim (judge transfer front m) as (λ j. judge transfer front m ≡ j → or_else j (decided_from transfer
    (front ++ m ∷ []) messages) ≡ Some decision → (k : ℕ) × Decides transfer front (m ∷ messages) k decision) [
      | Some other ↦ λ q f. (
        0,
        record {
          within = omega arith;
          decides = here_is transfer front messages m (Some decision) (q ∙ f);
          first = λ j b. absurd (omega arith);
        },
      )
      | None ↦ λ q f. let w = decides_from transfer (front ++ m ∷ []) messages decision f in
          (suc w.0, later transfer front messages m w.0 decision q w.1)
    ]) refl e

pub decides_at : (transfer : Transfer) (messages : List Octets) (decision : Decision)
    → decided_from transfer [] messages ≡ Some decision → (k : ℕ) × DecidesAt transfer messages k decision
decides_at transfer messages decision e =
    let w = decides_from transfer [] messages decision e in
    (w.0, record { within = w.1.within; decides = w.1.decides; first = w.1.first })

-- where none decides, each judgement is that more is to come
undecided_from : (transfer : Transfer) (front messages : List Octets) → decided_from transfer front messages ≡ None
    → (j : ℕ) → j < length messages → judge transfer (front ++ take j messages) (slice_index_or messages j []) ≡ None
unfolding decided_from
undecided_from transfer front [] e j b = absurd (omega arith)
undecided_from transfer front (m ∷ messages) e zero b =
    (elim (judge transfer front m) as (λ r. judge transfer front m ≡ r
    → or_else r (decided_from transfer (front ++ m ∷ []) messages) ≡ None
    → judge transfer (front ++ take 0 (m ∷ messages)) (slice_index_or (m ∷ messages) 0 []) ≡ None) [
      | Some other ↦ λ q f. absurd (cc)
      | None ↦ λ q f. here_is transfer front messages m None q
    ]) refl e
undecided_from transfer front (m ∷ messages) e (suc j) b =
    (elim (judge transfer front m) as (λ r. judge transfer front m ≡ r
    → or_else r (decided_from transfer (front ++ m ∷ []) messages) ≡ None
    → judge transfer (front ++ take (suc j) (m ∷ messages)) (slice_index_or (m ∷ messages) (suc j) []) ≡ None) [
      | Some other ↦ λ q f. absurd (cc)
      | None ↦ λ q f. next_is transfer front messages m j None
          (undecided_from transfer (front ++ m ∷ []) messages f j (omega arith))
    ]) refl e

pub undecided : (transfer : Transfer) (messages : List Octets) → decided_from transfer [] messages ≡ None → (j : ℕ)
    → j < length messages → judge transfer (take j messages) (slice_index_or messages j []) ≡ None
undecided transfer messages e j b = undecided_from transfer [] messages e j b

-- the other way round
from_decides : (transfer : Transfer) (front messages : List Octets) (k : ℕ) (decision : Decision)
    → Decides transfer front messages k decision → decided_from transfer front messages ≡ Some decision
unfolding decided_from
from_decides transfer front [] k decision d = absurd (omega (arith, d.within))
from_decides transfer front (m ∷ messages) zero decision d =
    let e : judge transfer front m ≡ Some decision =
    ap (λ l. judge transfer l m) (sym (append-nil front)) ∙ d.decides in
    rw e refl
from_decides transfer front (m ∷ messages) (suc k) decision d =
    let e : judge transfer front m ≡ None =
    ap (λ l. judge transfer l m) (sym (append-nil front)) ∙ d.first 0 (omega arith) in
    rw e (from_decides transfer (front ++ m ∷ []) messages k decision (record {
      within = omega (arith, d.within);
      decides =
          ap (λ l. judge transfer l (slice_index_or messages k [])) (append_assoc front (m ∷ []) (take k messages))
          ∙ d.decides;
      first = λ j b. ap (λ l. judge transfer l (slice_index_or messages j []))
          (append_assoc front (m ∷ []) (take j messages)) ∙ d.first (suc j) (omega arith);
    }))

pub at_decides : (transfer : Transfer) (messages : List Octets) (k : ℕ) (decision : Decision)
    → DecidesAt transfer messages k decision → decided transfer messages ≡ Some decision
at_decides transfer messages k decision d =
    from_decides transfer [] messages k decision (record { within = d.within; decides = d.decides; first = d.first })

-- where no earlier message decides, all are read
pub read_push : (transfer : Transfer) (front messages : List Octets) (m : Octets)
    → decided_from transfer front messages ≡ None
    → read_from transfer front (messages ++ m ∷ []) ≡ length (messages ++ m ∷ [])
unfolding decided_from read_from
read_push transfer front [] m none =
    elim (judge transfer front m) as (λ j. (if is_some j then 1 else suc 0) ≡ 1) [ None ↦ refl | Some decision ↦ refl ]
read_push transfer front (n ∷ messages) m none =
    (elim (judge transfer front n) as (λ j. judge transfer front n ≡ j
    → or_else j (decided_from transfer (front ++ n ∷ []) messages) ≡ None → (if is_some j then 1 else suc
    (read_from transfer (front ++ n ∷ []) (messages ++ m ∷ []))) ≡ suc (length (messages ++ m ∷ []))) [
      | Some decision ↦ λ q f. absurd (cc)
      | None ↦ λ q f. ap suc (read_push transfer (front ++ n ∷ []) messages m f)
    ]) refl none
