-- How many octets streams have at most, by those of their records.
use Rattle.std.proofs.Common.{◌≡◌, ℕ, ◌+◌, ◌*◌, ◌<◌, ◌≤◌, Bool, true, false, List, [], ◌∷◌, ◌++◌, length, map, refl}
use Rattle.std.proofs.Common.{sym, ◌∙◌, ap, arith, length-append, Some, None, Option, inl, inr}
use Rattle.std.specs.Prelude.{not, filter, find, if◌then◌else◌}
use Rattle.std.specs.List.{AllByRecursion, list_all}
use Rattle.std.specs.Ordering.{is_gt}
use Rattle.std.proofs.lemmas.Bool.{cases_Bool}
use Rattle.std.proofs.lemmas.Bool.Decides.{nat_tests}
use Rattle.std.proofs.lemmas.List.{append-nil}
use Rattle.std.proofs.lemmas.List.Sums.{sum_by-cons}
use Rattle.dz_record.specs.Record.{Record, record_octets, record_order, same_record}
use Rattle.dz_record.specs.Records.{distinct, insertion, in_order}
use Rattle.dz_header.specs.declared.question.Question.{Question}
use Rattle.dz_message.specs.Frame.{stream}
use Rattle.dz_message.specs.Piece.{TallyState, tally_of, total_of, octets_behind, has_room, size_of, packed, written}
use Rattle.dz_message.specs.Writing.{question_octets}
use Rattle.dz_message.proofs.PieceLemmas.{counted_all, size_begun, question_size}
use Rattle.dz_name.specs.Name.{wire_of}
use Rattle.dz_outward.specs.Stream.{fits_alone}
use Rattle.dz_producer.specs.Draft.{octets_of}

-- the records here have no more octets
abbrev pub Small : Record → Type 0
Small r = length (record_octets r) ≤ 600

abbrev size : Record → ℕ
size r = length (record_octets r)

-- a message that ends is full
is_full : (empty : Bool) (n more : ℕ) → more ≤ 600 → has_room empty n more ≡ false → 15784 < n
is_full true n more small fails = grind (arith, nat_tests)
is_full false n more small fails = grind (arith, nat_tests)

-- of each message that ends 14 octets more are counted, at most for every 15,000 octets
pub packing : (t : TallyState) (rs : List Record) → AllByRecursion Small rs
    → 15000 * octets_behind t rs ≤ 15000 * (total_of t + octets_of rs) + 14 * (t.size + octets_of rs)
unfolding octets_behind
packing t [] all = omega arith
packing t (r ∷ rs) all =
    let n : ℕ = length (record_octets r) in
    let sum : octets_of (r ∷ rs) ≡ n + octets_of rs = sum_by-cons size r rs in
    elim (cases_Bool (has_room t.is_empty t.size n)) [
      | inl holds ↦ let more = packing (tally_of t.before (t.size + n) false) rs all.1 in rw (holds, sum) (omega arith)
      | inr fails ↦
          let more = packing (tally_of (total_of t) (12 + n) false) rs all.1 in
          let full = is_full t.is_empty t.size n all.0 fails in
          rw (fails, sum) (omega arith)
    ]

-- so a stream is within its limit
pub within_limit : (q : Question) (rs : List Record) → length (wire_of q.name) ≤ 255 → AllByRecursion Small rs
    → octets_of rs ≤ 66994000 → length (stream (written (packed 0 (q ∷ []) [] rs))) ≤ 67108864
within_limit q rs short all few =
    let asked : length (question_octets q ++ []) ≡ length (wire_of q.name) + 4 =
    ap length (append-nil (question_octets q)) ∙ question_size q in
    let begun : size_of (q ∷ []) [] ≡ 12 + length (question_octets q ++ []) = size_begun (q ∷ []) in
    let all_counted = counted_all 0 0 (q ∷ []) [] rs in
    let counts = packing (tally_of 0 (size_of (q ∷ []) []) true) rs all in
    omega arith

-- ---- the records of a zone are no more
sum_filter : (p : Record → Bool) (rs : List Record) → octets_of (filter p rs) ≤ octets_of rs
sum_filter p [] = omega arith
sum_filter p (r ∷ rs) =
    let ih = sum_filter p rs in
    let sum : octets_of (r ∷ rs) ≡ size r + octets_of rs = sum_by-cons size r rs in
    elim (cases_Bool (p r)) [
      | inl holds ↦
          let kept : octets_of (r ∷ filter p rs) ≡ size r + octets_of (filter p rs) =
          sum_by-cons size r (filter p rs) in
          rw holds (omega arith)
      | inr fails ↦ rw fails (omega arith)
    ]

pub octets_filter : (p : Record → Bool) (rs : List Record) → octets_of (filter p rs) ≤ octets_of rs
octets_filter p rs = sum_filter p rs

sum_insertion : (r : Record) (rs : List Record) → octets_of (insertion r rs) ≡ size r + octets_of rs
unfolding insertion
sum_insertion r [] = sum_by-cons size r []
sum_insertion r (s ∷ ss) =
    let sum : octets_of (s ∷ ss) ≡ size s + octets_of ss = sum_by-cons size s ss in
    elim (cases_Bool (is_gt (record_order r s))) [
      | inl holds ↦
          let put : octets_of (s ∷ insertion r ss) ≡ size s + octets_of (insertion r ss) =
          sum_by-cons size s (insertion r ss) in
          let ih = sum_insertion r ss in
          rw holds (omega arith)
      | inr fails ↦ rw fails (sum_by-cons size r (s ∷ ss))
    ]

sum_in_order : (rs : List Record) → octets_of (in_order rs) ≡ octets_of rs
unfolding in_order
sum_in_order [] = refl
sum_in_order (r ∷ rs) =
    sum_insertion r (in_order rs) ∙ (ap (λ n. size r + n) (sum_in_order rs) ∙ sym (sum_by-cons size r rs))

sum_distinct : (rs : List Record) → octets_of (distinct rs) ≤ octets_of rs
unfolding distinct
sum_distinct [] = omega arith
sum_distinct (r ∷ rs) =
    let rest : List Record = filter (λ s. not (same_record r s)) (distinct rs) in
    let kept : octets_of (r ∷ rest) ≡ size r + octets_of rest = sum_by-cons size r rest in
    let sum : octets_of (r ∷ rs) ≡ size r + octets_of rs = sum_by-cons size r rs in
    let less = sum_filter (λ s. not (same_record r s)) (distinct rs) in
    let ih = sum_distinct rs in
    omega arith

pub octets_canonical : (rs : List Record) → octets_of (in_order (distinct rs)) ≤ octets_of rs
octets_canonical rs = let less = sum_distinct rs in let same = sum_in_order (distinct rs) in omega arith

-- ---- and what holds of each holds of each of these
module _ (P : Record → Type 0) where
  pub all_filter : (p : Record → Bool) (rs : List Record) → AllByRecursion P rs → AllByRecursion P (filter p rs)
  all_filter p [] all = tt
  all_filter p (r ∷ rs) all =
      elim (cases_Bool (p r)) [
        | inl holds ↦ rw holds (all.0, all_filter p rs all.1)
        | inr fails ↦ rw fails (all_filter p rs all.1)
      ]

  all_insertion : (r : Record) (rs : List Record) → P r → AllByRecursion P rs → AllByRecursion P (insertion r rs)
  unfolding insertion
  all_insertion r [] h all = (h, tt)
  all_insertion r (s ∷ ss) h all =
      elim (cases_Bool (is_gt (record_order r s))) [
        | inl holds ↦ rw holds (all.0, all_insertion r ss h all.1)
        | inr fails ↦ rw fails (h, all)
      ]

  all_in_order : (rs : List Record) → AllByRecursion P rs → AllByRecursion P (in_order rs)
  unfolding in_order
  all_in_order [] all = tt
  all_in_order (r ∷ rs) all = all_insertion r (in_order rs) all.0 (all_in_order rs all.1)

  all_distinct : (rs : List Record) → AllByRecursion P rs → AllByRecursion P (distinct rs)
  unfolding distinct
  all_distinct [] all = tt
  all_distinct (r ∷ rs) all = (all.0, all_filter (λ s. not (same_record r s)) (distinct rs) (all_distinct rs all.1))

  pub all_canonical : (rs : List Record) → AllByRecursion P rs → AllByRecursion P (in_order (distinct rs))
  all_canonical rs all = all_in_order (distinct rs) (all_distinct rs all)

  pub all_found : (p : Record → Bool) (rs : List Record) (r : Record) → AllByRecursion P rs → find p rs ≡ Some r → P r
  all_found p [] r all h = absurd (cc)
  all_found p (s ∷ ss) r all h =
      elim (p s) as (λ b. (if b then Some s else find p ss) ≡ Some r → P r) [
        | true ↦ λ q. let e : s ≡ r = cc in Rattle.std.proofs.Common.subst P e all.0
        | false ↦ λ q. all_found p ss r all.1 q
      ] h

pub all_fit : (rs : List Record) → AllByRecursion Small rs → list_all fits_alone rs ≡ true
all_fit [] all = refl
all_fit (r ∷ rs) all =
    let one : fits_alone r ≡ true = let small : length (record_octets r) ≤ 600 = all.0 in grind (arith, nat_tests) in
    rw one (all_fit rs all.1)
