-- What is used of a version's stream.
use Rattle.std.proofs.Common.{◌≡◌, ℕ, zero, suc, ◌+◌, ◌<◌, ◌≤◌, ◌^◌, Bool, true, false, List, [], ◌∷◌, ◌++◌, length}
use Rattle.std.proofs.Common.{take, drop, refl, sym, ◌∙◌, ap, subst, arith, Option, Some, None, take_at, inl, inr}
use Rattle.std.specs.Prelude.{is_some, filter, nat_le, if◌then◌else◌}
use Rattle.std.specs.List.{AllByRecursion, find, flat_map, list_all}
use Rattle.std.specs.Option.{option_to_list}
use Rattle.std.proofs.lemmas.Bool.{and_parts, cases_Bool}
use Rattle.std.proofs.lemmas.Bool.Decides.{nat_tests}
use Rattle.std.proofs.lemmas.Grind.{flat_map-append}
use Rattle.std.proofs.lemmas.List.{take-append-drop, append-nil}
use Rattle.dz_name.specs.Words.{Octets}
use Rattle.dz_name.specs.Name.{IsName, wire_of}
use Rattle.dz_record.specs.Record.{Record, record_octets}
use Rattle.dz_message.specs.Frame.{frame, stream, messages_in, AreShort}
use Rattle.dz_message.specs.Piece.{written, size_of, FitsAlone}
use Rattle.dz_message.specs.Writing.{question_octets}
use Rattle.dz_message.proofs.PieceLemmas.{size_begun, question_size}
use Rattle.dz_zone.specs.Version.{Zone, IsVersion, apex_soa}
use Rattle.dz_take.specs.Form.{or_else}
use Rattle.dz_take.specs.Outcome.{judge, decided_from, decided, or_incomplete, outcome, read_from, octets_used}
use Rattle.dz_take.specs.Transfer.{Transfer, Decision, up_to_date, new, refused}
use Rattle.dz_take.proofs.TakingLemmas.{messages_back}
use Rattle.dz_outward.specs.Laws.{transfer_of}
use Rattle.dz_outward.specs.Stream.{is_other, soa_of, sent_records, question_of, messages_of, is_fit, fits_alone}
use Rattle.dz_outward.proofs.RoundLemmas.{shorts, back}
use Rattle.dz_restore.specs.Restoring.{sent_with}

-- ---- the messages up to the first that decides
decided_front : (t : Transfer) (front messages : List Octets) (d : Decision) → decided_from t front messages ≡ Some d
    → decided_from t front (take (read_from t front messages) messages) ≡ Some d
unfolding decided_from read_from
decided_front t front [] d is = absurd (cc)
decided_front t front (m ∷ ms) d is =
    (elim (judge t front m) as (λ j. judge t front m ≡ j → or_else j (decided_from t (front ++ m ∷ []) ms) ≡ Some d
    → decided_from t front (take (if is_some j then 1 else suc (read_from t (front ++ m ∷ []) ms)) (m ∷ ms))
    ≡ Some d) [
      | Some other ↦ λ same e. ap (λ j. or_else j (decided_from t (front ++ m ∷ []) (take 0 ms))) same ∙ e
      | None ↦ λ same e.
          ap (λ j. or_else j (decided_from t (front ++ m ∷ []) (take (read_from t (front ++ m ∷ []) ms) ms))) same
          ∙ decided_front t (front ++ m ∷ []) ms d e
    ]) refl is

read_front : (t : Transfer) (front messages : List Octets)
    → read_from t front (take (read_from t front messages) messages) ≡ read_from t front messages
unfolding read_from
read_front t front [] = refl
read_front t front (m ∷ ms) =
    (elim (judge t front m) as (λ j. judge t front m ≡ j
    → read_from t front (take (if is_some j then 1 else suc (read_from t (front ++ m ∷ []) ms)) (m ∷ ms))
    ≡ (if is_some j then 1 else suc (read_from t (front ++ m ∷ []) ms))) [
      | Some other ↦ λ same. ap (λ j. if is_some j then 1 else suc (read_from t (front ++ m ∷ []) (take 0 ms))) same
      | None ↦ λ same. ap (λ j. if is_some j then 1
          else suc (read_from t (front ++ m ∷ []) (take (read_from t (front ++ m ∷ []) ms) ms))) same
          ∙ ap (λ n. suc n) (read_front t (front ++ m ∷ []) ms)
    ]) refl

take_twice : {X : Type 0} (n : ℕ) (xs : List X) → take n (take n xs) ≡ take n xs
take_twice zero [] = refl
take_twice zero (x ∷ xs) = refl
take_twice (suc n) [] = refl
take_twice (suc n) (x ∷ xs) = ap (λ ys. x ∷ ys) (take_twice n xs)

short_front : (n : ℕ) (messages : List Octets) → AreShort messages → AreShort (take n messages)
short_front zero [] short = tt
short_front zero (m ∷ ms) short = tt
short_front (suc n) [] short = tt
short_front (suc n) (m ∷ ms) short = (short.0, short_front n ms short.1)

used_where : (t : Transfer) (octets : Octets) (d : Decision) → decided t (messages_in octets) ≡ Some d
    → octets_used t octets ≡ length (stream (take (read_from t [] (messages_in octets)) (messages_in octets)))
used_where t octets d is = rw is refl

-- the octets that are used decide the same, and all of them are used
pub record IsUsed (t : Transfer) (octets : Octets) (d : Decision) : Type 0 where
  pub outcome : outcome t (take (octets_used t octets) octets) ≡ d
  pub all : octets_used t (take (octets_used t octets) octets) ≡ length (take (octets_used t octets) octets)

used_stream : (t : Transfer) (ms : List Octets) (d : Decision) → AreShort ms → decided t ms ≡ Some d
    → IsUsed t (stream ms) d
used_stream t ms d short is =
    let j = read_from t [] ms in
    let front = take j ms in
    let come = messages_back ms short in
    let some : decided t (messages_in (stream ms)) ≡ Some d = ap (decided t) come ∙ is in
    let size : octets_used t (stream ms) ≡ length (stream front) =
    used_where t (stream ms) d some ∙ ap (λ m. length (stream (take (read_from t [] m) m))) come in
    let split : stream ms ≡ stream front ++ stream (drop j ms) =
    ap stream (sym (take-append-drop j ms)) ∙ flat_map-append frame front (drop j ms) in
    let read : take (octets_used t (stream ms)) (stream ms) ≡ stream front =
    ap (λ n. take n (stream ms)) size ∙ ap (take (length (stream front))) split
    ∙ take_at (stream front) (stream (drop j ms)) (length (stream front)) refl in
    let come_front = messages_back front (short_front j ms short) in
    let some_front : decided t (messages_in (stream front)) ≡ Some d =
    ap (decided t) come_front ∙ decided_front t [] ms d is in
    let all : octets_used t (stream front) ≡ length (stream front) =
    used_where t (stream front) d some_front ∙ ap (λ m. length (stream (take (read_from t [] m) m))) come_front
    ∙ ap (λ n. length (stream (take n front))) (read_front t [] ms) ∙ ap (λ m. length (stream m)) (take_twice j ms) in
    record {
      outcome = ap (λ o. outcome t o) read ∙ ap or_incomplete some_front;
      all = subst (λ o. octets_used t o ≡ length o) (sym read) all;
    }

-- ---- the messages of a version
all_alone : (rs : List Record) → list_all fits_alone rs ≡ true → AllByRecursion FitsAlone rs
all_alone [] h = tt
all_alone (r ∷ rs) h =
    let parts = and_parts (fits_alone r) (list_all fits_alone rs) h in
    ((let t = parts.0 in grind (arith, nat_tests)), all_alone rs parts.1)

all_filtered : (P : Record → Type 0) (p : Record → Bool) (rs : List Record) → AllByRecursion P rs
    → AllByRecursion P (filter p rs)
all_filtered P p [] all = tt
all_filtered P p (r ∷ rs) all = elim (p r) as (λ b. AllByRecursion P (if b then r ∷ filter p rs else filter p rs)) [
  | true ↦ (all.0, all_filtered P p rs all.1)
  | false ↦ all_filtered P p rs all.1
]

all_found : (P : Record → Type 0) (p : Record → Bool) (rs : List Record) → AllByRecursion P rs
    → AllByRecursion P (option_to_list (find p rs))
all_found P p [] all = tt
all_found P p (r ∷ rs) all =
    elim (cases_Bool (p r)) [ inl t ↦ rw t (all.0, tt) | inr f ↦ rw f (all_found P p rs all.1) ]

all_joined : (P : Record → Type 0) (xs ys : List Record) → AllByRecursion P xs → AllByRecursion P ys
    → AllByRecursion P (xs ++ ys)
all_joined P [] ys a b = b
all_joined P (x ∷ xs) ys a b = (a.0, all_joined P xs ys a.1 b)

sent_alone : (zone : Zone) → is_fit zone ≡ true → AllByRecursion FitsAlone (sent_records zone)
sent_alone zone fit =
    let each = all_alone zone.records (and_parts (list_all fits_alone zone.records) _ fit).0 in
    let soa = all_found FitsAlone _ zone.records each in
    all_joined FitsAlone (soa_of zone) (filter is_other zone.records ++ soa_of zone) soa (all_joined FitsAlone
    (filter is_other zone.records) (soa_of zone) (all_filtered FitsAlone is_other zone.records each) soa)

sent_short : (id : ℕ) (zone : Zone) → IsName zone.apex → is_fit zone ≡ true → AreShort (written (messages_of id zone))
sent_short id zone name fit =
    let q = question_of zone in
    let begun : size_of (q ∷ []) [] ≡ 12 + (length (wire_of zone.apex) + 4) =
    omega (arith, size_begun (q ∷ []), ap (λ xs. length xs) (append-nil (question_octets q)), question_size q) in
    shorts id (q ∷ []) [] (sent_records zone) (let short = name.short in omega (arith, begun, short))
    (sent_alone zone fit)

decides_new : (o : Option Decision) (zone : Zone) → or_incomplete o ≡ new zone → o ≡ Some (new zone)
decides_new (Some d) zone e = ap (λ x. Some x) e
decides_new None zone e = absurd (cc)

-- what is used of it decides that it is new
pub sent_used : (id : ℕ) (zone : Zone) → id < 2 ^ 16 → IsName zone.apex → IsVersion zone → is_fit zone ≡ true
    → IsUsed (transfer_of id zone) (sent_with id zone) (new zone)
unfolding sent_with
sent_used id zone small name version fit =
    let ms = written (messages_of id zone) in
    let short = sent_short id zone name fit in
    let same : decided (transfer_of id zone) ms ≡ Some (new zone) =
    ap (decided (transfer_of id zone)) (sym (messages_back ms short))
    ∙ decides_new (decided (transfer_of id zone) (messages_in (stream ms))) zone (back id zone small version fit) in
    used_stream (transfer_of id zone) ms (new zone) short same

pub sent_new : (id : ℕ) (zone : Zone) → id < 2 ^ 16 → IsVersion zone → is_fit zone ≡ true
    → outcome (transfer_of id zone) (sent_with id zone) ≡ new zone
unfolding sent_with
sent_new id zone small version fit = back id zone small version fit
