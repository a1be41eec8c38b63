-- What a crash leaves while a record joins a file's list, and while the file is opened.
use Rattle.std.proofs.Common.{◌≡◌, ◌≢◌, inl, inr, ℕ, ◌+◌, Bool, List, [], ◌∷◌, ◌++◌, length, drop, Some, refl, sym, ap}
use Rattle.std.proofs.Common.{◌∙◌, arith}
use Rattle.std.specs.Prelude.{slice_get}
use Rattle.std.proofs.lemmas.Bool.{cases_eq}
use Rattle.dz_disk.specs.Disk.{put, IsTorn}
use Rattle.dz_disk.specs.RecordLog.{body, log, records, IsPayload, ArePayloads, IsAtRest, IsLeft, shut, staged, begun}
use Rattle.dz_disk.specs.RecordLog.{IsBeforeOrAfter}
use Rattle.dz_disk.proofs.OctetLemmas.{at_place, torn_octet, torn_after, put_after, put_over}
use Rattle.dz_disk.proofs.RecordLemmas.{closed, short, records_shut, log_push, fits_push}

-- records and a closed gate
pub rest_records : (reads : List ℕ → Bool) (list : List (List ℕ)) (file : List ℕ) → ArePayloads reads list
    → IsAtRest list file → records reads file ≡ list
rest_records reads list file fits rest =
    records_shut reads list file (0 ∷ rest.junk) fits rest.are (closed reads 0 rest.junk (omega arith))

pub rest_left : (list : List (List ℕ)) (last file : List ℕ) → IsAtRest list file → IsLeft list last file
rest_left list last file rest = shut rest.junk rest.are

-- the open gate
opened : (list : List (List ℕ)) (last file : List ℕ) (gate : ℕ) (junk : List ℕ)
    → file ≡ log list ++ gate ∷ (body last ++ 0 ∷ junk) → gate ≡ 1 → IsAtRest (list ++ last ∷ []) file
opened list last file gate junk are one = record {
  junk = junk;
  are = are ∙ ap (λ g. log list ++ g ∷ (body last ++ 0 ∷ junk)) one ∙ sym (log_push list last (0 ∷ junk));
}

pub recovers : (reads : List ℕ → Bool) (list : List (List ℕ)) (last file : List ℕ) → ArePayloads reads list
    → IsPayload reads last → IsLeft list last file → IsBeforeOrAfter reads list last file
recovers reads list last file fits is (shut junk are) =
    inl (rest_records reads list file fits (record { junk = junk; are = are }))
recovers reads list last file fits is (staged gate junk are) = elim (cases_eq gate 1) [
  | inl one ↦ inr (rest_records reads (list ++ last ∷ []) file (fits_push reads list last fits is)
      (opened list last file gate junk are one))
  | inr ne ↦ inl (records_shut reads list file (gate ∷ (body last ++ 0 ∷ junk)) fits are
      (closed reads gate (body last ++ 0 ∷ junk) ne))
]
recovers reads list last file fits is (begun none less) = inl (short reads file less ∙ sym none)

-- the first of the two writes
pub staging : (list : List (List ℕ)) (last file c : List ℕ) (gate count : ℕ) → IsAtRest list file
    → gate ≡ length (log list) → IsTorn (gate + 1) count file c → IsLeft list last c
staging list last file c gate count rest at torn =
    shut (drop (gate + 1) c) (torn_after gate count file c (log list) 0 rest.junk rest.are (sym at) torn)

pub record IsStaged (list : List (List ℕ)) (last file : List ℕ) : Type 0 where
  pub junk : List ℕ
  pub are : file ≡ log list ++ 0 ∷ (body last ++ 0 ∷ junk)

pub staging_done : (list : List (List ℕ)) (last file piece : List ℕ) (gate : ℕ) → IsAtRest list file
    → gate ≡ length (log list) → piece ≡ body last ++ 0 ∷ [] → IsStaged list last (put (gate + 1) piece file)
staging_done list last file piece gate rest at is =
    let done = put_after gate file (log list) 0 rest.junk (body last) 0 rest.are (sym at) in
    record { junk = done.0; are = ap (λ l. put (gate + 1) l file) is ∙ done.1 }

-- the second
pub opening : (list : List (List ℕ)) (last file c : List ℕ) (gate : ℕ) → IsStaged list last file
    → gate ≡ length (log list) → IsTorn gate 1 file c → IsLeft list last c
opening list last file c gate is at torn =
    let left = torn_octet gate file c (log list) 0 (body last ++ 0 ∷ is.junk) is.are (sym at) torn in
    staged left.0 is.junk left.1

pub opening_done : (list : List (List ℕ)) (last file : List ℕ) (gate : ℕ) → IsStaged list last file
    → gate ≡ length (log list) → IsAtRest (list ++ last ∷ []) (put gate (1 ∷ []) file)
opening_done list last file gate is at =
    opened list last (put gate (1 ∷ []) file) 1 is.junk
    (put_over gate file (log list) 0 (body last ++ 0 ∷ is.junk) 1 is.are (sym at)) refl

-- A gate is closed. Where it was the first that isn't open, and wasn't closed, the file is left as one that a crash
-- left.
pub closing : (reads : List ℕ → Bool) (list : List (List ℕ)) (last file c : List ℕ) (end : ℕ) → ArePayloads reads list
    → IsPayload reads last → IsLeft list last file
    → end ≡ length (log (records reads file)) → slice_get file end ≢ Some 0 → IsTorn end 1 file c → IsLeft list last c
closing reads list last file c end fits is (shut junk are) at not_shut torn =
    let same : records reads file ≡ list = rest_records reads list file fits (record { junk = junk; are = are }) in
    let place : end ≡ length (log list) = at ∙ ap (λ l. length (log l)) same in
    absurd (not_shut (ap (λ n. slice_get file n) place ∙ ap (λ l. slice_get l (length (log list))) are
    ∙ at_place (log list) 0 junk))
closing reads list last file c end fits is (staged gate junk are) at not_shut torn = elim (cases_eq gate 1) [
  | inl one ↦
      let rest = opened list last file gate junk are one in
      let same : records reads file ≡ list ++ last ∷ [] =
      rest_records reads (list ++ last ∷ []) file (fits_push reads list last fits is) rest in
      let place : end ≡ length (log (list ++ last ∷ [])) = at ∙ ap (λ l. length (log l)) same in
      absurd (not_shut (ap (λ n. slice_get file n) place ∙ ap (λ l. slice_get l (length (log (list ++ last ∷ []))))
      rest.are ∙ at_place (log (list ++ last ∷ [])) 0 rest.junk))
  | inr ne ↦
      let same : records reads file ≡ list = records_shut reads list file (gate ∷ (body last ++ 0 ∷ junk)) fits are
      (closed reads gate (body last ++ 0 ∷ junk) ne) in
      let place : length (log list) ≡ end = sym (at ∙ ap (λ l. length (log l)) same) in
      let left = torn_octet end file c (log list) gate (body last ++ 0 ∷ junk) are place torn in
      staged left.0 junk left.1
]
closing reads list last file c end fits is (begun none less) at not_shut torn =
    let same : records reads file ≡ [] = short reads file less in
    let place : end ≡ 0 = at ∙ ap (λ l. length (log l)) same in
    begun none (omega (arith, place, less, torn.most))
