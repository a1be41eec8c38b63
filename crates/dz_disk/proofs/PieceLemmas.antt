-- What is read of a file, piece by piece.
use Rattle.std.proofs.Common.{◌≡◌, inl, inr, ℕ, zero, suc, ◌+◌, ◌<◌, ◌≤◌, ◌^◌, Bool, true, false, List, [], ◌∷◌, ◌++◌}
use Rattle.std.proofs.Common.{length, get_or, take, drop, Some, None, refl, sym, ap, ◌∙◌, arith, append_assoc}
use Rattle.std.proofs.Common.{length-append, length-take, length-drop, take-append-drop}
use Rattle.std.specs.Int.{w64, to_be_bytes, from_be_bytes}
use Rattle.std.proofs.lemmas.Bool.{cases_lt, cases_Bool}
use Rattle.std.proofs.lemmas.List.{take_at, drop_at, take_all, drop_all, drop_more, drop-drop, nil_from_length}
use Rattle.std.proofs.lemmas.Nat.{from_be_bytes-to_be_bytes_8}
use Rattle.dz_disk.specs.Disk.{IsRead}
use Rattle.dz_disk.specs.RecordLog.{body, size_of, payload_of, is_open, IsPayload}
use Rattle.dz_disk.specs.inner.Reading.{IsHeadOf, IsSize}
use Rattle.dz_disk.proofs.RecordLemmas.{not_whole, not_read}

take_nil : (n : ℕ) → take {A = ℕ} n [] ≡ []
take_nil zero = refl
take_nil (suc n) = refl

pub take_sum : (a n m : ℕ) (xs : List ℕ) → m ≡ a + n → take m xs ≡ take a xs ++ take n (drop a xs)
take_sum zero n m xs is = let same : m ≡ n = omega arith in ap (λ k. take k xs) same
take_sum (suc a) n zero xs is = absurd (omega arith)
take_sum (suc a) n (suc m) [] is = sym (take_nil n)
take_sum (suc a) n (suc m) (x ∷ xs) is = ap (λ l. x ∷ l) (take_sum a n m xs (omega arith))

pub take_over : (front rest : List ℕ) (n m : ℕ) → m ≡ length front + n → take m (front ++ rest) ≡ front ++ take n rest
take_over front rest n m is =
    take_sum (length front) n m (front ++ rest) is
    ∙ ap (λ l. l ++ take n (drop (length front) (front ++ rest))) (take_at front rest (length front) refl)
    ∙ ap (λ l. front ++ take n l) (drop_at front rest (length front) refl)

-- one read more
pub filled_more : (at filled n : ℕ) (f front rest : List ℕ) → length front ≡ filled → front ≡ take filled (drop at f)
    → IsRead (at + filled) n rest f → take (filled + n) (front ++ rest) ≡ take (filled + n) (drop at f)
filled_more at filled n f front rest long so_far read =
    take_over front rest n (filled + n) (omega arith)
    ∙ ap (λ l. l ++ take n rest) so_far
    ∙ ap (λ l. take filled (drop at f) ++ l) (read.octets ∙ ap (λ l. take n l) (sym (drop-drop filled at f)))
    ∙ sym (take_sum filled n (filled + n) (drop at f) refl)

-- the file has no more
pub filled_end : (at filled size : ℕ) (f : List ℕ) → length f ≤ at + filled → filled ≤ size
    → take filled (drop at f) ≡ take size (drop at f)
filled_end at filled size f end less =
    let short : length (drop at f) ≤ filled = omega (arith, length-drop at f) in
    take_all filled (drop at f) short ∙ sym (take_all size (drop at f) (omega arith))

-- what was read is as long as it is
count_is : (count size : ℕ) (buffer rest : List ℕ) → count ≤ length buffer → take count buffer ≡ take size rest
    → (count ≤ size) × (count ≤ length rest) × ((count < size) → length rest ≡ count)
count_is count size buffer rest le same =
    let long = ap length same in (
      omega (arith, long, length-take count buffer, length-take size rest),
      omega (arith, long, length-take count buffer, length-take size rest),
      λ less. omega (arith, long, length-take count buffer, length-take size rest),
    )

pub nothing_there : (buffer rest : List ℕ) → take 0 buffer ≡ take 9 rest → rest ≡ []
nothing_there buffer rest same = nil_from_length rest (omega (arith, ap length same, length-take 9 rest))

-- the first octet of a buffer
first : (buffer : List ℕ) → length buffer ≡ 9 → buffer ≡ get_or buffer 0 0 ∷ drop 1 buffer
first buffer long = drop_more buffer 0 0 (omega (arith, long))

-- a gate, and fewer than 8 octets after it
pub head_part : (count : ℕ) (buffer rest : List ℕ) → length buffer ≡ 9 → 0 < count → count < 9
    → take count buffer ≡ take 9 rest → (tail : List ℕ) × IsHeadOf (get_or buffer 0 0) None rest tail
head_part zero buffer rest long some few same = absurd (omega arith)
head_part (suc count) buffer rest long some few same =
    let is = count_is (suc count) 9 buffer rest (omega arith) same in
    let whole : rest ≡ get_or buffer 0 0 ∷ take count (drop 1 buffer) = sym (take_all 9 rest (omega (arith, is.2 few)))
    ∙ sym same ∙ ap (λ l. take (suc count) l) (first buffer long) in
    (take count (drop 1 buffer), record { are = whole; length_is = omega (arith, length-take count (drop 1 buffer)) })

-- the others
pub others : (xs : List ℕ) → length xs ≡ 9
    → get_or xs 1 0 ∷ get_or xs 2 0 ∷ get_or xs 3 0 ∷ get_or xs 4 0 ∷ get_or xs 5 0 ∷ get_or xs 6 0 ∷ get_or xs 7 0
    ∷ get_or xs 8 0 ∷ [] ≡ drop 1 xs
others xs long = sym (seen 1 _ lt1 (seen 2 _ lt2 (seen 3 _ lt3 (seen 4 _ lt4
    (seen 5 _ lt5 (seen 6 _ lt6 (seen 7 _ lt7 (seen 8 _ lt8 (drop_all 9 xs (omega (arith, long)))))))))))
  where
    lt1 : 1 < length xs
    lt1 = omega (arith, long)

    lt2 : 2 < length xs
    lt2 = omega (arith, long)

    lt3 : 3 < length xs
    lt3 = omega (arith, long)

    lt4 : 4 < length xs
    lt4 = omega (arith, long)

    lt5 : 5 < length xs
    lt5 = omega (arith, long)

    lt6 : 6 < length xs
    lt6 = omega (arith, long)

    lt7 : 7 < length xs
    lt7 = omega (arith, long)

    lt8 : 8 < length xs
    lt8 = omega (arith, long)

    seen : (i : ℕ) (rest : List ℕ) → i < length xs → drop (i + 1) xs ≡ rest → drop i xs ≡ get_or xs i 0 ∷ rest
    seen i rest lt is = drop_more xs i 0 lt ∙ ap (λ l. get_or xs i 0 ∷ l) is

-- a gate and a length
pub head_whole : (size : ℕ) (buffer rest : List ℕ) → length buffer ≡ 9 → to_be_bytes w64 size ≡ drop 1 buffer → size
    < 2 ^ 64 → take 9 buffer ≡ take 9 rest → (tail : List ℕ) × IsHeadOf (get_or buffer 0 0) (Some size) rest tail
head_whole size buffer rest long is fits same =
    let more = drop 1 buffer in
    let eight : length more ≡ 8 = omega (arith, long, length-drop 1 buffer) in
    let front : get_or buffer 0 0 ∷ more ≡ take 9 rest =
    sym (first buffer long) ∙ sym (take_all 9 buffer (omega (arith, long))) ∙ same in
    let whole : rest ≡ get_or buffer 0 0 ∷ (more ++ drop 9 rest) =
    sym (take-append-drop 9 rest) ∙ ap (λ l. l ++ drop 9 rest) (sym front) in (
      more ++ drop 9 rest,
      record {
        are = whole;
        length_is = (
          omega (arith, eight, length-append more (drop 9 rest)),
          take_at more (drop 9 rest) 8 eight ∙ sym is,
          fits,
        );
      },
    )

pub part_none : (count size : ℕ) (buffer rest : List ℕ) → count ≤ length buffer → count < size
    → take count buffer ≡ take size rest → length rest < size
part_none count size buffer rest le less same = omega (arith, (count_is count size buffer rest le same).2 less, less)

pub part_some : (count size : ℕ) (buffer rest : List ℕ) → length buffer ≡ size → count ≤ length buffer → size ≤ count
    → take count buffer ≡ take size rest → (buffer ≡ take size rest) × (length buffer ≡ size)
part_some count size buffer rest long le more same = (sym (take_all count buffer (omega arith)) ∙ same, long)

-- the length that is there
size_there : (size : ℕ) (tail : List ℕ) → IsSize (Some size) tail → size_of tail ≡ size
size_there size tail is = ap (λ l. from_be_bytes w64 l) is.1 ∙ from_be_bytes-to_be_bytes_8 size is.2

payload_there : (size : ℕ) (tail : List ℕ) → IsSize (Some size) tail → payload_of tail ≡ take size (drop 8 tail)
payload_there size tail is = ap (λ n. take n (drop 8 tail)) (size_there size tail is)

module _ (reads : List ℕ → Bool) (gate : ℕ) where
  pub shut_part : (tail : List ℕ) → IsSize None tail → is_open reads gate tail ≡ false
  shut_part tail few = not_whole reads gate tail (omega arith)

  pub shut_short : (size : ℕ) (tail : List ℕ) → IsSize (Some size) tail → length (drop 8 tail) < size
      → is_open reads gate tail ≡ false
  shut_short size tail is less =
      not_whole reads gate tail (omega (arith, size_there size tail is, is.0, length-drop 8 tail))

  pub shut_unread : (size : ℕ) (tail payload : List ℕ) → IsSize (Some size) tail → payload ≡ take size (drop 8 tail)
      → reads payload ≡ false → is_open reads gate tail ≡ false
  shut_unread size tail payload is same never =
      not_read reads gate tail (ap reads (payload_there size tail is ∙ sym same) ∙ never)

  pub shut_long : (size most : ℕ) (tail : List ℕ) → IsSize (Some size) tail
      → ((p : List ℕ) → reads p ≡ true → length p ≤ most) → most < size → is_open reads gate tail ≡ false
  shut_long size most tail is bound more = elim (cases_lt (length (drop 8 tail)) size) [
    | inl less ↦ shut_short size tail is less
    | inr le ↦ elim (cases_Bool (reads (payload_of tail))) [
      | inl always ↦ absurd (omega (
        arith,
        bound (payload_of tail) always,
        ap length (payload_there size tail is),
        length-take size (drop 8 tail),
        le,
        more,
      ))
      | inr never ↦ not_read reads gate tail never
    ]
  ]

-- a record begins here
pub record_there : (reads : List ℕ → Bool) (size : ℕ) (rest tail payload : List ℕ) → IsHeadOf 1 (Some size) rest tail
    → payload ≡ take size (drop 8 tail) → length payload ≡ size → reads payload ≡ true
    → (more : List ℕ) × (rest ≡ 1 ∷ (body payload ++ more)) × IsPayload reads payload
unfolding body
record_there reads size rest tail payload head same long always =
    let is = head.length_is in
    let parts : tail ≡ to_be_bytes w64 (length payload) ++ (payload ++ drop size (drop 8 tail)) =
    sym (take-append-drop 8 tail) ∙ ap (λ l. l ++ drop 8 tail) (is.1 ∙ ap (λ n. to_be_bytes w64 n) (sym long))
    ∙ ap (λ l. to_be_bytes w64 (length payload) ++ l)
    (sym (take-append-drop size (drop 8 tail)) ∙ ap (λ l. l ++ drop size (drop 8 tail)) (sym same)) in (
      drop size (drop 8 tail),
      head.are ∙ ap (λ l. 1 ∷ l)
          (parts ∙ sym (append_assoc (to_be_bytes w64 (length payload)) payload (drop size (drop 8 tail)))),
      record { short = omega (arith, is.2, long); readable = always },
    )

-- what follows a gate and a length
pub after_head : (at : ℕ) (f tail : List ℕ) (gate : ℕ) → drop at f ≡ gate ∷ tail → drop (at + 9) f ≡ drop 8 tail
after_head at f tail gate are = sym (drop-drop 9 at f) ∙ ap (λ l. drop 9 l) are
