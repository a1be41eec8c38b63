-- What the records of a file are.
use Rattle.std.proofs.Common.{◌≡◌, ◌≢◌, ℕ, zero, suc, ◌+◌, ◌<◌, ◌≤◌, Bool, true, false, cond, List, [], ◌∷◌, ◌++◌}
use Rattle.std.proofs.Common.{length, take, drop, refl, sym, ap, ◌∙◌, arith, append_assoc, length-append, length-drop}
use Rattle.std.specs.Prelude.{◌==◌}
use Rattle.std.specs.Int.{w64, to_be_bytes, from_be_bytes}
use Rattle.std.proofs.lemmas.Bool.{and_from, and_left, and_right, eq-eqb, ne_eqb, le-leb, lt-leb, cond-true}
use Rattle.std.proofs.lemmas.Bool.{cond-false}
use Rattle.std.proofs.lemmas.List.{take_at, drop_at, append-nil}
use Rattle.std.proofs.lemmas.Nat.{from_be_bytes-to_be_bytes_8}
use Rattle.dz_disk.specs.RecordLog.{body, log, size_of, payload_of, following, is_open, records_within, records}
use Rattle.dz_disk.specs.RecordLog.{IsPayload, ArePayloads}

module _ (reads : List ℕ → Bool) where
  same_within : (j k : ℕ) (file : List ℕ) → length file ≤ j → length file ≤ k
      → records_within reads j file ≡ records_within reads k file
  unfolding records_within
  same_within zero zero file a b = refl
  same_within zero (suc k) [] a b = refl
  same_within zero (suc k) (g ∷ rest) a b = absurd (omega arith)
  same_within (suc j) zero [] a b = refl
  same_within (suc j) zero (g ∷ rest) a b = absurd (omega arith)
  same_within (suc j) (suc k) [] a b = refl
  same_within (suc j) (suc k) (g ∷ rest) a b =
      ap (λ r. cond (is_open reads g rest) (payload_of rest ∷ r) [])
      (same_within j k (following rest) (omega (arith, a, length-drop (8 + size_of rest) rest))
      (omega (arith, b, length-drop (8 + size_of rest) rest)))

  pub records_nil : records reads [] ≡ []
  unfolding records records_within
  records_nil = refl

  pub records_cons : (gate : ℕ) (rest : List ℕ) → records reads (gate ∷ rest)
      ≡ cond (is_open reads gate rest) (payload_of rest ∷ records reads (following rest)) []
  unfolding records records_within
  records_cons gate rest =
      ap (λ r. cond (is_open reads gate rest) (payload_of rest ∷ r) [])
      (same_within (length rest) (length (following rest)) (following rest)
      (omega (arith, length-drop (8 + size_of rest) rest)) (omega arith))

  pub shut : (gate : ℕ) (rest : List ℕ) → is_open reads gate rest ≡ false → records reads (gate ∷ rest) ≡ []
  shut gate rest never = records_cons gate rest ∙ cond-false _ _ _ never

  -- a gate that isn't 1
  pub not_one : (gate : ℕ) (rest : List ℕ) → gate ≢ 1 → is_open reads gate rest ≡ false
  unfolding is_open
  not_one gate rest ne = and_left (gate == 1) _ (ne_eqb gate 1 ne)

  -- a length or a payload that isn't all there
  pub not_whole : (gate : ℕ) (rest : List ℕ) → length rest < 8 + size_of rest → is_open reads gate rest ≡ false
  unfolding is_open
  not_whole gate rest less = and_right (gate == 1) _ (and_left _ _ (lt-leb (8 + size_of rest) (length rest) less))

  -- a payload that doesn't read
  pub not_read : (gate : ℕ) (rest : List ℕ) → reads (payload_of rest) ≡ false → is_open reads gate rest ≡ false
  unfolding is_open
  not_read gate rest never = and_right (gate == 1) _ (and_right _ _ never)

  pub closed : (gate : ℕ) (rest : List ℕ) → gate ≢ 1 → records reads (gate ∷ rest) ≡ []
  closed gate rest ne = shut gate rest (not_one gate rest ne)

  pub short : (file : List ℕ) → length file ≤ 1 → records reads file ≡ []
  short [] less = records_nil
  short (g ∷ []) less = shut g [] (not_whole g [] (omega arith))
  short (a ∷ b ∷ rest) less = absurd (omega arith)

pub length-body : (p : List ℕ) → length (body p) ≡ 8 + length p
unfolding body
length-body p = length-append (to_be_bytes w64 (length p)) p

module _ (reads : List ℕ → Bool) (p more : List ℕ) (is : IsPayload reads p) where
  parts : body p ++ more ≡ to_be_bytes w64 (length p) ++ (p ++ more)
  unfolding body
  parts = append_assoc (to_be_bytes w64 (length p)) p more

  pub size_is : size_of (body p ++ more) ≡ length p
  size_is =
      ap (λ l. from_be_bytes w64 (take 8 l)) parts
      ∙ ap (λ l. from_be_bytes w64 l) (take_at (to_be_bytes w64 (length p)) (p ++ more) 8 refl)
      ∙ from_be_bytes-to_be_bytes_8 (length p) is.short

  pub payload_is : payload_of (body p ++ more) ≡ p
  payload_is =
      ap (λ n. take n (drop 8 (body p ++ more))) size_is
      ∙ ap (λ l. take (length p) (drop 8 l)) parts
      ∙ ap (λ l. take (length p) l) (drop_at (to_be_bytes w64 (length p)) (p ++ more) 8 refl)
      ∙ take_at p more (length p) refl

  pub after_is : following (body p ++ more) ≡ more
  after_is = ap (λ n. drop (8 + n) (body p ++ more)) size_is ∙ drop_at (body p) more (8 + length p) (length-body p)

  pub opens : is_open reads 1 (body p ++ more) ≡ true
  unfolding is_open
  opens =
      and_from _ _ (eq-eqb 1 1 refl)
      (and_from _ _ (le-leb _ _ (omega (arith, size_is, length-append (body p) more, length-body p)))
      (ap reads payload_is ∙ is.readable))

  pub records_first : records reads (1 ∷ (body p ++ more)) ≡ p ∷ records reads more
  records_first =
      records_cons reads 1 (body p ++ more) ∙ cond-true _ _ _ opens
      ∙ ap (λ x. x ∷ records reads (following (body p ++ more))) payload_is
      ∙ ap (λ l. p ∷ records reads l) after_is

-- whole records, and whatever records the rest has
pub records_log : (reads : List ℕ → Bool) (list : List (List ℕ)) (end : List ℕ) → ArePayloads reads list
    → records reads (log list ++ end) ≡ list ++ records reads end
records_log reads [] end fits = refl
records_log reads (p ∷ ps) end fits =
    ap (λ l. records reads (1 ∷ l)) (append_assoc (body p) (log ps) end)
    ∙ records_first reads p (log ps ++ end) fits.0
    ∙ ap (λ l. p ∷ l) (records_log reads ps end fits.1)

pub log_push : (list : List (List ℕ)) (p end : List ℕ) → log (list ++ p ∷ []) ++ end ≡ log list ++ 1 ∷ (body p ++ end)
log_push [] p end = ap (λ l. 1 ∷ (l ++ end)) (append-nil (body p))
log_push (q ∷ qs) p end =
    ap (λ l. 1 ∷ l)
    (append_assoc (body q) (log (qs ++ p ∷ [])) end ∙ ap (λ l. body q ++ l) (log_push qs p end)
    ∙ sym (append_assoc (body q) (log qs) (1 ∷ (body p ++ end))))

pub length-log_push : (list : List (List ℕ)) (p : List ℕ)
    → length (log (list ++ p ∷ [])) ≡ length (log list) + 9 + length p
length-log_push list p =
    omega (
      arith,
      ap length (log_push list p []),
      length-append (log (list ++ p ∷ [])) [],
      length-append (log list) (1 ∷ (body p ++ [])),
      length-append (body p) [],
      length-body p,
    )

pub fits_push : (reads : List ℕ → Bool) (list : List (List ℕ)) (p : List ℕ) → ArePayloads reads list
    → IsPayload reads p → ArePayloads reads (list ++ p ∷ [])
fits_push reads [] p fits is = (is, tt)
fits_push reads (q ∷ qs) p fits is = (fits.0, fits_push reads qs p fits.1 is)

-- records and an end that has none
pub records_shut : (reads : List ℕ → Bool) (list : List (List ℕ)) (file end : List ℕ) → ArePayloads reads list
    → file ≡ log list ++ end → records reads end ≡ [] → records reads file ≡ list
records_shut reads list file end fits are none =
    ap (λ l. records reads l) are ∙ records_log reads list end fits ∙ ap (λ l. list ++ l) none ∙ append-nil list
