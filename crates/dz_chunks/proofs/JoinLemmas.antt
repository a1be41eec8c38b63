-- Chunks of 1 to 128 entries, two neighbours of which have at least 128 together: how many there are, and what is
-- in place of one of them.
use Rattle.std.proofs.Common.{◌≡◌, ℕ, zero, suc, ◌+◌, ◌-◌, ◌*◌, ◌<◌, ◌≤◌, List, [], ◌∷◌, ◌++◌, length, take, drop}
use Rattle.std.proofs.Common.{get_or, append_assoc, length-append, refl, sym, ◌∙◌, ap, arith}
use Rattle.std.specs.Prelude.{◌/◌}
use Rattle.std.proofs.lemmas.List.{append-nil, take-append-drop, take_rest, take_more}
use Rattle.dz_chunks.specs.Chunked.{flat, Joined, AreChunks}
use Rattle.dz_chunks.specs.inner.Chunked.{length_at, length_before}
use Rattle.dz_chunks.proofs.ChunkLemmas.{drop_none}

-- the last of these chunks and one more
abbrev Ends : {A : Type 0} → List (List A) → List A → Type 0
Ends [] x = Unit {0}
Ends (c ∷ []) x = 128 ≤ length c + length x
Ends (c ∷ d ∷ cs) x = Ends (d ∷ cs) x

module _ {A : Type 0} where
  many_in : (cs : List (List A)) → AreChunks cs → 64 * length cs ≤ length (flat cs) + 64
  many_in [] z = omega arith
  many_in (c ∷ []) z = omega arith
  many_in (c ∷ d ∷ cs) z =
      omega (arith, many_in cs z.3.3, z.2, length-append c (d ++ flat cs), length-append d (flat cs))

  pub few_chunks : (cs : List (List A)) → AreChunks cs → length cs ≤ length (flat cs) / 64 + 1
  few_chunks cs z = omega (arith, many_in cs z)

  -- what is known of the lengths
  pub length_some : (cs : List (List A)) (i : ℕ) → AreChunks cs → 1 ≤ length_at cs i
  length_some [] i z = omega arith
  length_some (c ∷ cs) zero z = z.0
  length_some (c ∷ cs) (suc i) z = length_some cs i z.3

  pub length_short : (cs : List (List A)) (i : ℕ) → AreChunks cs → length_at cs i ≤ 128
  length_short [] i z = omega arith
  length_short (c ∷ cs) zero z = z.1
  length_short (c ∷ cs) (suc i) z = length_short cs i z.3

  neighbours : (cs : List (List A)) (i : ℕ) → AreChunks cs → 128 ≤ length_at cs i + length_at cs (suc i)
  neighbours [] i z = omega arith
  neighbours (c ∷ []) zero z = omega arith
  neighbours (c ∷ d ∷ cs) zero z = z.2
  neighbours (c ∷ cs) (suc i) z = neighbours cs i z.3

  pub with_before : (cs : List (List A)) (i : ℕ) → AreChunks cs → 128 ≤ length_before cs i + length_at cs i
  with_before cs zero z = omega arith
  with_before cs (suc i) z = neighbours cs i z

  pub with_next : (cs : List (List A)) (i : ℕ) → AreChunks cs → 128 ≤ length_at cs i + length_at cs (i + 1)
  with_next cs i z = let e : i + 1 ≡ suc i = omega arith in rw e (neighbours cs i z)

  pub length_at_is : (cs : List (List A)) (i : ℕ) (d : List A) → i < length cs
      → length_at cs i ≡ length (get_or cs i d)
  length_at_is [] i d h = absurd (omega arith)
  length_at_is (c ∷ cs) zero d h = refl
  length_at_is (c ∷ cs) (suc i) d h = length_at_is cs i d (omega arith)

  pub length_past : (cs : List (List A)) (i : ℕ) → length cs ≤ i → length_at cs i ≡ 128
  length_past [] i h = refl
  length_past (c ∷ cs) zero h = absurd (omega arith)
  length_past (c ∷ cs) (suc i) h = length_past cs i (omega arith)

  -- the chunks in front of a place and those after one
  ends_from : (cs : List (List A)) (i : ℕ) (x : List A) → i ≤ length cs → 128 ≤ length_before cs i + length x
      → Ends (take i cs) x
  ends_from cs zero x le h = tt
  ends_from [] (suc i) x le h = absurd (omega arith)
  ends_from (c ∷ cs) (suc zero) x le h = h
  ends_from (c ∷ []) (suc (suc i)) x le h = absurd (omega arith)
  ends_from (c ∷ d ∷ cs) (suc (suc i)) x le h = ends_from (d ∷ cs) (suc i) x (omega arith) h

  joined_from : (cs : List (List A)) (i : ℕ) (x : List A) → 128 ≤ length x + length_at cs i → Joined x (drop i cs)
  joined_from [] i x h = rw (drop_none {A = List A} i) tt
  joined_from (c ∷ cs) zero x h = h
  joined_from (c ∷ cs) (suc i) x h = joined_from cs i x h

  joined_take : (c : List A) (i : ℕ) (cs : List (List A)) → Joined c cs → Joined c (take i cs)
  joined_take c zero cs j = tt
  joined_take c (suc i) [] j = tt
  joined_take c (suc i) (d ∷ cs) j = j

  chunks_take : (i : ℕ) (cs : List (List A)) → AreChunks cs → AreChunks (take i cs)
  chunks_take zero cs z = tt
  chunks_take (suc i) [] z = tt
  chunks_take (suc i) (c ∷ cs) z = (z.0, z.1, joined_take c i cs z.2, chunks_take i cs z.3)

  chunks_drop : (i : ℕ) (cs : List (List A)) → AreChunks cs → AreChunks (drop i cs)
  chunks_drop zero cs z = z
  chunks_drop (suc i) [] z = tt
  chunks_drop (suc i) (c ∷ cs) z = chunks_drop i cs z.3

  glue : (F : List (List A)) (g : List A) (G : List (List A)) → AreChunks F → Ends F g → AreChunks (g ∷ G)
      → AreChunks (F ++ g ∷ G)
  glue [] g G a e b = b
  glue (c ∷ []) g G a e b = (a.0, a.1, e, b)
  glue (c ∷ d ∷ F) g G a e b = (a.0, a.1, a.2, glue (d ∷ F) g G a.3 e b)

  -- one chunk, two or none in place of those from i up to j
  pub one_between : (cs : List (List A)) (i j : ℕ) (x : List A) → i ≤ length cs → 1 ≤ length x → length x ≤ 128
      → 128 ≤ length_before cs i + length x → 128 ≤ length x + length_at cs j → AreChunks cs
      → AreChunks (take i cs ++ x ∷ drop j cs)
  one_between cs i j x le some short before behind z =
      glue (take i cs) x (drop j cs) (chunks_take i cs z) (ends_from cs i x le before)
      (some, short, joined_from cs j x behind, chunks_drop j cs z)

  pub two_between : (cs : List (List A)) (i j : ℕ) (x y : List A) → i ≤ length cs → 64 ≤ length x → length x ≤ 128
      → 64 ≤ length y → length y ≤ 128 → 128 ≤ length_before cs i + length x → 128 ≤ length y + length_at cs j
      → AreChunks cs
      → AreChunks (take i cs ++ x ∷ y ∷ drop j cs)
  two_between cs i j x y le x1 x2 y1 y2 before behind z =
      let some_x : 1 ≤ length x = omega arith in
      let some_y : 1 ≤ length y = omega arith in
      let both : 128 ≤ length x + length y = omega arith in
      glue (take i cs) x (y ∷ drop j cs) (chunks_take i cs z) (ends_from cs i x le before)
      (some_x, x2, both, (some_y, y2, joined_from cs j y behind, chunks_drop j cs z))

  joined_over : (c d : List A) (cs : List (List A)) → length d ≤ 1 → 128 ≤ length c + length d → Joined d cs
      → Joined c cs
  joined_over c d [] few h j = tt
  joined_over c d (e ∷ cs) few h j = omega arith

  pub none_between : (cs : List (List A)) (i : ℕ) → i < length cs → length_at cs i ≤ 1 → AreChunks cs
      → AreChunks (take i cs ++ drop (i + 1) cs)
  none_between [] i lt few z = absurd (omega arith)
  none_between (c ∷ cs) zero lt few z = z.3
  none_between (c ∷ []) (suc i) lt few z = absurd (omega arith)
  none_between (c ∷ d ∷ cs) (suc zero) lt few z = (z.0, z.1, joined_over c d cs few z.2 z.3.2, z.3.3)
  none_between (c ∷ d ∷ cs) (suc (suc i)) lt few z =
      let e : suc (suc i) + 1 ≡ suc (suc i + 1) = omega arith in
      rw e (z.0, z.1, z.2, none_between (d ∷ cs) (suc i) (omega arith) few z.3)

  pub flat-append : (cs ds : List (List A)) → flat (cs ++ ds) ≡ flat cs ++ flat ds
  flat-append [] ds = refl
  flat-append (c ∷ cs) ds = rw (flat-append cs ds) (sym (append_assoc c (flat cs) (flat ds)))

  -- the entries of the first chunks and of one more, and of those from a place on
  pub flat_take_more : (cs : List (List A)) (i : ℕ) (d : List A) → i < length cs
      → flat (take (i + 1) cs) ≡ flat (take i cs) ++ get_or cs i d
  flat_take_more cs i d lt =
      rw (take_more cs i d lt, flat-append (take i cs) (get_or cs i d ∷ []), append-nil (get_or cs i d)) refl

  pub flat_drop_more : (cs : List (List A)) (i : ℕ) (d : List A) → i < length cs
      → flat (drop i cs) ≡ get_or cs i d ++ flat (drop (i + 1) cs)
  flat_drop_more [] i d lt = absurd (omega arith)
  flat_drop_more (c ∷ cs) zero d lt = refl
  flat_drop_more (c ∷ cs) (suc i) d lt =
      let e : suc i + 1 ≡ suc (i + 1) = omega arith in
      rw e (flat_drop_more cs i d (omega arith))

  -- entries joined on the one side and then on the other, and two parts joined on a side each
  pub one_flat : (front back taken left part joined es : List A) → front ++ part ≡ taken ++ es
      → joined ++ back ≡ part ++ left → front ++ (joined ++ back) ≡ taken ++ (es ++ left)
  one_flat front back taken left part joined es a b =
      ap (λ l. front ++ l) b
      ∙ (sym (append_assoc front part left) ∙ (ap (λ l. l ++ left) a ∙ append_assoc taken es left))

  pub two_flat : (front back taken left x y first second es : List A) → front ++ x ≡ taken ++ first
      → y ++ back ≡ second ++ left → first ++ second ≡ es → front ++ (x ++ (y ++ back)) ≡ taken ++ (es ++ left)
  two_flat front back taken left x y first second es a b c =
      sym (append_assoc front x (y ++ back))
      ∙ (ap (λ l. l ++ (y ++ back)) a ∙ (append_assoc taken first (y ++ back) ∙ ap (λ l. taken ++ l)
      (ap (λ l. first ++ l) b ∙ (sym (append_assoc first second left) ∙ ap (λ l. l ++ left) c))))

-- references copied in front of some chunks and after them
pub copied_around : {A : Type 0} (cs new0 new1 new2 new3 : List A) (i j : ℕ) (ps : List A) → new0 ≡ []
    → new1 ≡ new0 ++ take i cs → new2 ≡ new1 ++ ps
    → new3 ≡ new2 ++ take (length cs - j) (drop j cs) → new3 ≡ take i cs ++ (ps ++ drop j cs)
copied_around cs new0 new1 new2 new3 i j ps a b c d =
    let b2 : new1 ≡ take i cs = rw a at b in
    rw (take_rest cs j) at d ∙ (rw (c, b2) (append_assoc (take i cs) ps (drop j cs)))

-- the chunk at a place
module _ {B : Type 0} where
  pub seen_length : (cs : List (List B)) (i : ℕ) (d : List B) → i < length cs → length_at cs i ≡ length (get_or cs i d)
  seen_length cs i d lt = length_at_is cs i d lt

  pub within_of : (cs : List (List B)) (i : ℕ) → length_at cs i < 128 → i < length cs
  within_of [] i h = absurd (omega arith)
  within_of (c ∷ cs) zero h = omega arith
  within_of (c ∷ cs) (suc i) h = omega (arith, within_of cs i h)

  -- where the chunk before a place, or the one there, has fewer than 128 entries, there is one
  pub before_length : (cs : List (List B)) (i : ℕ) (d : List B) (n : ℕ) (part : List B) → i ≤ length cs
      → n ≡ length_before cs i → n < 128 → part ≡ get_or cs (i - 1) d → AreChunks cs
      → (0 < i) × (length part ≡ n) × (128 ≤ length_before cs (i - 1) + n)
  before_length cs zero d n part le e lt p z = absurd (omega arith)
  before_length cs (suc i) d n part le e lt p z =
      let s : suc i - 1 ≡ i = omega arith in
      let q : part ≡ get_or cs i d = rw s at p in
      let a : length part ≡ n = ap length q ∙ (sym (seen_length cs i d (omega arith)) ∙ sym e) in
      let b : 128 ≤ length_before cs i + n = omega (arith, with_before cs i z, e) in
      rw s (omega arith, a, b)

  pub behind_length : (cs : List (List B)) (i : ℕ) (d : List B) (n : ℕ) (part : List B) → n ≡ length_at cs i → n < 128
      → part ≡ get_or cs i d → AreChunks cs
      → (length part ≡ n) × (128 ≤ n + length_at cs (i + 1))
  behind_length cs i d n part e lt p z =
      let h = within_of cs i (omega arith) in
      (ap length p ∙ (sym (seen_length cs i d h) ∙ sym e), omega (arith, with_next cs i z, e))

  pub before_flat : (cs : List (List B)) (i : ℕ) (d : List B) (part es new : List B) → 0 < i → i ≤ length cs
      → part ≡ get_or cs (i - 1) d → new ≡ part ++ es → flat (take (i - 1) cs) ++ new ≡ flat (take i cs) ++ es
  before_flat cs zero d part es new some le p n = absurd (omega arith)
  before_flat cs (suc i) d part es new some le p n =
      let s : suc i - 1 ≡ i = omega arith in
      let e : suc i ≡ i + 1 = omega arith in
      let lt : i < length cs = omega arith in
      let q : part ≡ get_or cs i d = rw s at p in
      rw (s, e, flat_take_more cs i d lt, n, q) (sym (append_assoc (flat (take i cs)) (get_or cs i d) es))

  pub behind_flat : (cs : List (List B)) (i : ℕ) (d : List B) (part es new : List B) → i < length cs
      → part ≡ get_or cs i d → new ≡ es ++ part → new ++ flat (drop (i + 1) cs) ≡ es ++ flat (drop i cs)
  behind_flat cs i d part es new lt p n =
      rw (flat_drop_more cs i d lt, n, p) (append_assoc es (get_or cs i d) (flat (drop (i + 1) cs)))

pub pushed_both : {A : Type 0} (old one two : List A) (x y : A) → one ≡ old ++ x ∷ [] → two ≡ one ++ y ∷ []
    → two ≡ old ++ x ∷ y ∷ []
pushed_both old one two x y a b = b ∙ (ap (λ l. l ++ y ∷ []) a ∙ append_assoc old (x ∷ []) (y ∷ []))

pub halves_join : {A : Type 0} (es first second : List A) → first ≡ take 64 es → second ≡ drop 64 es
    → first ++ second ≡ es
halves_join es first second a b = rw (a, b) (take-append-drop 64 es)

-- how many entries the first chunks and one more have
pub taken_length : {B : Type 0} (cs : List (List B)) (i : ℕ) (d : List B) → i < length cs
    → length (flat (take (i + 1) cs)) ≡ length (flat (take i cs)) + length (get_or cs i d)
taken_length cs i d lt = ap length (flat_take_more cs i d lt) ∙ length-append (flat (take i cs)) (get_or cs i d)
