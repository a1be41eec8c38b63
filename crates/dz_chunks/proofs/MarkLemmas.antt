-- The first octets beside a chunk are those of the keys at their places.
use Rattle.std.proofs.Common.{◌≡◌, ◌≢◌, ℕ, zero, suc, ◌+◌, ◌-◌, ◌*◌, ◌/◌, ◌%◌, ◌<◌, ◌≤◌, List, [], ◌∷◌, length, get_or}
use Rattle.std.proofs.Common.{refl, sym, ◌∙◌, ap, arith, subst}
use Rattle.std.specs.Cmp.Lexicographic.{slice_cmp}
use Rattle.std.specs.Prelude.{not}
use Rattle.std.specs.Ordering.{nat_cmp, is_gt}
use Rattle.std.specs.declared.cmp.Ordering.{Ordering}
use Rattle.std.specs.declared.cmp.Ordering.TheVariants.{Equal}
use Rattle.dz_chunks.specs.inner.Chunked.{AreMarks, IsLedBy, begins_upto}

module _ {K X : Type 0} (lead : K → List ℕ) where
  pub mark_at : (ms : List (List ℕ)) (place i : ℕ) (es : List (K × X)) (m : List ℕ) (d : K × X)
      → AreMarks lead ms place es → i < length ms → place + i * 16 < length es
      → get_or ms i m ≡ lead (get_or es (place + i * 16) d).0
  mark_at [] place i es m d are lt within = absurd (omega arith)
  mark_at (x ∷ ms) place zero es m d are lt within =
      let e : place + 0 * 16 ≡ place = omega arith in
      subst (λ p. x ≡ lead (get_or es p d).0) (sym e) (are.0 d (omega (arith, within)))
  mark_at (x ∷ ms) place (suc i) es m d are lt within =
      let e : place + suc i * 16 ≡ place + 16 + i * 16 = omega arith in
      subst (λ p. get_or ms i m ≡ lead (get_or es p d).0) (sym e)
      (mark_at ms (place + 16) i es m d are.1 (omega (arith, lt)) (omega (arith, within)))

module _ {K X : Type 0} (R : K → K → Ordering) where
  -- how the key at a place compares with another, by its mark, where the first octets differ
  pub by_mark : (lead : K → List ℕ)
      → ((a b : K) → slice_cmp nat_cmp (lead a) (lead b) ≢ Equal → R a b ≡ slice_cmp nat_cmp (lead a) (lead b))
      → (ms : List (List ℕ)) (es : List (K × X)) (place : ℕ) (k : K) (d : K × X) (o : Ordering)
      → AreMarks lead ms 16 es → length ms ≡ 7 → 0 < place → place % 16 ≡ 0 → place < length es → length es ≤ 128
      → (m l : List ℕ) → o ≡ slice_cmp nat_cmp (get_or ms (place / 16 - 1) m) l → l ≡ lead k → o ≢ Equal
      → R (get_or es place d).0 k ≡ o
  by_mark lead decides ms es place k d o are seven some even within short m l e is apart =
      let at : 16 + (place / 16 - 1) * 16 ≡ place = omega (arith, some, even) in
      let low : place / 16 - 1 < length ms = omega (arith, some, even, within, short, seven) in
      let near : 16 + (place / 16 - 1) * 16 < length es = omega (arith, at, within) in
      let led : get_or ms (place / 16 - 1) m ≡ lead (get_or es place d).0 =
      mark_at lead ms 16 (place / 16 - 1) es m d are low near ∙ ap (λ p. lead (get_or es p d).0) at in
      let same : o ≡ slice_cmp nat_cmp (lead (get_or es place d).0) (lead k) =
      e ∙ (ap (λ x. slice_cmp nat_cmp x l) led ∙ ap (slice_cmp nat_cmp (lead (get_or es place d).0)) is) in
      decides (get_or es place d).0 k (λ t. apart (same ∙ t)) ∙ sym same

  -- there is a first entry, and the first key tells whether a list begins up to another
  pub led_some : (lead : K → List ℕ) (octets : List ℕ) (es : List (K × X)) → IsLedBy lead octets es → 0 < length es
  led_some lead octets [] led = absurd led
  led_some lead octets (e ∷ es) led = omega arith

  pub begins_first : (k : K) (es : List (K × X)) (d : K × X) → 0 < length es
      → begins_upto R k es ≡ not (is_gt (R (get_or es 0 d).0 k))
  begins_first k [] d some = absurd (omega arith)
  begins_first k (e ∷ es) d some = refl
