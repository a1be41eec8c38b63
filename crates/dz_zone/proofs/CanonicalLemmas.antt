-- In canonical order the names within a name follow it, and no other name comes between them.
use Rattle.std.proofs.Common.{◌≡◌, ℕ, List, [], ◌∷◌, ◌++◌, reverse, refl, sym, ◌∙◌, ap, true, false}
use Rattle.std.specs.Cmp.{tied_itself}
use Rattle.std.specs.Cmp.Lexicographic.{slice_cmp}
use Rattle.std.proofs.lemmas.Cmp.{nat_list_cmp_total}
use Rattle.std.specs.FinMap.{slice_cmp-IsAntisymmetric, nat_cmp-IsAntisymmetric}
use Rattle.std.specs.Ordering.{is_lt, is_gt, ordering_then, nat_cmp}
use Rattle.std.specs.declared.cmp.Ordering.TheVariants.{Less, Equal, Greater}
use Rattle.std.proofs.lemmas.List.{append-nil, reverse-append, reverse-reverse}
use Rattle.dz_name.specs.Name.{canonical_order, is_within}
use Rattle.dz_name.proofs.PartLemmas.{within_suffix}

cons_same : (x y : List ℕ) (a p t : List (List ℕ)) → x ≡ y → a ≡ p ++ t → x ∷ a ≡ (y ∷ p) ++ t
cons_same x y a p t e f = rw (e, f) refl

-- what comes neither before a list that begins with p nor after another such list begins with p
prefix_both : (a p s t : List (List ℕ)) → is_lt (slice_cmp (slice_cmp nat_cmp) a (p ++ s)) ≡ false
    → is_gt (slice_cmp (slice_cmp nat_cmp) a (p ++ t)) ≡ false → (u : List (List ℕ)) × (a ≡ p ++ u)
prefix_both a [] s t low high = (a, refl)
prefix_both [] (y ∷ p) s t low high = absurd (cc)
prefix_both (x ∷ a) (y ∷ p) s t low high =
    elim (slice_cmp nat_cmp x y) as (λ o. slice_cmp nat_cmp x y ≡ o
    → is_lt (ordering_then o (slice_cmp (slice_cmp nat_cmp) a (p ++ s))) ≡ false
    → is_gt (ordering_then o (slice_cmp (slice_cmp nat_cmp) a (p ++ t))) ≡ false
    → (u : List (List ℕ)) × (x ∷ a ≡ (y ∷ p) ++ u)) [
      | Less ↦ λ e l h. absurd (cc)
      | Greater ↦ λ e l h. absurd (cc)
      | Equal ↦ λ e l h.
          let same : x ≡ y = slice_cmp-IsAntisymmetric nat_cmp-IsAntisymmetric x y e in
          let rest = prefix_both a p s t l h in
          (rest.0, cons_same x y a p rest.0 same rest.1)
    ] refl low high

-- a list that doesn't come before p, nor after a list that begins with p, begins with p
prefix_between : (a p s : List (List ℕ)) → is_lt (slice_cmp (slice_cmp nat_cmp) a p) ≡ false
    → is_gt (slice_cmp (slice_cmp nat_cmp) a (p ++ s)) ≡ false → (t : List (List ℕ)) × (a ≡ p ++ t)
prefix_between a p s low high = prefix_both a p [] s (rw (append-nil p) low) high

prefix_least : (p s : List (List ℕ)) → is_lt (slice_cmp (slice_cmp nat_cmp) (p ++ s) p) ≡ false
prefix_least [] [] = refl
prefix_least [] (x ∷ s) = refl
prefix_least (y ∷ p) s = rw (tied_itself nat_list_cmp_total y) (prefix_least p s)

-- a name within another doesn't come before it
pub within_not_less : (name above : List (List ℕ)) → is_within name above ≡ true
    → is_lt (canonical_order name above) ≡ false
within_not_less name above h =
    let w = (within_suffix name above).0 h in
    let e : reverse name ≡ reverse above ++ reverse w.0 = ap (λ xs. reverse xs) w.1 ∙ reverse-append w.0 above in
    rw e (prefix_least (reverse above) (reverse w.0))

-- what comes between a name and one within it is within it
pub between_within : (name middle above : List (List ℕ)) → is_within name above ≡ true
    → is_lt (canonical_order middle above) ≡ false → is_gt (canonical_order middle name) ≡ false
    → is_within middle above ≡ true
between_within name middle above h low high =
    let w = (within_suffix name above).0 h in
    let e : reverse name ≡ reverse above ++ reverse w.0 = ap (λ xs. reverse xs) w.1 ∙ reverse-append w.0 above in
    let rest = prefix_between (reverse middle) (reverse above) (reverse w.0) low (rw e at high) in
    let f : middle ≡ reverse rest.0 ++ above =
    sym (reverse-reverse middle) ∙ (ap (λ xs. reverse xs) rest.1
    ∙ (reverse-append (reverse above) rest.0 ∙ ap (λ xs. reverse rest.0 ++ xs) (reverse-reverse above))) in
    (within_suffix middle above).1 (reverse rest.0, f)

-- what comes between two names within a name is within it
pub both_within : (first last middle above : List (List ℕ)) → is_within first above ≡ true
    → is_within last above ≡ true
    → is_lt (canonical_order middle first) ≡ false → is_gt (canonical_order middle last) ≡ false
    → is_within middle above ≡ true
both_within first last middle above f l low high =
    let v = (within_suffix first above).0 f in
    let w = (within_suffix last above).0 l in
    let d : reverse first ≡ reverse above ++ reverse v.0 = ap (λ xs. reverse xs) v.1 ∙ reverse-append v.0 above in
    let e : reverse last ≡ reverse above ++ reverse w.0 = ap (λ xs. reverse xs) w.1 ∙ reverse-append w.0 above in
    let rest = prefix_both (reverse middle) (reverse above) (reverse v.0) (reverse w.0) (rw d at low) (rw e at high) in
    let g : middle ≡ reverse rest.0 ++ above =
    sym (reverse-reverse middle) ∙ (ap (λ xs. reverse xs) rest.1
    ∙ (reverse-append (reverse above) rest.0 ∙ ap (λ xs. reverse rest.0 ++ xs) (reverse-reverse above))) in
    (within_suffix middle above).1 (reverse rest.0, g)
