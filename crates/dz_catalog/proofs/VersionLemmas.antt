-- The records of a catalog's version.
use Rattle.std.proofs.Common.{◌≡◌, ℕ, ◌+◌, ◌≤◌, Bool, false, not, List, [], ◌∷◌, length, refl, sym, ◌∙◌, ap, subst}
use Rattle.std.proofs.Common.{arith, inl, inr, suc}
use Rattle.std.specs.Prelude.{filter, ◌==◌, ◌&&◌, ◌||◌}
use Rattle.std.specs.List.{All, list_any}
use Rattle.std.specs.List.Sorted.{IsStrictlySortedBy}
use Rattle.std.specs.Ordering.{is_eq}
use Rattle.std.proofs.lemmas.Bool.{cases_Bool, and_parts}
use Rattle.std.proofs.lemmas.Bool.Decides.{nat_tests}
use Rattle.std.proofs.lemmas.List.Elements.{filter_agree}
use Rattle.dz_name.specs.Name.{same_name, wire_of}
use Rattle.dz_name.specs.Order.{same_decides}
use Rattle.dz_record.specs.Record.{Record, IsRecord, record_order}
use Rattle.dz_runs.specs.Runs.{of_type, records_of}
use Rattle.dz_runs.specs.Node.{from_key}
use Rattle.dz_runs.proofs.InOrder.{key_filter, key_test}
use Rattle.dz_catalog.specs.Broken.{is_version, version_name}
use Rattle.dz_catalog.specs.inner.Below.{is_at}

no_length : (xs : List Record) → (suc (length xs) == 0) ≡ false
no_length xs = grind (arith, nat_tests)

pub nothing_kept : (p : Record → Bool) (xs ys : List Record) → filter p xs ≡ ys
    → (length ys == 0) ≡ not (list_any p xs)
nothing_kept p [] ys e = rw (← e) refl
nothing_kept p (x ∷ xs) ys e =
    elim (cases_Bool (p x)) [
      | inl t ↦ let k : x ∷ filter p xs ≡ ys = rw t at e in rw (← k, t) (no_length (filter p xs))
      | inr f ↦ let k : filter p xs ≡ ys = rw f at e in rw f (nothing_kept p xs ys k)
    ]

pub other_kept : (p q : Record → Bool) (xs : List Record) → list_any q (filter p xs) ≡ list_any (λ r. p r && q r) xs
other_kept p q [] = refl
other_kept p q (x ∷ xs) = elim (cases_Bool (p x))
    [ inl t ↦ rw t (ap (λ b. q x || b) (other_kept p q xs)) | inr f ↦ rw f (other_kept p q xs) ]

-- they are one RRset
pub kept_rrset : (apex : List (List ℕ)) (records rrset : List Record) (name : List (List ℕ))
    → IsStrictlySortedBy record_order records → name ≡ version_name apex
    → rrset ≡ of_type 16 (records_of records name) → rrset ≡ filter (is_version apex) records
kept_rrset apex records rrset name up is e =
    e
    ∙ (sym (key_filter records name 16 up)
    ∙ (filter_agree (λ s. is_eq (from_key name 16 s)) (is_at 16 name) (λ s. key_test name 16 s) records
    ∙ ap (λ (n : List (List ℕ)). filter (is_at 16 n) records) is))

-- and there are none where their name would be too long
long : (apex : List (List ℕ)) (r : Record) → 255 ≤ length (wire_of apex) + 7 → IsRecord r → is_version apex r ≡ false
unfolding wire_of
long apex r much valid =
    elim (cases_Bool (is_version apex r)) [
      | inl t ↦
          let e : r.owner ≡ version_name apex = (same_decides r.owner (version_name apex)).0
          (and_parts (r.kind == 16) (same_name r.owner (version_name apex)) t).1 in
          let short : length (wire_of (version_name apex)) ≤ 255 =
          subst (λ (n : List (List ℕ)). length (wire_of n) ≤ 255) e valid.owner.short in
          absurd (omega (arith, short, much))
      | inr f ↦ f
    ]

pub kept_none : (apex : List (List ℕ)) (records : List Record) → 255 ≤ length (wire_of apex) + 7 → All IsRecord records
    → [] ≡ filter (is_version apex) records
kept_none apex [] much held = refl
kept_none apex (r ∷ rs) much held =
    rw (long apex r much (held 0 r (omega arith))) (kept_none apex rs much (λ k d lt. held (suc k) d (omega arith)))
