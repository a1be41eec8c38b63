-- The records that are found are in the order of type.
use Rattle.std.proofs.Common.{◌≡◌, ℕ, List, [], ◌∷◌, length, refl, sym, subst, Some, None, Option, inl, inr, ◌∙◌}
use Rattle.std.specs.Prelude.{nat_lt, ◌==◌}
use Rattle.std.specs.List.Sorted.{IsStrictlySortedBy, IsNonDecreasingBy}
use Rattle.std.proofs.lemmas.Bool.{cases_Bool}
use Rattle.std.proofs.lemmas.List.Kept.{IsNonDecreasingBy-filter}
use Rattle.dz_name.specs.Words.{Name}
use Rattle.dz_record.specs.Record.{Record, record_order}
use Rattle.dz_runs.specs.Runs.{of_type, records_of}
use Rattle.dz_runs.proofs.NodeLemmas.{node_kinds}
use Rattle.dz_lookup.specs.Found.{Found, here, referral, found, at_node, at_source, here_or, renaming, barrier}
use Rattle.dz_lookup.specs.Found.{behind_barrier, cut_for, dname, source}

here_kinds : (rs aliases out : List Record) → IsNonDecreasingBy (λ r. r.kind) rs → here out ≡ here_or rs aliases
    → IsNonDecreasingBy (λ r. r.kind) out
here_kinds (r ∷ rs) aliases out up e =
    let same : out ≡ r ∷ rs = cc in subst (λ (xs : List Record). IsNonDecreasingBy (λ x. x.kind) xs) (sym same) up
here_kinds [] (a ∷ rest) out up e = absurd (cc)
here_kinds [] [] out up e = absurd (cc)

node_by_kind : (zone : List Record) (name : Name) (kind : ℕ) (out : List Record)
    → IsStrictlySortedBy record_order zone → here out ≡ at_node kind (records_of zone name)
    → IsNonDecreasingBy (λ r. r.kind) out
node_by_kind zone name kind out up e =
    let all : IsNonDecreasingBy (λ r. r.kind) (records_of zone name) = node_kinds zone name up in
    elim (cases_Bool (kind == 255)) [
      | inl t ↦ here_kinds (records_of zone name) _ out all (rw t at e)
      | inr f ↦
          here_kinds (of_type kind (records_of zone name)) _ out
          (IsNonDecreasingBy-filter (λ r. r.kind) (λ r. r.kind == kind) (records_of zone name) all) (rw f at e)
    ]

source_by_kind : (zone : List Record) (kind : ℕ) (at : Option Name) (out : List Record)
    → IsStrictlySortedBy record_order zone → here out ≡ at_source zone kind at → IsNonDecreasingBy (λ r. r.kind) out
source_by_kind zone kind None out up e = absurd (cc)
source_by_kind zone kind (Some node) out up e = node_by_kind zone node kind out up e

no_renaming : (rs out : List Record) → here out ≡ renaming rs → ⊥
no_renaming [] out e = absurd (cc)
no_renaming (r ∷ rs) out e = absurd (cc)

barrier_no_answer : (zone : List Record) (at above : Option Name) (out : List Record) (f : Found)
    → barrier zone at above ≡ Some f → here out ≡ f → ⊥
barrier_no_answer zone None None out f is e = absurd (cc)
barrier_no_answer zone None (Some above) out f is e =
    let g : here out ≡ renaming (of_type 39 (records_of zone above)) = cc in
    no_renaming (of_type 39 (records_of zone above)) out g
barrier_no_answer zone (Some at) None out f is e = absurd (cc)
barrier_no_answer zone (Some at) (Some above) out f is e =
    elim (cases_Bool (nat_lt (length above) (length at))) [
      | inl t ↦
          let h : ◌≡◌ {A = Option Found} (Some (renaming (of_type 39 (records_of zone above)))) (Some f) = rw t at is in
          let g : here out ≡ renaming (of_type 39 (records_of zone above)) = cc in
          no_renaming (of_type 39 (records_of zone above)) out g
      | inr n ↦
          let h : ◌≡◌ {A = Option Found} (Some (referral (of_type 2 (records_of zone at)))) (Some f) = rw n at is in
          absurd (cc)
    ]

behind_by_kind : (zone : List Record) (name : Name) (kind : ℕ) (at above : Option Name) (b : Option Found)
    (out : List Record) → IsStrictlySortedBy record_order zone → barrier zone at above ≡ b
    → here out ≡ behind_barrier zone name kind b → IsNonDecreasingBy (λ r. r.kind) out
behind_by_kind zone name kind at above None out up is e = source_by_kind zone kind (source zone name) out up e
behind_by_kind zone name kind at above (Some f) out up is e = absurd (barrier_no_answer zone at above out f is e)

pub found_by_kind : (apex : Name) (zone : List Record) (name : Name) (kind : ℕ) (f : Found) (out : List Record)
    → IsStrictlySortedBy record_order zone → f ≡ found apex zone name kind → f ≡ here out
    → IsNonDecreasingBy (λ r. r.kind) out
unfolding found
found_by_kind apex zone name kind f out up e is =
    behind_by_kind zone name kind (cut_for apex zone kind name) (dname zone name)
    (barrier zone (cut_for apex zone kind name) (dname zone name)) out up refl (sym is ∙ e)
