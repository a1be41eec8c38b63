-- Where no name is found, the name doesn't exist.
use Rattle.std.proofs.Common.{◌≡◌, ℕ, true, false, List, [], ◌∷◌, refl, sym, ◌∙◌, ap, inl, inr, Option, Some, None}
use Rattle.std.specs.Prelude.{◌==◌, nat_lt, length, if◌then◌else◌}
use Rattle.std.proofs.lemmas.Bool.{cases_Bool}
use Rattle.dz_name.specs.Words.{Name}
use Rattle.dz_record.specs.Record.{Record}
use Rattle.dz_runs.specs.Runs.{exists, of_type, records_of}
use Rattle.dz_lookup.specs.Found.{Found, no_name, referral, here_or, at_source, source, renaming, barrier}
use Rattle.dz_lookup.specs.Found.{behind_barrier, cut_for, dname, found}

not_or : (rs ss : List Record) → here_or rs ss ≡ no_name → ⊥
not_or (r ∷ rs) ss h = cc
not_or [] (s ∷ ss) h = cc
not_or [] [] h = cc

not_renaming : (rs : List Record) → renaming rs ≡ no_name → ⊥
not_renaming [] h = cc
not_renaming (r ∷ rs) h = cc

not_barrier : (zone : List Record) (at above : Option Name) (f : Found) → barrier zone at above ≡ Some f
    → f ≡ no_name → ⊥
not_barrier zone None None f e h = cc
not_barrier zone None (Some above) f e h = not_renaming (of_type 39 (records_of zone above))
    (let g : renaming (of_type 39 (records_of zone above)) ≡ f = cc in g ∙ h)
not_barrier zone (Some at) None f e h =
    let g : referral (of_type 2 (records_of zone at)) ≡ f = cc in
    let k : referral (of_type 2 (records_of zone at)) ≡ no_name = g ∙ h in cc
not_barrier zone (Some at) (Some above) f e h = elim (cases_Bool (nat_lt (length above) (length at))) [
  | inl t ↦
      let q : ◌≡◌ {A = Option Found} (Some (renaming (of_type 39 (records_of zone above)))) (Some f) = rw t at e in
      not_renaming (of_type 39 (records_of zone above))
      (let g : renaming (of_type 39 (records_of zone above)) ≡ f = cc in g ∙ h)
  | inr n ↦
      let q : ◌≡◌ {A = Option Found} (Some (referral (of_type 2 (records_of zone at)))) (Some f) = rw n at e in
      let g : referral (of_type 2 (records_of zone at)) ≡ f = cc in
      let k : referral (of_type 2 (records_of zone at)) ≡ no_name = g ∙ h in absurd (cc)
]

source_there : (zone : List Record) (name : Name) (kind : ℕ) → exists zone name ≡ true
    → at_source zone kind (source zone name) ≡ no_name → ⊥
source_there zone name kind there h =
    let e : source zone name ≡ Some name = rw there refl in
    not_or (if kind == 255 then records_of zone name else of_type kind (records_of zone name))
    (of_type 5 (records_of zone name)) (sym (ap (at_source zone kind) e) ∙ h)

behind_missing : (zone : List Record) (name : Name) (kind : ℕ) (at above : Option Name) (b : Option Found)
    → barrier zone at above ≡ b → behind_barrier zone name kind b ≡ no_name → exists zone name ≡ false
behind_missing zone name kind at above None is h =
    elim (cases_Bool (exists zone name)) [ inl t ↦ absurd (source_there zone name kind t h) | inr f ↦ f ]
behind_missing zone name kind at above (Some f) is h = absurd (not_barrier zone at above f is h)

pub missing : (apex : Name) (zone : List Record) (name : Name) (kind : ℕ) → no_name ≡ found apex zone name kind
    → exists zone name ≡ false
unfolding found
missing apex zone name kind h = behind_missing zone name kind (cut_for apex zone kind name) (dname zone name)
    (barrier zone (cut_for apex zone kind name) (dname zone name)) refl (sym h)
