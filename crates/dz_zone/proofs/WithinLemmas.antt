-- The owners of a zone without a fault are within its apex.
use Rattle.std.proofs.Common.{◌≡◌, ℕ, ◌<◌, zero, suc, List, [], ◌∷◌, length, get_or, None, Bool, true, false, refl}
use Rattle.std.proofs.Common.{inl, inr, arith}
use Rattle.std.specs.Prelude.{not}
use Rattle.std.specs.List.{list_any}
use Rattle.std.proofs.lemmas.Bool.{cases_Bool}
use Rattle.dz_name.specs.Name.{is_within}
use Rattle.dz_record.specs.Record.{Record}
use Rattle.dz_zone.specs.Valid.{fault_of, no_soa, soa_twice, soa_below, no_ns, out_of_zone}
use Rattle.dz_zone.specs.Version.{Zone, IsValid}

none_outside : (apex : List (List ℕ)) (rs : List Record) → fault_of apex rs ≡ None → out_of_zone apex rs ≡ false
unfolding fault_of
none_outside apex rs h =
    elim (cases_Bool (no_soa apex rs)) [
      | inl t ↦ let g = rw t at h in absurd (cc)
      | inr a ↦ elim (cases_Bool (soa_twice apex rs)) [
        | inl t ↦ let g = rw (a, t) at h in absurd (cc)
        | inr b ↦ elim (cases_Bool (soa_below apex rs)) [
          | inl t ↦ let g = rw (a, b, t) at h in absurd (cc)
          | inr c ↦ elim (cases_Bool (no_ns apex rs)) [
            | inl t ↦ let g = rw (a, b, c, t) at h in absurd (cc)
            | inr d ↦ elim (cases_Bool (out_of_zone apex rs)) [
              | inl t ↦ let g = rw (a, b, c, d, t) at h in absurd (cc)
              | inr f ↦ f
            ]
          ]
        ]
      ]
    ]

none_passes : (p : Record → Bool) (rs : List Record) → list_any p rs ≡ false → (k : ℕ) (d : Record) → k < length rs
    → p (get_or rs k d) ≡ false
none_passes p [] h k d lt = absurd (omega arith)
none_passes p (r ∷ rs) h zero d lt =
    elim (cases_Bool (p r)) [ inl t ↦ let g = rw t at h in absurd (cc) | inr f ↦ f ]
none_passes p (r ∷ rs) h (suc k) d lt =
    elim (cases_Bool (p r)) [
      | inl t ↦
          let g = rw t at h in absurd (cc)
      | inr f ↦ none_passes p rs (rw f at h) k d (omega arith)
    ]

not_false : (b : Bool) → not b ≡ false → b ≡ true
not_false true h = refl
not_false false h = absurd (cc)

pub all_within : (apex : List (List ℕ)) (rs : List Record) → fault_of apex rs ≡ None → (k : ℕ) (d : Record)
    → k < length rs → is_within (get_or rs k d).owner apex ≡ true
all_within apex rs none k d lt =
    not_false _ (none_passes (λ r. not (is_within r.owner apex)) rs (none_outside apex rs none) k d lt)

pub owners_within : (zone : Zone) → IsValid zone → (k : ℕ) (d : Record) → k < length zone.records
    → is_within (get_or zone.records k d).owner zone.apex ≡ true
owners_within zone is k d lt = all_within zone.apex zone.records is.faultless k d lt
