-- The RDATA of a record that leads to a name is the name's wire form.
use Rattle.std.proofs.Common.{◌≡◌, ℕ, List, [], ◌∷◌, ◌++◌, length, drop, refl, ◌∙◌, ap, arith, Some, None, true, false}
use Rattle.std.proofs.Common.{inl, inr, append-nil}
use Rattle.std.specs.Prelude.{◌==◌}
use Rattle.std.specs.Option.{option_map_or}
use Rattle.std.proofs.lemmas.Bool.{eqb-true}
use Rattle.std.proofs.lemmas.Bool.Decides.{eqb_tells}
use Rattle.std.proofs.lemmas.List.{drop_all}
use Rattle.dz_name.specs.Name.{wire_of, IsWire}
use Rattle.dz_name.specs.Reading.{canonical_end}
use Rattle.dz_name.proofs.CanonicalLemmas.{canonical_end_found, drop_between}
use Rattle.dz_name.proofs.WireLemmas.{is_wire}
use Rattle.dz_record.specs.Record.{Record, IsRecord, has_target}
use Rattle.dz_record.specs.Fields.{fits, field_end, fields_of}
use Rattle.dz_record.specs.declared.fields.Field.TheVariants.{DomainName}
use Rattle.dz_record.proofs.FieldLemmas.{fits_record}

one_name : (rdata : List ℕ) → fits (DomainName ∷ []) rdata 0 ≡ true → IsWire rdata
unfolding fits field_end
one_name rdata h =
    elim (canonical_end rdata 0) as (λ e. canonical_end rdata 0 ≡ e
    → option_map_or (λ end. end == length rdata) e false ≡ true → IsWire rdata) [
      | None ↦ λ p q. absurd (cc)
      | Some end ↦ λ p q.
          let found = canonical_end_found rdata 0 end p in
          let last : end ≡ length rdata = eqb-true end (length rdata) q in
          let none : drop end rdata ≡ [] = drop_all end rdata (omega (arith, last)) in
          is_wire found.0 rdata found.1.name (drop_between rdata 0 end found.0 found.1
          ∙ (ap (λ xs. wire_of found.0 ++ xs) none ∙ append-nil (wire_of found.0)))
    ] refl h

target_fields : (kind : ℕ) → has_target kind ≡ true → fields_of kind ≡ DomainName ∷ []
unfolding fields_of
target_fields kind h =
    elim (eqb_tells kind 2) [
      | inl w ↦ rw w.1 refl
      | inr a ↦ elim (eqb_tells kind 5) [
        | inl w ↦ rw w.1 refl
        | inr b ↦ elim (eqb_tells kind 12) [
          | inl w ↦ rw w.1 refl
          | inr c ↦ elim (eqb_tells kind 39) [
            | inl w ↦ rw w.1 refl
            | inr d ↦
                let q = rw (a.0, b.0, c.0, d.0) at h in absurd (cc)
          ]
        ]
      ]
    ]

pub target_wire : (r : Record) → IsRecord r → has_target r.kind ≡ true → IsWire r.rdata
target_wire r is h = one_name r.rdata (rw (target_fields r.kind h) at (fits_record r is))
