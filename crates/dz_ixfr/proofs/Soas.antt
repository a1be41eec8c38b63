-- Records that are no SOA of the apex.
use Rattle.std.proofs.Common.{◌≡◌, Bool, true, false, not, ◌&&◌, List, [], ◌∷◌, refl, sym, ◌∙◌, ap, inl, inr, is_gt}
use Rattle.std.proofs.lemmas.Bool.{cases_Bool, and_parts, both_ways, eqb-true}
use Rattle.std.specs.Prelude.{◌==◌, filter}
use Rattle.std.specs.Str.{bytes_eq}
use Rattle.dz_name.specs.Name.{same_name}
use Rattle.dz_name.specs.Order.{same_decides}
use Rattle.dz_name.specs.Words.{Name}
use Rattle.dz_name.specs.declared.dns.TheConstants.{TYPE_SOA}
use Rattle.dz_record.specs.Record.{Record, record_order, same_record}
use Rattle.dz_record.specs.Records.{insertion}
use Rattle.dz_zone.specs.Version.{Zone}
use Rattle.dz_xfr.specs.Apex.{is_apex_soa}
use Rattle.dz_ixfr.specs.Incremental.{is_there, without, others, HasNoSoa}

-- of records that are the same both are SOAs of the apex, or neither is
pub same_soa : (apex : Name) (a b : Record) → same_record a b ≡ true → is_apex_soa apex a ≡ is_apex_soa apex b
same_soa apex a b t =
    let parts = and_parts (same_name a.owner b.owner) (a.kind == b.kind && bytes_eq a.rdata b.rdata) t in
    let owner = (same_decides a.owner b.owner).0 parts.0 in
    let kind = eqb-true a.kind b.kind (and_parts (a.kind == b.kind) (bytes_eq a.rdata b.rdata) parts.1).0 in
    ap (λ k. k == TYPE_SOA && same_name a.owner apex) kind ∙ ap (λ n. b.kind == TYPE_SOA && same_name n apex) owner

pub soa_apart : (apex : Name) (a b : Record) → is_apex_soa apex a ≡ true → is_apex_soa apex b ≡ false
    → same_record a b ≡ false
soa_apart apex a b t f =
    elim (cases_Bool (same_record a b)) [
      | inl u ↦ absurd (both_ways (is_apex_soa apex b) f (sym (same_soa apex a b u) ∙ t))
      | inr g ↦ g
    ]

pub soa_absent : (apex : Name) (soa : Record) (zone : List Record) → is_apex_soa apex soa ≡ true → HasNoSoa apex zone
    → is_there soa zone ≡ false
soa_absent apex soa [] t h = refl
soa_absent apex soa (s ∷ zone) t h = rw (soa_apart apex soa s t h.0) (soa_absent apex soa zone t h.1)

no_soa_filter : (apex : Name) (p : Record → Bool) (zone : List Record) → HasNoSoa apex zone
    → HasNoSoa apex (filter p zone)
no_soa_filter apex p [] h = tt
no_soa_filter apex p (s ∷ zone) h =
    elim (cases_Bool (p s)) [
      | inl t ↦ rw t (h.0, no_soa_filter apex p zone h.1)
      | inr f ↦ rw f (no_soa_filter apex p zone h.1)
    ]

pub no_soa_without : (apex : Name) (r : Record) (zone : List Record) → HasNoSoa apex zone
    → HasNoSoa apex (without r zone)
no_soa_without apex r zone h = no_soa_filter apex (λ s. not (same_record r s)) zone h

pub no_soa_insertion : (apex : Name) (r : Record) (zone : List Record) → is_apex_soa apex r ≡ false
    → HasNoSoa apex zone → HasNoSoa apex (insertion r zone)
unfolding insertion
no_soa_insertion apex r [] f h = (f, tt)
no_soa_insertion apex r (s ∷ zone) f h =
    elim (cases_Bool (is_gt (record_order r s))) [
      | inl t ↦ rw t (h.0, no_soa_insertion apex r zone f h.1)
      | inr g ↦ rw g (f, h)
    ]

no_soa_left : (apex : Name) (records : List Record) → HasNoSoa apex (filter (λ r. not (is_apex_soa apex r)) records)
no_soa_left apex [] = tt
no_soa_left apex (r ∷ records) =
    elim (cases_Bool (is_apex_soa apex r)) [
      | inl t ↦ rw t (no_soa_left apex records)
      | inr f ↦ rw f (f, no_soa_left apex records)
    ]

pub no_soa_others : (held : Zone) → HasNoSoa held.apex (others held)
no_soa_others held = no_soa_left held.apex held.records

-- a record that isn't there leaves nothing
pub without_absent : (r : Record) (zone : List Record) → is_there r zone ≡ false → without r zone ≡ zone
without_absent r [] f = refl
without_absent r (s ∷ zone) f =
    elim (cases_Bool (same_record r s)) [
      | inl t ↦ let k = rw t at f in absurd (cc)
      | inr g ↦ rw g (ap (λ l. s ∷ l) (without_absent r zone (rw g at f)))
    ]

-- a record that was taken away is gone
pub removed_gone : (r : Record) (zone : List Record) → is_there r (without r zone) ≡ false
removed_gone r [] = refl
removed_gone r (s ∷ zone) =
    elim (cases_Bool (same_record r s)) [
      | inl t ↦ rw t (removed_gone r zone)
      | inr f ↦ rw (f, f) (removed_gone r zone)
    ]
