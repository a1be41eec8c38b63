-- The owners of records in canonical order are in order.
use Rattle.std.proofs.Common.{◌≡◌, ℕ, ◌+◌, ◌<◌, true, List, [], length, get_or, refl, sym, ◌∙◌, ap, arith}
use Rattle.std.specs.Ordering.{is_le, ordering_then, nat_cmp}
use Rattle.std.specs.declared.cmp.Ordering.{Ordering}
use Rattle.std.specs.declared.cmp.Ordering.TheVariants.{Less, Equal, Greater}
use Rattle.std.specs.List.Sorted.{IsStrictlySortedBy}
use Rattle.std.proofs.lemmas.Map.Keys.{Less-from_sorted}
use Rattle.std.proofs.lemmas.List.{get_or-map, length-map}
use Rattle.dz_name.specs.Name.{canonical_order}
use Rattle.dz_record.specs.Record.{Record, record_order}
use Rattle.dz_index.specs.Index.{InOrder}
use Rattle.dz_zone.specs.Version.{owners_of}

pub first_le : (o p q : Ordering) → ordering_then (ordering_then o p) q ≡ Less → is_le o ≡ true
first_le Less p q h = refl
first_le Equal p q h = refl
first_le Greater p q h = absurd (cc)

nowhere : Record
nowhere = record { owner = []; kind = 0; ttl = 0; rdata = [] }

pub owners_in_order : (records : List Record) → IsStrictlySortedBy record_order records → InOrder (owners_of records)
owners_in_order records up at d within =
    let long : length (owners_of records) ≡ length records = length-map records (λ r. r.owner) in
    let next : at + 1 < length records = omega (arith, long) in
    let less = Less-from_sorted record_order records at (at + 1) nowhere up (omega arith) next in
    rw (
      get_or-map (λ r. r.owner) records at nowhere d (omega arith),
      get_or-map (λ r. r.owner) records (at + 1) nowhere d next,
    )
    (first_le (canonical_order (get_or records at nowhere).owner (get_or records (at + 1) nowhere).owner)
    (nat_cmp (get_or records at nowhere).kind (get_or records (at + 1) nowhere).kind) _ less)

pub owner_at : (records : List Record) (at : ℕ) (r : Record) (name : List (List ℕ)) → at < length records
    → r ≡ get_or records at r → name ≡ r.owner → name ≡ get_or (owners_of records) at name
owner_at records at r name within is owned =
    owned ∙ (ap (λ s. s.owner) is ∙ sym (get_or-map (λ s. s.owner) records at r name within))
