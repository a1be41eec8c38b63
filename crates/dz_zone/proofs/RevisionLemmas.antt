-- What a removal and an insertion make of the records that are left.
use Rattle.std.proofs.Common.{◌≡◌, ℕ, ◌+◌, ◌<◌, ◌≤◌, Bool, true, false, not, List, [], ◌∷◌, length, map, get_or, set}
use Rattle.std.proofs.Common.{refl, sym, ◌∙◌, ap, subst, is_eq, Result, Ok, Err, arith, Less, Equal, Greater, inl, inr}
use Rattle.std.specs.Prelude.{IfOk, OnOk, OnErr}
use Rattle.std.specs.Bool.{OnTrue, OnFalse}
use Rattle.std.specs.BTreeMap.{is_at}
use Rattle.std.specs.BTreeSet.{insert_key}
use Rattle.std.specs.List.Sorted.{IsStrictlySortedBy}
use Rattle.std.specs.Set.{remove_key}
use Rattle.std.specs.Ordering.{match_ordering}
use Rattle.std.proofs.lemmas.Bool.{not-true, cases_Bool}
use Rattle.dz_name.specs.declared.dns.TheConstants.{ZONE_RECORDS, TYPE_SOA}
use Rattle.dz_index.specs.declared.index.TheConstants.{OWNERS}
use Rattle.dz_record.specs.Order.{record_total}
use Rattle.dz_record.specs.Record.{Record, record_order}
use Rattle.dz_record.specs.Records.{insertion}
use Rattle.dz_zone.specs.Revision.{is_there, without, Revised, with_records, unchanged}
use Rattle.dz_zone.specs.Valid.{at_apex}
use Rattle.dz_zone.specs.Version.{Zone, IsValid}
use Rattle.dz_zone.specs.inner.Revising.{flags_of, revised_of, IsRevising}
use Rattle.dz_zone.proofs.FlagLemmas.{flag_at, items_flags, length_flags, at_flags, set_flags, fresh_flags}
use Rattle.dz_zone.proofs.FlagLemmas.{left_filter}
use Rattle.std.proofs.lemmas.List.{length-set, length-map}
use Rattle.dz_zone.specs.inner.Overlay.{Flagged, fallen, left_of, overlaid, placed, items, has_tie, untied, IsOverlay}
use Rattle.dz_zone.proofs.OverlayLemmas.{left_set, left_none, left_base, base_none, joins, any_overlaid, or_none}
use Rattle.dz_zone.proofs.OverlayLemmas.{or_true}
use Rattle.dz_zone.proofs.Ties.{tie_there, tie_without, placed_insertion}

-- base and keys, what is left of them, and a record
module _ (base : List (Flagged Record)) (keys zone : List Record)
    (v : overlaid record_order keys (left_of base) ≡ zone) (r : Record) (h : IsOverlay record_order base keys) where
  abbrev all : List Record
  all = overlaid record_order keys (left_of base)

  abbrev pub Removed : Bool → List (Flagged Record) → List Record → Type 0
  Removed there b k =
      IsOverlay record_order b k × (there ≡ is_there r zone) × (overlaid record_order k (left_of b) ≡ without r zone)

  told : (there : Bool) (b : List (Flagged Record)) (k : List Record) → IsOverlay record_order b k
      × (there ≡ has_tie record_order r all) × (overlaid record_order k (left_of b) ≡ untied record_order r all)
      → Removed there b k
  told there b k t = (
    t.0,
    t.1 ∙ (sym (tie_there r all) ∙ ap (is_there r) v),
    t.2 ∙ (sym (tie_without r all) ∙ ap (without r) v),
  )

  pub removed_set : (there : Bool) (left : List Record) → left ≡ remove_key (is_at (record_order r)) keys
      → there ≡ has_tie record_order r keys → there ≡ true → Removed true base left
  removed_set there left e t u =
      told true base left (left_set record_order record_total base keys r h left e (sym t ∙ u))

  pub removed_none : (there : Bool) (left : List Record) → left ≡ remove_key (is_at (record_order r)) keys
      → there ≡ has_tie record_order r keys → there ≡ false → has_tie record_order r (items base) ≡ false
      → Removed false base left
  removed_none there left e t u n =
      told false base left (left_none record_order record_total base keys r h left e (sym t ∙ u)
      (base_none record_order record_total base keys r h n))

  pub removed_base : (there : Bool) (left : List Record) (i : ℕ) (b : Flagged Record) (now : List (Flagged Record))
      → left ≡ remove_key (is_at (record_order r)) keys → there ≡ has_tie record_order r keys → there ≡ false
      → i < length base → b ≡ get_or base i b → is_eq (record_order r b.item) ≡ true → now ≡ set base i (fallen b)
      → Removed b.stands now left
  removed_base there left i b now e t u l g m f =
      told b.stands now left (left_base record_order record_total base keys r h left i b now e (sym t ∙ u) l g m f)

  -- the base has it
  pub stands_there : (b : Bool) → b ≡ is_there r (left_of base) → b ≡ true → false ≡ not (is_there r zone)
  stands_there b e t =
      let g = sym (tie_there r (left_of base)) ∙ (sym e ∙ t) in
      let w : is_there r zone ≡ true =
      ap (is_there r) (sym v) ∙ (tie_there r all ∙ (any_overlaid record_order record_total (λ s. is_eq
      (record_order r s)) keys (left_of base) ∙ or_true record_order record_total (has_tie record_order r keys)
      (has_tie record_order r (left_of base)) (sym (tie_there r (left_of base)) ∙ (sym e ∙ t)))) in
      ap not (sym w)

  pub record Inserted {E : Type 0} (result : Result Bool E) (new : List Record) : Type 0 where
    pub overlay : IsOverlay record_order base new
    pub added : IfOk result (λ b. b ≡ not (is_there r zone))
    pub joined : IfOk result (λ b. OnTrue b (overlaid record_order new (left_of base) ≡ insertion r zone))
    pub kept : IfOk result (λ b. OnFalse b (overlaid record_order new (left_of base) ≡ zone))
    pub unchanged : OnErr result (overlaid record_order new (left_of base) ≡ zone)

  as_was : (new : List Record) → new ≡ keys → IsOverlay record_order base new
  as_was new e = subst (IsOverlay record_order base) (sym e) h

  stays : (new : List Record) → new ≡ keys → overlaid record_order new (left_of base) ≡ zone
  stays new e = ap (λ k. overlaid record_order k (left_of base)) e ∙ v

  module _ (there : Bool) (e : there ≡ is_there r (left_of base)) (f : there ≡ false) where
    none : has_tie record_order r (left_of base) ≡ false
    none = sym (tie_there r (left_of base)) ∙ (sym e ∙ f)

    -- the base hasn't it, so the set decides
    pub inserted_is : (b : Bool) → b ≡ not (has_tie record_order r keys) → b ≡ not (is_there r zone)
    inserted_is b q =
        q ∙ ap not (sym (ap (is_there r) (sym v)
        ∙ (tie_there r all ∙ (any_overlaid record_order record_total (λ s. is_eq (record_order r s)) keys
        (left_of base) ∙ rw none (or_none record_order record_total (has_tie record_order r keys))))))

    pub inserted : {E : Type 0} (result : Result Bool E) (new : List Record)
        → IfOk result (λ b. b ≡ not (has_tie record_order r keys)) → OnOk result (new ≡ insert_key record_order keys r)
        → OnOk result (IsStrictlySortedBy record_order new) → IfOk result (λ b. OnFalse b (new ≡ keys))
        → OnErr result (new ≡ keys) → Inserted result new
    inserted (Ok true) new q i s k n =
        let w = joins record_order record_total base keys r h new i s
        (not-true (has_tie record_order r keys) (sym q)) none in
        record {
          overlay = w.0;
          added = inserted_is true q;
          joined = w.1 ∙ (ap (placed record_order r) v ∙ placed_insertion r zone);
          kept = tt;
          unchanged = tt;
        }
    inserted (Ok false) new q i s k n =
        record { overlay = as_was new k; added = inserted_is false q; joined = tt; kept = stays new k; unchanged = tt }
    inserted (Err e) new q i s k n =
        record { overlay = as_was new n; added = tt; joined = tt; kept = tt; unchanged = stays new n }

-- how many are left in a set, and how many once one has joined
length_remove : (test : Record → Bool) (keys : List Record) → length (remove_key test keys) ≤ length keys
length_remove test [] = omega arith
length_remove test (k ∷ keys) =
    let rest = length_remove test keys in
    elim (cases_Bool (test k)) [
      | inl t ↦ rw t (omega arith)
      | inr f ↦ rw f (omega (arith, rest))
    ]

pub length_insert : (keys : List Record) (r : Record) → length (insert_key record_order keys r) ≤ length keys + 1
length_insert [] r = omega arith
length_insert (k ∷ keys) r =
    let rest = length_insert keys r in
    (elim (record_order r k) as (λ v. length
    (match_ordering v (r ∷ k ∷ keys) (k ∷ keys) (k ∷ insert_key record_order keys r)) ≤ length (k ∷ keys) + 1) [
      | Less ↦ omega arith
      | Equal ↦ omega arith
      | Greater ↦ omega (arith, rest)
    ])

-- a version's records, flags and added records, and a record
module _ (zone : Zone) (flags : List Bool) (keys : List Record) (h : IsRevising zone flags keys) (r : Record) where
  abbrev pub now : List Record
  now = revised_of zone.records flags keys

  -- what a removal makes of them
  pub record Left (there : Bool) (f : List Bool) (k : List Record) : Type 0 where
    pub kept : IsRevising zone f k
    pub told : there ≡ is_there r now
    pub left : revised_of zone.records f k ≡ without r now

  short : (k : List Record) → k ≡ remove_key (is_at (record_order r)) keys → ZONE_RECORDS + length k ≤ OWNERS
  short k e = let l = length_remove (is_at (record_order r)) keys in let m = h.few in rw e (omega (arith, l, m))

  pub left_added : (there : Bool) (k : List Record) → k ≡ remove_key (is_at (record_order r)) keys
      → there ≡ has_tie record_order r keys → there ≡ true → Left true flags k
  left_added there k e t u =
      let w = removed_set (flags_of zone.records flags) keys now refl r h.overlay there k e t u in
      record {
        kept = record { valid = h.valid; long = h.long; few = short k e; overlay = w.0 };
        told = w.1;
        left = w.2;
      }

  pub left_missing : (there : Bool) (k : List Record) → k ≡ remove_key (is_at (record_order r)) keys
      → there ≡ has_tie record_order r keys → there ≡ false → has_tie record_order r zone.records ≡ false
      → Left false flags k
  left_missing there k e t u n =
      let w = removed_none (flags_of zone.records flags) keys now refl r h.overlay there k e t u
      (rw (items_flags zone.records flags h.long) n) in
      record {
        kept = record { valid = h.valid; long = h.long; few = short k e; overlay = w.0 };
        told = w.1;
        left = w.2;
      }

  pub left_held : (there : Bool) (k : List Record) (i : ℕ) → k ≡ remove_key (is_at (record_order r)) keys
      → there ≡ has_tie record_order r keys → there ≡ false
      → i < length zone.records → ((d : Record) → is_eq (record_order r (get_or zone.records i d)) ≡ true)
      → Left (get_or flags i false) (set flags i false) k
  left_held there k i e t u l g =
      let b = flag_at zone.records flags i r false in
      let long = length_flags zone.records flags h.long in
      let w = removed_base (flags_of zone.records flags) keys now refl r h.overlay there k i b
      (flags_of zone.records (set flags i false)) e t u (omega (arith, long, l))
      (at_flags zone.records flags i r false b h.long l) (g r) (set_flags zone.records flags i r false h.long l) in
      record {
        kept = record {
          valid = h.valid;
          long = length-set flags i false ∙ h.long;
          few = short k e;
          overlay = w.0;
        };
        told = w.1;
        left = w.2;
      }

  -- what an insertion makes of them
  pub record Joined {E : Type 0} (result : Result Bool E) (k : List Record) : Type 0 where
    pub kept : IsRevising zone flags k
    pub added : IfOk result (λ b. b ≡ not (is_there r now))
    pub joined : IfOk result (λ b. OnTrue b (revised_of zone.records flags k ≡ insertion r now))

  module _ (there : Bool) (e : there ≡ is_there r (left_of (flags_of zone.records flags))) (f : there ≡ false)
      (room : ZONE_RECORDS + length keys < OWNERS) where
    roomy : {E : Type 0} (result : Result Bool E) (k : List Record) → OnOk result (k ≡ insert_key record_order keys r)
        → OnErr result (k ≡ keys) → ZONE_RECORDS + length k ≤ OWNERS
    roomy (Ok b) k i n = let l = length_insert keys r in rw i (omega (arith, l, room))
    roomy (Err x) k i n = rw n (omega (arith, room))

    pub joined_is : {E : Type 0} (result : Result Bool E) (k : List Record)
        → IfOk result (λ b. b ≡ not (has_tie record_order r keys)) → OnOk result (k ≡ insert_key record_order keys r)
        → OnOk result (IsStrictlySortedBy record_order k) → IfOk result (λ b. OnFalse b (k ≡ keys))
        → OnErr result (k ≡ keys) → Joined result k
    joined_is result k q i s m n =
        let w = inserted (flags_of zone.records flags) keys now refl r h.overlay there e f result k q i s m n in
        record {
          kept = record { valid = h.valid; long = h.long; few = roomy result k i n; overlay = w.overlay };
          added = w.added;
          joined = w.joined;
        }

  pub already : (there : Bool) → there ≡ is_there r (left_of (flags_of zone.records flags)) → there ≡ true
      → false ≡ not (is_there r now)
  already there e t = stands_there (flags_of zone.records flags) keys now refl r h.overlay there e t

-- the version with what is left
pub revised_left : (self : Revised) (zone : Zone) (before after : List Record) (r : Record)
    → record { base = zone; records = before } ≡ self → after ≡ without r before
    → record { base = zone; records = after } ≡ with_records self (without r self.records)
revised_left self zone before after r v e =
    subst (λ s. record { base = zone; records = after } ≡ with_records s (without r s.records)) v
    (ap (λ l. record { base = zone; records = l }) e)

-- the version with what has joined
pub revised_joined : {E : Type 0} (self : Revised) (zone : Zone) (before after : List Record)
    (r : Record) (result : Result Bool E) → record { base = zone; records = before } ≡ self
    → IfOk result (λ b. OnTrue b (after ≡ insertion r before))
    → IfOk result
    (λ b. OnTrue b (record { base = zone; records = after } ≡ with_records self (insertion r self.records)))
revised_joined self zone before after r (Ok true) v e =
    subst (λ s. record { base = zone; records = after } ≡ with_records s (insertion r s.records)) v
    (ap (λ l. record { base = zone; records = l }) e)
revised_joined self zone before after r (Ok false) v e = tt
revised_joined self zone before after r (Err x) v e = tt

pub added_told : {E : Type 0} (self : Revised) (zone : Zone) (before : List Record)
    (r : Record) (result : Result Bool E) → record { base = zone; records = before } ≡ self
    → IfOk result (λ b. b ≡ not (is_there r before)) → IfOk result (λ b. b ≡ not (is_there r self.records))
added_told self zone before r (Ok b) v e = subst (λ s. b ≡ not (is_there r s.records)) v e
added_told self zone before r (Err x) v e = tt

-- before the first change
pub revising_fresh : (zone : Zone) (flags : List Bool) (keys : List Record) → IsValid zone
    → flags ≡ map (λ r. not (at_apex TYPE_SOA zone.apex r)) zone.records → keys ≡ [] → IsRevising zone flags keys
revising_fresh zone flags keys v e n =
    let long : length flags ≡ length zone.records =
    ap length e ∙ length-map zone.records (λ r. not (at_apex TYPE_SOA zone.apex r)) in
    record {
      valid = v;
      long = long;
      few = rw n (omega arith);
      overlay = fresh_flags record_order zone.records flags keys v.rises long n;
    }

pub revised_fresh : (zone : Zone) (flags : List Bool) (keys : List Record)
    → flags ≡ map (λ r. not (at_apex TYPE_SOA zone.apex r)) zone.records → keys ≡ []
    → record { base = zone; records = revised_of zone.records flags keys } ≡ unchanged zone
unfolding overlaid
revised_fresh zone flags keys e n = rw (e, n) (ap (λ l. record { base = zone; records = l })
    (left_filter (λ r. not (at_apex TYPE_SOA zone.apex r)) zone.records))
