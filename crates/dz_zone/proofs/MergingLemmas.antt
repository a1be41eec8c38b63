-- The steps of the merge of a version under changes, as far as it has come.
use Rattle.std.proofs.Common.{◌≡◌, ℕ, suc, ◌+◌, ◌-◌, ◌<◌, ◌≤◌, Bool, true, false, List, [], ◌∷◌, ◌++◌, append_assoc}
use Rattle.std.proofs.Common.{length, length-append, take, drop, get_or, refl, sym, ◌∙◌, ap, subst, arith, is_lt}
use Rattle.std.specs.Prelude.{slice_range}
use Rattle.std.specs.List.Sorted.{IsStrictlySortedBy}
use Rattle.std.proofs.lemmas.List.{drop_more, drop-drop, drop_all, length-drop, length-take-le}
use Rattle.dz_record.specs.Order.{record_total}
use Rattle.dz_record.specs.Record.{Record, record_order}
use Rattle.dz_index.specs.Rows.{total}
use Rattle.dz_zone.specs.Version.{Zone}
use Rattle.dz_zone.specs.inner.Overlay.{Flagged, left_of, overlaid, Rises, IsOverlay, first_before}
use Rattle.dz_zone.specs.inner.Revising.{flags_of, revised_of, IsRevising, Merged, IsMerged, IsStretch, follows}
use Rattle.dz_zone.proofs.FaultLemmas.{few_records}
use Rattle.dz_zone.proofs.FlagLemmas.{length_flags}
use Rattle.dz_zone.proofs.MergeLemmas.{merge_stretch, merge_first, strict_of, length_overlaid, length_left}
use Rattle.dz_zone.proofs.MergeLemmas.{total_length, follows_next}
use Rattle.dz_zone.proofs.OverlayLemmas.{rises_overlaid, rises_kept, merge_pass, overlaid_none}

pub some_key : (keys : List Record) (bound : Record) → first_before record_order keys bound ≡ true → 0 < length keys
some_key [] bound h = absurd (cc)
some_key (k ∷ keys) bound h = omega arith

take_more : (n : ℕ) (r : Record) (rs : List Record) → take (1 + n) (r ∷ rs) ≡ r ∷ take n rs
take_more n r rs = let e : 1 + n ≡ suc n = omega arith in ap (λ k. take k (r ∷ rs)) e

-- the first of some keys and the others
pub keys_are : (keys : List Record) → 0 < length keys → (first : Record) × (rest : List Record) × (keys ≡ first ∷ rest)
keys_are [] h = absurd (omega arith)
keys_are (k ∷ keys) h = (k, keys, refl)

module _ (zone : Zone) (flags : List Bool) (added : List Record) (h : IsRevising zone flags added) where
  abbrev pub whole : List Record
  whole = revised_of zone.records flags added

  pub rises_whole : Rises record_order whole
  rises_whole =
      rises_overlaid record_order record_total added (left_of (flags_of zone.records flags)) h.overlay.added
      (rises_kept record_order record_total (flags_of zone.records flags) h.overlay.base) h.overlay.apart

  pub few_whole : length whole ≤ 750000
  few_whole =
      let few = few_records zone.apex zone.records h.valid.faultless in
      let most = h.few in
      omega (
        arith,
        few,
        most,
        length_overlaid record_order added (left_of (flags_of zone.records flags)),
        length_left (flags_of zone.records flags),
        length_flags zone.records flags h.long,
      )

  -- the records so far, the next place, and the added records that are left
  module _ (m : Merged) (place : ℕ) (keys : List Record) (made : IsMerged m)
      (overlay : IsOverlay record_order (flags_of (drop place zone.records) (drop place flags)) keys)
      (so_far : m.records ++ revised_of (drop place zone.records) (drop place flags) keys ≡ whole) where
    pub room : total m.rows + length keys ≤ 750000
    room =
        let rest = left_of (flags_of (drop place zone.records) (drop place flags)) in
        let long = ap length so_far in
        omega (
          arith,
          long,
          few_whole,
          total_length m made,
          length-append m.records (overlaid record_order keys rest),
          length_overlaid record_order keys rest,
        )

    module _ (within : place < length flags) where
      abbrev next : List (Flagged Record)
      next = flags_of (drop (place + 1) zone.records) (drop (place + 1) flags)

      abbrev here : Record → Flagged Record
      here d = record { item = get_or zone.records place d; stands = get_or flags place false }

      begins : (d : Record) → flags_of (drop place zone.records) (drop place flags) ≡ here d ∷ next
      unfolding flags_of
      begins d =
          let in_records : place < length zone.records = let l = h.long in omega (arith, within, l) in
          rw (drop_more zone.records place d in_records, drop_more flags place false within) refl

      -- the first added record comes next
      module _ (bound : Record) (is : bound ≡ get_or zone.records place bound)
          (before : first_before record_order keys bound ≡ true) where
        module _ (first : Record) (rest : List Record) (e : keys ≡ first ∷ rest) where
          step : IsOverlay record_order (here bound ∷ next) rest × (overlaid record_order (first ∷ rest)
              (left_of (here bound ∷ next)) ≡ first ∷ overlaid record_order rest (left_of (here bound ∷ next)))
          step =
              let lt : is_lt (record_order first bound) ≡ true =
              ap (λ k. first_before record_order k bound) (sym e) ∙ before in
              merge_first record_order record_total first rest (here bound) next
              (subst (λ k. IsOverlay record_order (here bound ∷ next) k) e
              (subst (λ b. IsOverlay record_order b keys) (begins bound) overlay))
              (ap (λ r. is_lt (record_order first r)) (sym is) ∙ lt)

          first_next : m.records ++ first ∷ overlaid record_order rest (left_of (here bound ∷ next)) ≡ whole
          first_next =
              ap (λ l. m.records ++ l) (sym step.1 ∙ (ap (λ k. overlaid record_order k (left_of (here bound ∷ next)))
              (sym e) ∙ ap (λ b. overlaid record_order keys (left_of b)) (sym (begins bound)))) ∙ so_far

          pub first_follows : follows m.records first
          first_follows = follows_next m.records first
              (overlaid record_order rest (left_of (here bound ∷ next))) whole first_next rises_whole

          pub first_overlay : (now : List Record) → now ≡ rest
              → IsOverlay record_order (flags_of (drop place zone.records) (drop place flags)) now
          first_overlay now n =
              subst (λ k. IsOverlay record_order (flags_of (drop place zone.records) (drop place flags)) k) (sym n)
              (subst (λ b. IsOverlay record_order b rest) (sym (begins bound)) step.0)

          pub first_whole : (now new : List Record) → now ≡ rest → new ≡ m.records ++ first ∷ []
              → new ++ revised_of (drop place zone.records) (drop place flags) now ≡ whole
          first_whole now new n w =
              ap (λ l. l ++ revised_of (drop place zone.records) (drop place flags) now) w
              ∙ (append_assoc m.records (first ∷ []) (revised_of (drop place zone.records) (drop place flags) now)
              ∙ (ap (λ k. m.records ++ first
              ∷ overlaid record_order k (left_of (flags_of (drop place zone.records) (drop place flags)))) n
              ∙ (ap (λ b. m.records ++ first ∷ overlaid record_order rest (left_of b)) (begins bound) ∙ first_next)))

      -- a record that has fallen is passed
      pub passed : get_or flags place false ≡ false
          → IsOverlay record_order next keys × (m.records ++ overlaid record_order keys (left_of next) ≡ whole)
      passed f =
          merge_pass record_order record_total (here nowhere) (flags_of (drop place zone.records) (drop place flags))
          next m.records keys whole (begins nowhere) f overlay so_far where
            nowhere : Record
            nowhere = record { owner = []; kind = 0; ttl = 0; rdata = [] }

    -- a stretch is taken over
    module _ (end : ℕ) (some : place < end) (within : end ≤ length zone.records)
        (stretch : IsStretch (drop place zone.records) (drop place flags) keys (end - place)) where
      over : IsOverlay record_order
          (flags_of (drop (end - place) (drop place zone.records)) (drop (end - place) (drop place flags))) keys
          × ((m.records ++ take (end - place) (drop place zone.records)) ++ overlaid record_order keys (left_of
          (flags_of (drop (end - place) (drop place zone.records)) (drop (end - place) (drop place flags))))
          ≡ whole)
      over =
          let l = h.long in
          merge_stretch record_order record_total (end - place) (drop place zone.records)
          (drop place flags) m.records keys whole
          (omega (arith, within, length-drop place zone.records))
          (omega (arith, l, length-drop place zone.records, length-drop place flags)) stretch.stand stretch.ahead
          overlay so_far

      rest_records : drop (end - place) (drop place zone.records) ≡ drop end zone.records
      rest_records =
          let e : place + (end - place) ≡ end = omega (arith, some) in
          drop-drop (end - place) place zone.records ∙ ap (λ n. drop n zone.records) e

      rest_flags : drop (end - place) (drop place flags) ≡ drop end flags
      rest_flags =
          let e : place + (end - place) ≡ end = omega (arith, some) in
          drop-drop (end - place) place flags ∙ ap (λ n. drop n flags) e

      pub over_overlay : IsOverlay record_order (flags_of (drop end zone.records) (drop end flags)) keys
      over_overlay = rw (rest_records, rest_flags) at over.0

      pub over_whole : (new : List Record) → new ≡ m.records ++ slice_range zone.records place end
          → new ++ revised_of (drop end zone.records) (drop end flags) keys ≡ whole
      over_whole new e = rw e (rw (rest_records, rest_flags) at over.1)

      pub over_room : total m.rows + (end - place) ≤ 750000
      over_room =
          let rest = overlaid record_order keys (left_of
          (flags_of (drop (end - place) (drop place zone.records)) (drop (end - place) (drop place flags)))) in
          let part = take (end - place) (drop place zone.records) in
          let long = ap length over.1 in
          omega (
            arith,
            long,
            few_whole,
            total_length m made,
            length-append (m.records ++ part) rest,
            length-append m.records part,
            length-take-le (end - place) (drop place zone.records)
                (omega (arith, within, length-drop place zone.records)),
          )

      pub over_follows : (d : Record) → follows m.records (get_or zone.records place d)
      over_follows d =
          let rest = overlaid record_order keys (left_of
          (flags_of (drop (end - place) (drop place zone.records)) (drop (end - place) (drop place flags)))) in
          let in_records : place < length zone.records = omega (arith, some, within) in
          let n : end - place ≡ 1 + (end - place - 1) = omega (arith, some) in
          let part : take (end - place) (drop place zone.records)
          ≡ get_or zone.records place d ∷ take (end - place - 1) (drop (place + 1) zone.records) =
          ap (λ k. take k (drop place zone.records)) n
          ∙ (ap (take (1 + (end - place - 1))) (drop_more zone.records place d in_records)
          ∙ take_more (end - place - 1) (get_or zone.records place d) (drop (place + 1) zone.records)) in
          follows_next m.records (get_or zone.records place d)
          (take (end - place - 1) (drop (place + 1) zone.records) ++ rest) whole
          (sym (append_assoc m.records
          (get_or zone.records place d ∷ take (end - place - 1) (drop (place + 1) zone.records)) rest)
          ∙ (ap (λ l. (m.records ++ l) ++ rest) (sym part) ∙ over.1)) rises_whole

    -- nothing is left but added records
    module _ (done : length flags ≤ place) where
      pub end_whole : m.records ++ keys ≡ whole
      unfolding flags_of left_of
      end_whole =
          let l = h.long in
          let none : drop place zone.records ≡ [] = drop_all place zone.records (omega (arith, l, done)) in
          let at_end : revised_of (drop place zone.records) (drop place flags) keys
          ≡ overlaid record_order keys (left_of []) = ap (λ r. revised_of r (drop place flags) keys) none in
          ap (λ k. m.records ++ k) (sym (overlaid_none record_order record_total keys overlay.added))
          ∙ (ap (λ k. m.records ++ k) (sym at_end) ∙ so_far)

      pub end_rises : Rises record_order (m.records ++ keys)
      end_rises = subst (Rises record_order) (sym end_whole) rises_whole

  pub strict_whole : IsStrictlySortedBy record_order whole
  strict_whole = strict_of record_order record_total whole rises_whole
