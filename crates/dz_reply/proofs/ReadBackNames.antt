-- Names of a reply read back: the question's name in the letters of its request, and owners that point into it.
use Rattle.std.proofs.Common.{inl, inr, ◌≡◌, ℕ, zero, suc, ◌+◌, ◌-◌, ◌/◌, ◌%◌, ◌<◌, ◌≤◌, true, List, [], ◌∷◌, ◌++◌}
use Rattle.std.proofs.Common.{length, drop, refl, sym, ◌∙◌, ap, subst, arith, append_assoc, length-append, Ok}
use Rattle.std.specs.Prelude.{map, slice_index}
use Rattle.std.specs.List.{AllByRecursion}
use Rattle.std.proofs.lemmas.List.{drop_at, drop-map}
use Rattle.std.proofs.lemmas.Bool.{cases_Bool}
use Rattle.dz_name.specs.Name.{lower, wire_of, is_within, IsLabel}
use Rattle.dz_name.specs.Numbers.{two}
use Rattle.dz_name.specs.Reading.{Reads, at_root, at_label, at_pointer, label_end, label_at, target_at}
use Rattle.dz_name.proofs.KeptLemmas.{wire_some}
use Rattle.dz_name.proofs.NumberLemmas.{length_two}
use Rattle.dz_name.proofs.PartLemmas.{within_suffix, wire_drop_le}
use Rattle.dz_header.proofs.PlaceLemmas.{length_there, drop_there, index_there, range_there}
use Rattle.dz_reply.specs.Layout.{owner_octets}
use Rattle.dz_header.proofs.QuestionLemmas.{IsRaw, reads_raw, length_wire_lower}

-- the wire form of what follows some labels is the end of the wire form
pub suffix_there : (m : List ℕ) (k : ℕ) (raws : List (List ℕ)) (more : List ℕ) (at : ℕ)
    → drop at m ≡ wire_of raws ++ more
    → drop (at + (length (wire_of raws) - length (wire_of (drop k raws)))) m ≡ wire_of (drop k raws) ++ more
unfolding wire_of
suffix_there m zero raws more at is =
    let z : at + (length (wire_of raws) - length (wire_of raws)) ≡ at = omega arith in rw z is
suffix_there m (suc k) [] more at is = let z : at + (1 - 1) ≡ at = omega arith in rw z is
suffix_there m (suc k) (label ∷ labels) more at is =
    let split : drop at m ≡ (length label ∷ label) ++ (wire_of labels ++ more) =
    is ∙ ap (λ xs. length label ∷ xs) (append_assoc label (wire_of labels) more) in
    let next : drop (at + (length label + 1)) m ≡ wire_of labels ++ more =
    drop_there m at (length label + 1) (length label ∷ label) (wire_of labels ++ more) split (omega arith) in
    let rest = suffix_there m k labels more (at + (length label + 1)) next in
    let le = wire_drop_le k labels in
    let e : at + (length label + 1) + (length (wire_of labels) - length (wire_of (drop k labels)))
    ≡ at + (suc (length (label ++ wire_of labels)) - length (wire_of (drop k labels))) =
    omega (arith, length-append label (wire_of labels), le) in
    rw e at rest

-- each label after the first ones is one of the request
each_raw_drop : (k : ℕ) (raws : List (List ℕ)) → AllByRecursion IsRaw raws → AllByRecursion IsRaw (drop k raws)
each_raw_drop zero raws each = each
each_raw_drop (suc k) [] each = tt
each_raw_drop (suc k) (raw ∷ raws) each = each_raw_drop k raws each.1

-- a question's name follows the header of a message, in the letters of its request
pub record StandsAsked (m : List ℕ) (name : List (List ℕ)) (end : ℕ) : Type 0 where
  pub raws : List (List ℕ)
  pub more : List ℕ
  pub there : drop 12 m ≡ wire_of raws ++ more
  pub name_is : name ≡ map lower raws
  pub each : AllByRecursion IsRaw raws
  pub short : length (wire_of raws) ≤ 255
  pub end_is : end ≡ 12 + length (wire_of raws)

-- where a pointer to a suffix of the question's name leads, that suffix is read
suffix_reads : (m : List ℕ) (name : List (List ℕ)) (end : ℕ) → StandsAsked m name end
    → (suffix : List (List ℕ)) (target used : ℕ) → is_within name suffix ≡ true → used + length (wire_of suffix) ≤ 255
    → target ≡ 12 + (length (wire_of name) - length (wire_of suffix))
    → Reads m target used target (Ok (suffix, target + length (wire_of suffix)))
suffix_reads m name end stands suffix target used within fits is =
    let front = (within_suffix name suffix).0 within in
    let k : ℕ = length front.0 in
    let cut : drop k name ≡ suffix = ap (drop k) front.1 ∙ drop_at front.0 suffix k refl in
    let low : map lower (drop k stands.raws) ≡ suffix =
    sym (drop-map lower k stands.raws) ∙ ap (drop k) (sym stands.name_is) ∙ cut in
    let wire : length (wire_of (drop k stands.raws)) ≡ length (wire_of suffix) =
    sym (length_wire_lower (drop k stands.raws)) ∙ ap (λ ls. length (wire_of ls)) low in
    let whole : length (wire_of name) ≡ length (wire_of stands.raws) =
    ap (λ ls. length (wire_of ls)) stands.name_is ∙ length_wire_lower stands.raws in
    let e : 12 + (length (wire_of stands.raws) - length (wire_of (drop k stands.raws))) ≡ target = omega (arith, is) in
    let there : drop target m ≡ wire_of (drop k stands.raws) ++ stands.more =
    rw e at (suffix_there m k stands.raws stands.more 12 stands.there) in
    let reads = reads_raw m (drop k stands.raws) stands.more target used target
    (each_raw_drop k stands.raws stands.each) (omega (arith, wire)) there in
    rw (low, wire) at reads

-- two octets of a pointer
pointer_parts : (n : ℕ) (more : List ℕ) → n < 16384 → two (49152 + n) ++ more ≡ (192 + n / 256) ∷ ((n % 256) ∷ more)
unfolding two
pointer_parts n more h =
    let high : (49152 + n) / 256 % 256 ≡ 192 + n / 256 = omega arith in
    let low : (49152 + n) % 256 ≡ n % 256 = omega arith in
    cc

-- an owner after the question reads as the owner
pub owner_reads : (m : List ℕ) (name : List (List ℕ)) (end : ℕ) → StandsAsked m name end
    → (labels : List (List ℕ)) (more : List ℕ) (piece used at : ℕ) → AllByRecursion IsLabel labels
    → used + length (wire_of labels) ≤ 255 → end ≤ piece → drop at m ≡ owner_octets name labels ++ more
    → Reads m piece used at (Ok (labels, at + length (owner_octets name labels)))
unfolding owner_octets wire_of
owner_reads m name end stands [] more piece used at each fits behind is =
    at_root (omega (arith, length_there m at (0 ∷ []) more is)) (index_there m at 0 more is)
owner_reads m name end stands (label ∷ labels) more piece used at each fits behind is =
    elim (cases_Bool (is_within name (label ∷ labels))) [
      | inl within ↦
          let n : ℕ = 12 + (length (wire_of name) - length (wire_of (label ∷ labels))) in
          let whole : length (wire_of name) ≡ length (wire_of stands.raws) =
          ap (λ ls. length (wire_of ls)) stands.name_is ∙ length_wire_lower stands.raws in
          let some : 0 < length (wire_of (label ∷ labels)) = wire_some (label ∷ labels) in
          let small : n < 16384 = omega (arith, whole, stands.short) in
          let points : drop at m ≡ (192 + n / 256) ∷ ((n % 256) ∷ more) =
          (rw within at is) ∙ pointer_parts n more small in
          let size : length m - at ≡ 2 + length more =
          length_there m at ((192 + n / 256) ∷ (n % 256) ∷ []) more points in
          let high : slice_index m at ≡ 192 + n / 256 = index_there m at (192 + n / 256) ((n % 256) ∷ more) points in
          let low : slice_index m (at + 1) ≡ n % 256 = index_there m (at + 1) (n % 256) more
          (drop_there m at 1 ((192 + n / 256) ∷ []) ((n % 256) ∷ more) points refl) in
          let target : n ≡ target_at m at = omega (arith, high, low) in
          let strictly : target_at m at < piece =
          omega (arith, target, whole, some, stands.end_is, wire_some stands.raws) in
          let suffix = suffix_reads m name end stands (label ∷ labels) n used within fits refl in
          let led : Reads m (target_at m at) used (target_at m at)
          (Ok (label ∷ labels, n + length (wire_of (label ∷ labels)))) =
          subst (λ t. Reads m t used t (Ok (label ∷ labels, n + length (wire_of (label ∷ labels))))) target suffix in
          let read : Reads m piece used at (Ok (label ∷ labels, at + 2)) =
          at_pointer (omega arith) (omega (arith, high)) strictly led in
          rw (within, length_two) read
      | inr other ↦
          let stood : drop at m ≡ (length label ∷ (label ++ owner_octets name labels)) ++ more = rw other at is in
          let k = index_there m at (length label) ((label ++ owner_octets name labels) ++ more) stood in
          let count = length_there m at (length label ∷ (label ++ owner_octets name labels)) more stood in
          let parts = length-append label (owner_octets name labels) in
          let wires = length-append label (wire_of labels) in
          let some = wire_some labels in
          let split : drop at m ≡ (length label ∷ label) ++ (owner_octets name labels ++ more) =
          stood ∙ ap (λ xs. length label ∷ xs) (append_assoc label (owner_octets name labels) more) in
          let next : drop (label_end m at) m ≡ owner_octets name labels ++ more = drop_there m
          at (slice_index m at + 1) (length label ∷ label) (owner_octets name labels ++ more) split (omega arith) in
          let behind_first : drop (at + 1) m ≡ label ++ (owner_octets name labels ++ more) =
          drop_there m at 1 (length label ∷ []) (label ++ (owner_octets name labels ++ more)) split refl in
          let is_label : label_at m at ≡ label =
          ap lower (range_there m (at + 1) (label_end m at) label (owner_octets name labels ++ more) behind_first
          (omega arith)) ∙ each.0.lower_case in
          let rest : Reads m piece (used + (slice_index m at + 1)) (label_end m at)
          (Ok (labels, label_end m at + length (owner_octets name labels))) =
          owner_reads m name end stands labels more piece (used + (slice_index m at + 1)) (label_end m at) each.1
          (omega arith) behind next in
          let ends : label_end m at + length (owner_octets name labels)
          ≡ at + suc (length (label ++ owner_octets name labels)) = omega arith in
          let read : Reads m piece used
          at (Ok (label_at m at ∷ labels, label_end m at + length (owner_octets name labels))) =
          at_label (omega arith) (omega (arith, each.0.some)) (omega (arith, each.0.short)) (omega arith)
          (omega arith) rest in
          let named = rw (is_label, ends) at read in
          rw other named
    ]
