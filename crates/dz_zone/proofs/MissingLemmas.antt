-- The records that two versions don't have in common.
use Rattle.std.proofs.Common.{◌≡◌, ℕ, ◌+◌, ◌<◌, ◌≤◌, Bool, false, List, [], ◌∷◌, ◌++◌, length, drop, refl}
use Rattle.std.proofs.Common.{sym, ◌∙◌, ap, subst, arith, append_assoc, length-append, Some, None, Ordering, Less, Equal}
use Rattle.std.proofs.Common.{Greater}
use Rattle.std.specs.Prelude.{filter}
use Rattle.std.specs.List.{AllByRecursion}
use Rattle.std.specs.List.Sorted.{IsStrictlySortedBy}
use Rattle.std.specs.Option.{option_to_list}
use Rattle.std.specs.Ordering.{match_ordering, ordering_then, nat_cmp}
use Rattle.std.specs.Cmp.{IsTotalOrder, on_total, nat_cmp_total, tied_itself, tied_back}
use Rattle.std.specs.FinMap.{nat_cmp-IsAntisymmetric, slice_cmp-IsAntisymmetric}
use Rattle.std.specs.Cmp.Lexicographic.{slice_cmp}
use Rattle.std.proofs.lemmas.Cmp.{then_total}
use Rattle.std.proofs.lemmas.List.{drop_at}
use Rattle.dz_name.specs.Numbers.{number_of_two}
use Rattle.dz_name.proofs.NumberLemmas.{number-two}
use Rattle.dz_record.specs.inner.Kept.{record_in}
use Rattle.dz_name.proofs.KeptLemmas.{labels_in-wire_of, labels_le}
use Rattle.dz_name.specs.Name.{wire_of, labels_in, canonical_order}
use Rattle.dz_name.specs.Order.{canonical_same}
use Rattle.dz_record.proofs.KeptLemmas.{record_back}
use Rattle.dz_record.specs.Order.{record_total}
use Rattle.dz_record.specs.Record.{Record, IsRecord, record_order, full_order, record_octets, octets_behind_owner}
use Rattle.dz_zone.specs.Apart.{missing_in}
use Rattle.dz_zone.specs.inner.Step.{Step, first_step, step_gone, step_come, step_same}
use Rattle.dz_zone.proofs.Ordered.{each_more}
use Rattle.dz_zone.proofs.ApartLemmas.{greater_back, first_lacked, first_apart, both_first, before_first}
use Rattle.dz_zone.proofs.ApartLemmas.{alike_where}
use Rattle.std.proofs.lemmas.Map.Keys.{sorted_head, sorted_tail}

pub full_total : IsTotalOrder full_order
full_total = then_total record_total (on_total (λ (r : Record). r.ttl) nat_cmp_total)

-- ---- the octets of a record tell it
owner_told : (r : Record) (n : ℕ) → IsRecord r → length (wire_of r.owner) ≤ n
    → labels_in n (record_octets r) ≡ r.owner
owner_told r n is few =
    labels_in-wire_of r.owner n (octets_behind_owner r) is.owner.each (omega (arith, labels_le r.owner))

kind_told : (r : Record) → IsRecord r → number_of_two (octets_behind_owner r) ≡ r.kind
kind_told r is = number-two r.kind _ is.number

behind_told : (r : Record) (n : ℕ) → n ≡ length (wire_of r.owner) → drop n (record_octets r) ≡ octets_behind_owner r
behind_told r n e = drop_at (wire_of r.owner) (octets_behind_owner r) n (sym e)

octets_tell : (a b : Record) → IsRecord a → IsRecord b → record_octets a ≡ record_octets b → a ≡ b
octets_tell a b ra rb e =
    let n = length (wire_of a.owner) + length (wire_of b.owner) in
    let owner : a.owner ≡ b.owner =
    sym (owner_told a n ra (omega arith)) ∙ (ap (labels_in n) e ∙ owner_told b n rb (omega arith)) in
    let size : length (wire_of a.owner) ≡ length (wire_of b.owner) = ap (λ o. length (wire_of o)) owner in
    let kind : a.kind ≡ b.kind =
    sym (kind_told a ra)
    ∙ (ap number_of_two (sym (behind_told a (length (wire_of a.owner)) refl)
    ∙ (ap (drop (length (wire_of a.owner))) e ∙ behind_told b (length (wire_of a.owner)) size)) ∙ kind_told b rb) in
    let one = record_back a (record_octets a) (length (wire_of a.owner)) ra refl refl in
    let two = record_back b (record_octets b) (length (wire_of b.owner)) rb refl refl in
    let middle : record_in (record_octets a) (length (wire_of a.owner)) a.kind
    ≡ record_in (record_octets b) (length (wire_of b.owner)) b.kind =
    λ i. record_in (e i) (size i) (kind i) in
    sym one ∙ (middle ∙ two)

pub octets_level : (a b : Record) (xs ys : List ℕ) → IsRecord a → IsRecord b → xs ≡ record_octets a
    → ys ≡ record_octets b → xs ≡ ys → Equal ≡ full_order a b
octets_level a b xs ys ra rb x y e =
    let same = octets_tell a b ra rb (sym x ∙ (e ∙ y)) in
    sym (subst (λ r. full_order a r ≡ Equal) same (tied_itself full_total a))

-- ---- records that compare equal are one
then_parts : (o p : Ordering) → ordering_then o p ≡ Equal → (o ≡ Equal) × (p ≡ Equal)
then_parts Less p e = absurd (cc)
then_parts Equal p e = (refl, e)
then_parts Greater p e = absurd (cc)

pub level_same : (a b : Record) → full_order a b ≡ Equal → a ≡ b
level_same a b e =
    let whole = then_parts (record_order a b) (nat_cmp a.ttl b.ttl) e in
    let most = then_parts (ordering_then (canonical_order a.owner b.owner) (nat_cmp a.kind b.kind))
    (slice_cmp nat_cmp a.rdata b.rdata) whole.0 in
    let first = then_parts (canonical_order a.owner b.owner) (nat_cmp a.kind b.kind) most.0 in
    let owner = canonical_same a.owner b.owner first.0 in
    let kind = nat_cmp-IsAntisymmetric a.kind b.kind first.1 in
    let rdata = slice_cmp-IsAntisymmetric nat_cmp-IsAntisymmetric a.rdata b.rdata most.1 in
    let ttl = nat_cmp-IsAntisymmetric a.ttl b.ttl whole.1 in
    λ i. record { owner = owner i; kind = kind i; ttl = ttl i; rdata = rdata i }

-- ---- records in order are in the order that tells TTLs apart, too
pub full_rises : (rs : List Record) → IsStrictlySortedBy record_order rs → IsStrictlySortedBy full_order rs
unfolding IsStrictlySortedBy
full_rises [] h = tt
full_rises (r ∷ rs) h = (
  each_more (λ s. record_order r s ≡ Less) (λ s. full_order r s ≡ Less) (λ s e. rw e refl) rs h.0,
  full_rises rs h.1,
)

-- where a test fails on all records that versions don't have in common, it keeps the same records of both
pub kept_where : (p : Record → Bool) (before after : List Record) → IsStrictlySortedBy record_order before
    → IsStrictlySortedBy record_order after → AllByRecursion (λ r. p r ≡ false) (missing_in after before)
    → AllByRecursion (λ r. p r ≡ false) (missing_in before after) → filter p before ≡ filter p after
kept_where p before after up vp gone come =
    alike_where full_order full_total level_same p (length before + length after) before after (omega arith)
    (full_rises before up) (full_rises after vp) gone come

-- ---- the pass
-- what a step leaves of two lists that rise
pub record Goes (before after : List Record) (s : Step) : Type 0 where
  pub before_rises : IsStrictlySortedBy full_order s.before
  pub after_rises : IsStrictlySortedBy full_order s.after
  pub less : length s.before + length s.after < length before + length after
  pub gone : missing_in after before ≡ option_to_list s.gone ++ missing_in s.after s.before
  pub come : missing_in before after ≡ option_to_list s.come ++ missing_in s.before s.after

none_rise : IsStrictlySortedBy full_order []
unfolding IsStrictlySortedBy
none_rise = tt

goes_by : (r : Record) (rs : List Record) (s : Record) (ss : List Record) → IsStrictlySortedBy full_order (r ∷ rs)
    → IsStrictlySortedBy full_order (s ∷ ss)
    → Goes (r ∷ rs) (s ∷ ss)
    (match_ordering (full_order r s) (step_gone r rs (s ∷ ss)) (step_same rs ss) (step_come s (r ∷ rs) ss))
goes_by r rs s ss up vp =
    (elim (full_order r s) as (λ v. full_order r s ≡ v → Goes (r ∷ rs) (s ∷ ss)
    (match_ordering v (step_gone r rs (s ∷ ss)) (step_same rs ss) (step_come s (r ∷ rs) ss))) [
      | Less ↦ λ e.
          let all = before_first full_order full_total r s ss e vp in
          record {
            before_rises = sorted_tail full_order r rs up;
            after_rises = vp;
            less = omega arith;
            gone = first_lacked full_order full_total r rs (s ∷ ss) all;
            come = first_apart full_order full_total r rs (s ∷ ss) all;
          }
      | Equal ↦ λ e.
          record {
            before_rises = sorted_tail full_order r rs up;
            after_rises = sorted_tail full_order s ss vp;
            less = omega arith;
            gone = both_first full_order full_total r s rs ss e (sorted_head full_order r rs up);
            come = both_first full_order full_total s r ss rs (tied_back full_total r s e)
                (sorted_head full_order s ss vp);
          }
      | Greater ↦ λ e.
          let all = before_first full_order full_total s r rs (greater_back full_order full_total r s e) up in
          record {
            before_rises = up;
            after_rises = sorted_tail full_order s ss vp;
            less = omega arith;
            gone = first_apart full_order full_total s ss (r ∷ rs) all;
            come = first_lacked full_order full_total s ss (r ∷ rs) all;
          }
    ]) refl

pub goes : (before after : List Record) (s : Step) → IsStrictlySortedBy full_order before
    → IsStrictlySortedBy full_order after → first_step before after ≡ Some s → Goes before after s
goes [] [] s up vp e = absurd (cc)
goes (r ∷ rs) [] s up vp e =
    let is : step_gone r rs [] ≡ s = cc in
    subst (Goes (r ∷ rs) []) is record {
      before_rises = sorted_tail full_order r rs up;
      after_rises = vp;
      less = omega arith;
      gone = refl;
      come = refl;
    }
goes [] (t ∷ ts) s up vp e =
    let is : step_come t [] ts ≡ s = cc in
    subst (Goes [] (t ∷ ts)) is record {
      before_rises = up;
      after_rises = sorted_tail full_order t ts vp;
      less = omega arith;
      gone = refl;
      come = refl;
    }
goes (r ∷ rs) (t ∷ ts) s up vp e =
    let is : match_ordering (full_order r t) (step_gone r rs (t ∷ ts)) (step_same rs ts) (step_come t (r ∷ rs) ts)
    ≡ s = cc in
    subst (Goes (r ∷ rs) (t ∷ ts)) is (goes_by r rs t ts up vp)

-- and no step where nothing is left
pub no_step : (before after : List Record) → first_step before after ≡ None → (before ≡ []) × (after ≡ [])
no_step [] [] e = (refl, refl)
no_step (r ∷ rs) [] e = absurd (cc)
no_step [] (s ∷ ss) e = absurd (cc)
no_step (r ∷ rs) (s ∷ ss) e = absurd (cc)

-- what is put after the others goes on
pub told_on : (told all more lacked rest : List Record) → told ++ lacked ≡ all → lacked ≡ more ++ rest
    → (told ++ more) ++ rest ≡ all
told_on told all more lacked rest e f = append_assoc told more rest ∙ (ap (λ l. told ++ l) (sym f) ∙ e)

-- more are told than a bound, so more are there
pub over_from : (n : ℕ) (gone come gone_rest come_rest all_gone all_come : List Record) → n < length gone + length come
    → gone ++ gone_rest ≡ all_gone → come ++ come_rest ≡ all_come → n < length all_gone + length all_come
over_from n gone come gone_rest come_rest all_gone all_come h e f =
    omega (arith, ap length e, ap length f, length-append gone gone_rest, length-append come come_rest)
