-- The last owner of an NSEC before a name, by its place.
use Rattle.std.proofs.Common.{◌≡◌, ℕ, ◌+◌, ◌<◌, ◌≤◌, Bool, true, List, [], ◌∷◌, ◌++◌, length, take, drop, get_or}
use Rattle.std.proofs.Common.{get_or-drop, refl, sym, ◌∙◌, ap, arith, inl, inr, length-drop, Some, None}
use Rattle.std.specs.Prelude.{filter, ◌==◌, ◌&&◌}
use Rattle.std.specs.List.Sorted.{IsStrictlySortedBy}
use Rattle.std.specs.Ordering.{is_lt}
use Rattle.std.proofs.lemmas.Bool.{cases_lt, false_from_ne_true, and_parts, eqb-true, false≢true}
use Rattle.std.proofs.lemmas.List.{take-append-drop, drop_more}
use Rattle.std.proofs.lemmas.List.Elements.{filter-append}
use Rattle.std.proofs.lemmas.List.Kept.{IsStrictlySortedBy-filter}
use Rattle.dz_name.specs.Words.{Name}
use Rattle.dz_name.specs.Name.{canonical_order}
use Rattle.dz_record.specs.Record.{Record, record_order}
use Rattle.dz_zone.specs.Version.{IsLastNsec}
use Rattle.dz_runs.specs.Node.{from_owner, IsBegin}
use Rattle.dz_runs.proofs.InOrder.{in_order_stays}
use Rattle.dz_runs.proofs.RunLemmas.{filter_none}
use Rattle.dz_secure.specs.Secure.{last_owner, owner_before}

-- the NSEC records before a name
abbrev is_before : Name → Record → Bool
is_before name r = r.kind == 47 && is_lt (canonical_order r.owner name)

last_is : (rs : List Record) (r : Record) → last_owner (rs ++ r ∷ []) ≡ Some r.owner
unfolding last_owner
last_is [] r = refl
last_is (s ∷ []) r = refl
last_is (s ∷ t ∷ rs) r = last_is (t ∷ rs) r

module _ (zone : List Record) (name : Name) (place : ℕ) (up : IsStrictlySortedBy record_order zone)
    (begin : IsBegin (from_owner name) zone place) where
  -- no record from one place on is such, where none up to the name is an NSEC
  none_from : (from : ℕ)
      → ((k : ℕ) (d : Record) → from ≤ k → k < place → k < length zone → (get_or zone k d).kind ≡ 47 → ⊥)
      → filter (is_before name) (drop from zone) ≡ []
  none_from from none = filter_none (is_before name) (drop from zone) (λ k d within.
      let inside : from + k < length zone = omega (arith, length-drop from zone, within) in
      rw (get_or-drop from zone k d)
      (false_from_ne_true (is_before name (get_or zone (from + k) d)) (λ t.
      let parts = and_parts ((get_or zone (from + k) d).kind == 47)
      (is_lt (canonical_order (get_or zone (from + k) d).owner name)) t in
      elim (cases_lt (from + k) place) [
        | inl low ↦ none (from + k) d (omega arith) low inside (eqb-true (get_or zone (from + k) d).kind 47 parts.0)
        | inr high ↦ false≢true (sym (begin.1 (from + k) d high inside) ∙ parts.1)
      ])))

  pub none_owner : IsLastNsec zone place None → owner_before zone name ≡ None
  unfolding last_owner
  none_owner none =
      ap last_owner (in_order_stays (filter (is_before name) zone) (IsStrictlySortedBy-filter record_order
      (is_before name) zone up) ∙ none_from 0 (λ k d low lt within. none k d lt within))

  pub last_one : (last : ℕ) (d : Record) → IsLastNsec zone place (Some last)
      → owner_before zone name ≡ Some (get_or zone last d).owner
  last_one last d is =
      let r : Record = get_or zone last d in
      let kind : (r.kind == 47) ≡ true = ap (λ n. n == 47) (is.2 d) in
      let low : is_lt (canonical_order r.owner name) ≡ true = begin.0 last d (omega arith) is.0 in
      let split : zone ≡ take last zone ++ r ∷ drop (last + 1) zone =
      sym (take-append-drop last zone) ∙ ap (λ xs. take last zone ++ xs) (drop_more zone last d is.1) in
      let rest : filter (is_before name) (drop (last + 1) zone) ≡ [] =
      none_from (last + 1) (λ k e from lt within. is.3 k e (omega arith) lt within) in
      let kept : filter (is_before name) (r ∷ drop (last + 1) zone) ≡ r ∷ [] =
      rw (kind, low) (ap (λ xs. r ∷ xs) rest) in
      let whole : filter (is_before name) zone ≡ filter (is_before name) (take last zone) ++ r ∷ [] =
      ap (filter (is_before name)) split ∙ filter-append (is_before name) (take last zone) (r ∷ drop (last + 1) zone)
      ∙ ap (λ xs. filter (is_before name) (take last zone) ++ xs) kept in
      ap last_owner (in_order_stays (filter (is_before name) zone)
      (IsStrictlySortedBy-filter record_order (is_before name) zone up) ∙ whole)
      ∙ last_is (filter (is_before name) (take last zone)) r
