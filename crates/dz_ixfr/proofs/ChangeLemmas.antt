-- What differences make of the held records, record by record.
use Rattle.std.proofs.Common.{◌≡◌, ℕ, zero, suc, ◌<◌, Bool, true, false, not, cond, List, [], ◌∷◌, ◌++◌, length}
use Rattle.std.proofs.Common.{filter, map, get_or, refl, sym, ◌∙◌, ap, subst, arith, append_assoc, is_gt, ◌⊎◌, inl}
use Rattle.std.proofs.Common.{inr}
use Rattle.std.proofs.lemmas.Bool.{cases_Bool, or_parts, and_parts}
use Rattle.std.specs.List.{AllByRecursion, Contains, list_any}
use Rattle.std.specs.Cmp.{unsigned_Decides}
use Rattle.std.specs.Prelude.{◌==◌, ◌&&◌}
use Rattle.std.specs.Str.{bytes_eq}
use Rattle.dz_name.specs.Name.{same_name}
use Rattle.dz_name.specs.Order.{same_decides}
use Rattle.dz_name.specs.declared.dns.TheConstants.{TYPE_SOA}
use Rattle.dz_name.specs.Words.{Name}
use Rattle.dz_record.specs.Record.{Record, same_record, record_order}
use Rattle.dz_record.specs.Records.{insertion}
use Rattle.dz_record.specs.Order.{records_equal}
use Rattle.dz_zone.specs.Version.{Zone}
use Rattle.dz_xfr.specs.Apex.{is_apex_soa, serial_of, held_serial}
use Rattle.dz_ixfr.specs.Incremental.{is_there, without, Deletes, Adds, HasNoSoa, Difference, IsDifference, Leads}
use Rattle.dz_ixfr.specs.Incremental.{leads_last, leads_on, others, IsIncremental}
use Rattle.dz_ixfr.specs.Changes.{Change, deletion, addition, changes_in, changes_of, IsNotDeleted, IsNotAdded}
use Rattle.dz_ixfr.specs.Changes.{IsNotNamed, Changes, ChangesAll}

-- an element of a list, by recursion
abbrev Has : {X : Type 0} → List X → X → Type 0
Has [] x = ⊥
Has (y ∷ ys) x = (y ≡ x) ⊎ Has ys x

has_at : {X : Type 0} (xs : List X) (x : X) (k : ℕ) → k < length xs → get_or xs k x ≡ x → Has xs x
has_at [] x k l e = absurd (omega arith)
has_at (y ∷ ys) x zero l e = inl e
has_at (y ∷ ys) x (suc k) l e = inr (has_at ys x k (omega arith) e)

to_has : {X : Type 0} (xs : List X) (x : X) → Contains xs x → Has xs x
to_has xs x c = has_at xs x c.0 c.1 c.2

from_has : {X : Type 0} (xs : List X) (x : X) → Has xs x → Contains xs x
from_has [] x h = absurd h
from_has (y ∷ ys) x (inl e) = (0, omega arith, e)
from_has (y ∷ ys) x (inr h) = let c = from_has ys x h in (suc c.0, omega (arith, c.1), c.2)

-- changes lead from one list of records to another
abbrev Applies : List Record → List Change → List Record → Type 0
Applies zone [] after = after ≡ zone
Applies zone (deletion r ∷ changes) after = (is_there r zone ≡ true) × Applies (without r zone) changes after
Applies zone (addition r ∷ changes) after = (is_there r zone ≡ false) × Applies (insertion r zone) changes after

deletes_apply : (zone middle after rs : List Record) (changes : List Change) → Deletes zone rs middle
    → Applies middle changes after → Applies zone (map deletion rs ++ changes) after
deletes_apply zone middle after [] changes d a = subst (λ z. Applies z changes after) d a
deletes_apply zone middle after (r ∷ rs) changes d a =
    (d.0, deletes_apply (without r zone) middle after rs changes d.1 a)

adds_apply : (zone middle after rs : List Record) (changes : List Change) → Adds zone rs middle
    → Applies middle changes after → Applies zone (map addition rs ++ changes) after
adds_apply zone middle after [] changes d a = subst (λ z. Applies z changes after) d a
adds_apply zone middle after (r ∷ rs) changes d a = (d.0, adds_apply (insertion r zone) middle after rs changes d.1 a)

difference_applies : (apex : Name) (serial : ℕ) (zone next after : List Record) (d : Difference)
    (changes : List Change) → IsDifference apex serial zone d next → Applies next changes after
    → Applies zone (changes_in d ++ changes) after
difference_applies apex serial zone next after d changes i a =
    subst (λ cs. Applies zone cs after) (sym (append_assoc (map deletion d.deleted) (map addition d.added) changes))
    (deletes_apply zone i.middle after d.deleted (map addition d.added ++ changes) i.deletes
    (adds_apply i.middle next after d.added changes i.adds a))

leads_apply : (apex : Name) (goal serial : ℕ) (zone after : List Record) (ds : List Difference)
    → Leads apex goal serial zone ds after → Applies zone (changes_of ds) after
leads_apply apex goal serial zone after [] leads = elim leads [ ]
leads_apply apex goal serial zone after (d ∷ []) (leads_last i g) =
    difference_applies apex serial zone after after d [] i refl
leads_apply apex goal serial zone after (d ∷ ds) (leads_on next i g l) = difference_applies apex serial zone next after
    d (changes_of ds) i (leads_apply apex goal (serial_of d.new) next after ds l)

-- changes in two parts
applies_parts : (zone after : List Record) (front rest : List Change) → Applies zone (front ++ rest) after
    → (middle : List Record) × Applies middle rest after
applies_parts zone after [] rest a = (zone, a)
applies_parts zone after (deletion r ∷ front) rest a = applies_parts (without r zone) after front rest a.1
applies_parts zone after (addition r ∷ front) rest a = applies_parts (insertion r zone) after front rest a.1

-- what an insertion has
any_inserted : (test : Record → Bool) (r : Record) (zone : List Record) → test r ≡ false → list_any test zone ≡ false
    → list_any test (insertion r zone) ≡ false
unfolding insertion
any_inserted test r [] t n = rw t refl
any_inserted test r (s ∷ ss) t n =
    let parts = or_parts (test s) (list_any test ss) n in
    elim (cases_Bool (is_gt (record_order r s))) [
      | inl g ↦ rw (g, parts.0) (any_inserted test r ss t parts.1)
      | inr g ↦ rw (g, t, parts.0) parts.1
    ]

has_inserted : (r : Record) (zone : List Record) → Has (insertion r zone) r
unfolding insertion
has_inserted r [] = inl refl
has_inserted r (s ∷ ss) =
    elim (cases_Bool (is_gt (record_order r s))) [
      | inl g ↦ rw g (inr (has_inserted r ss))
      | inr g ↦ rw g (inl refl)
    ]

has_behind_inserted : (r x : Record) (zone : List Record) → Has zone x → Has (insertion r zone) x
unfolding insertion
has_behind_inserted r x [] h = absurd h
has_behind_inserted r x (s ∷ ss) (inl e) =
    elim (cases_Bool (is_gt (record_order r s))) [
      | inl g ↦ rw g (inl e)
      | inr g ↦ rw g (inr (inl e))
    ]
has_behind_inserted r x (s ∷ ss) (inr h) =
    elim (cases_Bool (is_gt (record_order r s))) [
      | inl g ↦ rw g (inr (has_behind_inserted r x ss h))
      | inr g ↦ rw g (inr (inr h))
    ]

from_inserted : (r x : Record) (zone : List Record) → Has (insertion r zone) x → (r ≡ x) ⊎ Has zone x
unfolding insertion
from_inserted r x [] h = h
from_inserted r x (s ∷ ss) h =
    (elim (is_gt (record_order r s)) as (λ g. Has (cond g (s ∷ insertion r ss) (r ∷ s ∷ ss)) x
    → (r ≡ x) ⊎ Has (s ∷ ss) x) [
      | true ↦ λ h. elim h [
        | inl e ↦ inr (inl e)
        | inr k ↦ elim (from_inserted r x ss k) [ inl e ↦ inl e | inr m ↦ inr (inr m) ]
      ]
      | false ↦ λ h. h
    ]) h

-- what a filter has
any_filtered : (test keep : Record → Bool) (zone : List Record) → list_any test zone ≡ false
    → list_any test (filter keep zone) ≡ false
any_filtered test keep [] n = refl
any_filtered test keep (s ∷ ss) n =
    let parts = or_parts (test s) (list_any test ss) n in
    elim (cases_Bool (keep s)) [
      | inl k ↦ rw (k, parts.0) (any_filtered test keep ss parts.1)
      | inr k ↦ rw k (any_filtered test keep ss parts.1)
    ]

none_left : (test : Record → Bool) (zone : List Record) → list_any test (filter (λ s. not (test s)) zone) ≡ false
none_left test [] = refl
none_left test (s ∷ ss) =
    elim (cases_Bool (test s)) [
      | inl t ↦ rw t (none_left test ss)
      | inr t ↦ rw (t, t) (none_left test ss)
    ]

has_filtered : (keep : Record → Bool) (x : Record) (zone : List Record) → keep x ≡ true → Has zone x
    → Has (filter keep zone) x
has_filtered keep x [] k h = absurd h
has_filtered keep x (s ∷ ss) k (inl e) = rw (ap keep e ∙ k) (inl e)
has_filtered keep x (s ∷ ss) k (inr h) =
    elim (cases_Bool (keep s)) [
      | inl t ↦ rw t (inr (has_filtered keep x ss k h))
      | inr t ↦ rw t (has_filtered keep x ss k h)
    ]

from_filtered : (keep : Record → Bool) (x : Record) (zone : List Record) → Has (filter keep zone) x → Has zone x
from_filtered keep x [] h = h
from_filtered keep x (s ∷ ss) h =
    (elim (keep s) as (λ k. Has (cond k (s ∷ filter keep ss) (filter keep ss)) x → Has (s ∷ ss) x) [
      | true ↦ λ h. elim h [ inl e ↦ inl e | inr k ↦ inr (from_filtered keep x ss k) ]
      | false ↦ λ h. inr (from_filtered keep x ss h)
    ]) h

same_turned : (a b : Record) → same_record a b ≡ false → same_record b a ≡ false
same_turned a b e = records_equal.symm b a ∙ e

not_itself : (a b : Record) → same_record b a ≡ false → a ≡ b → ⊥
not_itself a b n e = let t : same_record b a ≡ true = ap (same_record b) e ∙ records_equal.refl b in cc

-- what isn't there and isn't added stays away
stays_away : (r : Record) (zone after : List Record) (changes : List Change) → is_there r zone ≡ false
    → AllByRecursion (IsNotAdded r) changes → Applies zone changes after → is_there r after ≡ false
stays_away r zone after [] n all a = subst (λ z. is_there r z ≡ false) (sym a) n
stays_away r zone after (deletion s ∷ changes) n all a = stays_away r (without s zone) after changes
    (any_filtered (same_record r) (λ t. not (same_record s t)) zone n) all.1 a.1
stays_away r zone after (addition s ∷ changes) n all a =
    stays_away r (insertion s zone) after changes (any_inserted (same_record r) s zone all.0 n) all.1 a.1

-- what is there and isn't deleted stays
stays : (r : Record) (zone after : List Record) (changes : List Change) → Has zone r
    → AllByRecursion (IsNotDeleted r) changes → Applies zone changes after → Has after r
stays r zone after [] h all a = subst (λ z. Has z r) (sym a) h
stays r zone after (deletion s ∷ changes) h all a =
    stays r (without s zone) after changes
    (has_filtered (λ t. not (same_record s t)) r zone (ap not (same_turned r s all.0)) h) all.1 a.1
stays r zone after (addition s ∷ changes) h all a =
    stays r (insertion s zone) after changes (has_behind_inserted s r zone h) all.1 a.1

-- what is there and isn't added was there
was_there : (r : Record) (zone after : List Record) (changes : List Change) → Has after r
    → AllByRecursion (IsNotAdded r) changes → Applies zone changes after → Has zone r
was_there r zone after [] h all a = subst (λ z. Has z r) a h
was_there r zone after (deletion s ∷ changes) h all a =
    from_filtered (λ t. not (same_record s t)) r zone (was_there r (without s zone) after changes h all.1 a.1)
was_there r zone after (addition s ∷ changes) h all a =
    elim (from_inserted s r zone (was_there r (insertion s zone) after changes h all.1 a.1)) [
      | inl e ↦ absurd (not_itself s r all.0 e)
      | inr k ↦ k
    ]

not_deleted : (r : Record) (changes : List Change) → AllByRecursion (IsNotNamed r) changes
    → AllByRecursion (IsNotDeleted r) changes
not_deleted r [] h = tt
not_deleted r (change ∷ changes) h = (h.0.0, not_deleted r changes h.1)

not_added : (r : Record) (changes : List Change) → AllByRecursion (IsNotNamed r) changes
    → AllByRecursion (IsNotAdded r) changes
not_added r [] h = tt
not_added r (change ∷ changes) h = (h.0.1, not_added r changes h.1)

-- no change names an SOA of the apex
abbrev IsOfNoSoa : Name → Change → Type 0
IsOfNoSoa apex (deletion r) = is_apex_soa apex r ≡ false
IsOfNoSoa apex (addition r) = is_apex_soa apex r ≡ false

all_parts : {X : Type 0} (P : X → Type 0) (xs ys : List X) → AllByRecursion P xs → AllByRecursion P ys
    → AllByRecursion P (xs ++ ys)
all_parts P [] ys a b = b
all_parts P (x ∷ xs) ys a b = (a.0, all_parts P xs ys a.1 b)

at_the_middle : {X : Type 0} (P : X → Type 0) (xs ys : List X) (y : X) → AllByRecursion P (xs ++ y ∷ ys) → P y
at_the_middle P [] ys y a = a.0
at_the_middle P (x ∷ xs) ys y a = at_the_middle P xs ys y a.1

deletions_no_soa : (apex : Name) (rs : List Record) → HasNoSoa apex rs
    → AllByRecursion (IsOfNoSoa apex) (map deletion rs)
deletions_no_soa apex [] h = tt
deletions_no_soa apex (r ∷ rs) h = (h.0, deletions_no_soa apex rs h.1)

additions_no_soa : (apex : Name) (rs : List Record) → HasNoSoa apex rs
    → AllByRecursion (IsOfNoSoa apex) (map addition rs)
additions_no_soa apex [] h = tt
additions_no_soa apex (r ∷ rs) h = (h.0, additions_no_soa apex rs h.1)

difference_no_soa : (apex : Name) (serial : ℕ) (zone after : List Record) (d : Difference)
    → IsDifference apex serial zone d after → AllByRecursion (IsOfNoSoa apex) (changes_in d)
difference_no_soa apex serial zone after d i = all_parts (IsOfNoSoa apex) (map deletion d.deleted)
    (map addition d.added) (deletions_no_soa apex d.deleted i.deleted) (additions_no_soa apex d.added i.added)

leads_no_soa : (apex : Name) (goal serial : ℕ) (zone after : List Record) (ds : List Difference)
    → Leads apex goal serial zone ds after → AllByRecursion (IsOfNoSoa apex) (changes_of ds)
leads_no_soa apex goal serial zone after [] leads = elim leads [ ]
leads_no_soa apex goal serial zone after (d ∷ []) (leads_last i g) =
    all_parts (IsOfNoSoa apex) (changes_in d) [] (difference_no_soa apex serial zone after d i) tt
leads_no_soa apex goal serial zone after (d ∷ ds) (leads_on next i g l) =
    all_parts (IsOfNoSoa apex) (changes_in d) (changes_of ds) (difference_no_soa apex serial zone next d i)
    (leads_no_soa apex goal (serial_of d.new) next after ds l)

-- a record that is the same as an SOA of the apex is one
soa_alike : (apex : Name) (r soa : Record) → is_apex_soa apex r ≡ false → is_apex_soa apex soa ≡ true
    → same_record r soa ≡ false
soa_alike apex r soa n t =
    elim (cases_Bool (same_record r soa)) [
      | inr f ↦ f
      | inl s ↦
          let parts = and_parts (same_name r.owner soa.owner) (r.kind == soa.kind && bytes_eq r.rdata soa.rdata) s in
          let owner : r.owner ≡ soa.owner = (same_decides r.owner soa.owner).0 parts.0 in
          let kind : r.kind ≡ soa.kind = (unsigned_Decides r.kind soa.kind).0
          (and_parts (r.kind == soa.kind) (bytes_eq r.rdata soa.rdata) parts.1).0 in
          let one : is_apex_soa apex r ≡ true = ap (λ k. k == TYPE_SOA && same_name r.owner apex) kind
          ∙ (ap (λ o. soa.kind == TYPE_SOA && same_name o apex) owner ∙ t) in
          absurd (cc)
    ]

module _ (held : Zone) (records zone : List Record) (form : IsIncremental held records zone) where
  applied : Applies (others held) (changes_of form.differences) form.after
  applied = leads_apply held.apex (serial_of form.first) (held_serial held)
      (others held) form.after form.differences form.leads

  behind_change : (before rest : List Change) → changes_of form.differences ≡ before ++ rest
      → (middle : List Record) × Applies middle rest form.after
  behind_change before rest e =
      applies_parts (others held) form.after before rest (subst (λ cs. Applies (others held) cs form.after) e applied)

  in_zone : (r : Record) → Has form.after r → Contains zone r
  in_zone r h = subst (λ z. Contains z r) (sym form.zone_is)
      (from_has (insertion form.first form.after) r (has_behind_inserted form.first r form.after h))

  added_there : (r : Record) (before behind : List Change) → changes_of form.differences ≡ before ++ addition r
      ∷ behind → AllByRecursion (IsNotDeleted r) behind → Contains zone r
  added_there r before behind e all =
      let m = behind_change before (addition r ∷ behind) e in
      in_zone r (stays r (insertion r m.0) form.after behind (has_inserted r m.0) all m.1.1)

  deleted_gone : (r : Record) (before behind : List Change) → changes_of form.differences ≡ before ++ deletion r
      ∷ behind → AllByRecursion (IsNotAdded r) behind → is_there r zone ≡ false
  deleted_gone r before behind e all =
      let m = behind_change before (deletion r ∷ behind) e in
      let away = stays_away r (without r m.0) form.after behind (none_left (same_record r) m.0) all m.1.1 in
      let no_soa = leads_no_soa held.apex (serial_of form.first) (held_serial held)
      (others held) form.after form.differences form.leads in
      let n : is_apex_soa held.apex r ≡ false = at_the_middle (IsOfNoSoa held.apex) before behind (deletion r)
      (subst (AllByRecursion (IsOfNoSoa held.apex)) e no_soa) in
      subst (λ z. is_there r z ≡ false) (sym form.zone_is)
      (any_inserted (same_record r) form.first form.after (soa_alike held.apex r form.first n form.opens) away)

  other_from : (r : Record) → is_apex_soa held.apex r ≡ false
      → AllByRecursion (IsNotNamed r) (changes_of form.differences) → Contains zone r → Contains held.records r
  other_from r n all c =
      let h : Has (insertion form.first form.after) r =
      to_has (insertion form.first form.after) r (subst (λ z. Contains z r) form.zone_is c) in
      elim (from_inserted form.first r form.after h) [
        | inl e ↦
            let t : is_apex_soa held.apex r ≡ true = ap (is_apex_soa held.apex) (sym e) ∙ form.opens in absurd (cc)
        | inr k ↦
            from_has held.records r (from_filtered (λ s. not (is_apex_soa held.apex s)) r held.records
            (was_there r (others held) form.after (changes_of form.differences) k
            (not_added r (changes_of form.differences) all) applied))
      ]

  other_stays : (r : Record) → is_apex_soa held.apex r ≡ false
      → AllByRecursion (IsNotNamed r) (changes_of form.differences) → Contains held.records r → Contains zone r
  other_stays r n all c =
      let h = has_filtered (λ s. not (is_apex_soa held.apex s)) r held.records (ap not n) (to_has held.records r c) in
      in_zone r (stays r (others held) form.after (changes_of form.differences) h
      (not_deleted r (changes_of form.differences) all) applied)

  changes_are : Changes held form.differences zone
  changes_are = record {
    added = added_there;
    deleted = deleted_gone;
    other = λ r n all. (other_from r n all, other_stays r n all);
  }

pub changes_all : ChangesAll
changes_all held records zone form = changes_are held records zone form
