-- What a reply shows of a zone's records are records again: owners that are names, TTLs below 2^31.
use Rattle.std.proofs.Common.{inl, inr, ◌≡◌, ℕ, zero, suc, ◌<◌, ◌≤◌, ◌^◌, Bool, true, false, List, [], ◌∷◌, ◌++◌}
use Rattle.std.proofs.Common.{length, refl, sym, ◌∙◌, subst, arith, Option, Some, None, min, if◌then◌else◌}
use Rattle.std.specs.Prelude.{map, filter, find, fold, not, nat_lt, nat_le, ◌==◌, ◌&&◌, ◌-◌, ◌+◌, take}
use Rattle.std.specs.List.{AllByRecursion, All, flat_map, list_any}
use Rattle.std.specs.Ordering.{is_gt}
use Rattle.std.proofs.lemmas.Bool.{cases_Bool}
use Rattle.dz_name.specs.Name.{IsName, same_name, is_within, labels_in, wire_of, fitting}
use Rattle.dz_name.specs.Order.{same_decides}
use Rattle.dz_name.proofs.FrontLemmas.{joined_name}
use Rattle.dz_name.proofs.KeptLemmas.{root_is_name}
use Rattle.dz_name.proofs.CanonicalLemmas.{canonical_end_wire}
use Rattle.dz_name.specs.Reading.{canonical_end}
use Rattle.dz_record.specs.Fields.{is_rdata, fields_of, fits, field_end}
use Rattle.std.proofs.lemmas.Bool.Decides.{nat_tests, leb_tells}
use Rattle.std.proofs.lemmas.List.{append-nil}
use Rattle.std.specs.Option.{option_map_or}
use Rattle.dz_record.specs.Record.{Record, has_target, target_of, record_order, same_record, IsRecord}
use Rattle.dz_record.specs.Records.{insertion, in_order}
use Rattle.dz_record.proofs.FieldLemmas.{target_wire}
use Rattle.dz_zone.specs.Valid.{at_apex}
use Rattle.dz_zone.specs.Version.{Zone, apex_soa}
use Rattle.dz_lookup.specs.Found.{Found, here, alias, no_data, no_name, referral, rename, here_or, at_source, renaming}
use Rattle.dz_lookup.specs.Found.{barrier, behind_barrier, source, cut_for, dname, found}
use Rattle.dz_runs.specs.Runs.{of_type, records_of}
use Rattle.dz_lookup.specs.Chain.{Trail, Chased, Ending, ended, stopped, too_long, was_looked_up, next_name}
use Rattle.dz_lookup.specs.Chain.{redirected, renamed, led_to, is_answered, onward, from_renamed, continuation}
use Rattle.dz_lookup.specs.Chain.{chain_from, chain_of}
use Rattle.dz_lookup.specs.inner.Links.{behind}
use Rattle.dz_reply.specs.Layout.{entries, entry, entry_ttl}
use Rattle.dz_reply.specs.Answer.{negative_ttl, dname_entries, step_entries, entries_behind, trail_entries}
use Rattle.dz_reply.specs.Answer.{own_entries, soa_under, soa_entries, inner_target, addresses_of, glue_of, glue}
use Rattle.dz_reply.specs.Answer.{at_end, of_ending, of_chain, sections_of}
use Rattle.dz_reply.proofs.ReadBackReplies.{AreHeld}
use Rattle.dz_reply.proofs.TrailLemmas.{renamer_step, alias_step}

-- a fact of each, by index and by recursion
pub each_held : (rs : List Record) → All IsRecord rs → AllByRecursion IsRecord rs
each_held [] h = tt
each_held (r ∷ rs) h = (h 0 r (omega arith), each_held rs (λ k d lt. h (suc k) d (omega arith)))

-- a fact of each of two lists holds of both together
pub each_append : {X : Type 0} (P : X → Type 0) (xs ys : List X) → AllByRecursion P xs → AllByRecursion P ys
    → AllByRecursion P (xs ++ ys)
each_append P [] ys a b = b
each_append P (x ∷ xs) ys a b = (a.0, each_append P xs ys a.1 b)

-- a fact of each holds of those that are kept
pub each_filter : {X : Type 0} (P : X → Type 0) (keep : X → Bool) (xs : List X) → AllByRecursion P xs
    → AllByRecursion P (filter keep xs)
each_filter P keep [] a = tt
each_filter P keep (x ∷ xs) a = elim (cases_Bool (keep x)) [
  | inl t ↦ rw t (a.0, each_filter P keep xs a.1)
  | inr f ↦ rw f (each_filter P keep xs a.1)
]

-- a fact of each holds of each that is made of it
each_map : {X Y : Type 0} (P : X → Type 0) (Q : Y → Type 0) (f : X → Y) → ((x : X) → P x → Q (f x)) → (xs : List X)
    → AllByRecursion P xs → AllByRecursion Q (map f xs)
each_map P Q f step [] a = tt
each_map P Q f step (x ∷ xs) a = (step x a.0, each_map P Q f step xs a.1)

-- the same where each makes a list
pub each_flat : {X Y : Type 0} (P : X → Type 0) (Q : Y → Type 0) (f : X → List Y)
    → ((x : X) → P x → AllByRecursion Q (f x)) → (xs : List X) → AllByRecursion P xs → AllByRecursion Q (flat_map f xs)
each_flat P Q f step [] a = tt
each_flat P Q f step (x ∷ xs) a = each_append Q (f x) (flat_map f xs) (step x a.0) (each_flat P Q f step xs a.1)

-- the first record that passes a test is held, and passes it
found_held : (p : Record → Bool) (rs : List Record) (r : Record) → AllByRecursion IsRecord rs → find p rs ≡ Some r
    → IsRecord r × (p r ≡ true)
found_held p [] r a h = absurd (cc)
found_held p (x ∷ xs) r a h = elim (cases_Bool (p x)) [
  | inl t ↦ let q : ◌≡◌ {A = Option Record} (Some x) (Some r) = rw t at h in
      let e : x ≡ r = cc in
      subst (λ y. IsRecord y × (p y ≡ true)) e (a.0, t)
  | inr f ↦ found_held p xs r a.1 (rw f at h)
]

-- records in order
each_placed : (r : Record) (rs : List Record) → IsRecord r → AllByRecursion IsRecord rs
    → AllByRecursion IsRecord (insertion r rs)
unfolding insertion
each_placed r [] h a = (h, tt)
each_placed r (s ∷ ss) h a = elim (cases_Bool (is_gt (record_order r s))) [
  | inl t ↦ rw t (a.0, each_placed r ss h a.1)
  | inr f ↦ rw f (h, a)
]

-- putting records in order leaves each as it is
each_in_order : (rs : List Record) → AllByRecursion IsRecord rs → AllByRecursion IsRecord (in_order rs)
unfolding in_order
each_in_order [] a = tt
each_in_order (r ∷ rs) a = each_placed r (in_order rs) a.0 (each_in_order rs a.1)

-- the records of a type
pub each_of_type : (kind : ℕ) (rs : List Record) → AllByRecursion IsRecord rs
    → AllByRecursion IsRecord (of_type kind rs)
each_of_type kind rs a = each_filter IsRecord (λ r. r.kind == kind) rs a

-- the records of a name
pub each_records_of : (zone : List Record) (name : List (List ℕ)) → AllByRecursion IsRecord zone
    → AllByRecursion IsRecord (records_of zone name)
each_records_of zone name a = each_in_order (filter (λ r. same_name r.owner name) zone)
    (each_filter IsRecord (λ r. same_name r.owner name) zone a)

-- what is found
pub record IsAliasHeld (a : List (List ℕ) × Record) : Type 0 where
  pub name : IsName a.0
  pub is : IsRecord a.1

-- the records of what is found
abbrev pub HoldsFound : Found → Type 0
HoldsFound (here rs) = AllByRecursion IsRecord rs
HoldsFound (alias r) = IsRecord r
HoldsFound no_data = Unit {0}
HoldsFound no_name = Unit {0}
HoldsFound (referral rs) = AllByRecursion IsRecord rs
HoldsFound (rename r) = IsRecord r

-- the records that answer, or the first alias
here_or_held : (rs aliases : List Record) → AllByRecursion IsRecord rs → AllByRecursion IsRecord aliases
    → HoldsFound (here_or rs aliases)
here_or_held (r ∷ rs) aliases a b = a
here_or_held [] (r ∷ rs) a b = b.0
here_or_held [] [] a b = tt

-- one of two lists
pub each_if : (b : Bool) (xs ys : List Record) → AllByRecursion IsRecord xs → AllByRecursion IsRecord ys
    → AllByRecursion IsRecord (if b then xs else ys)
each_if true xs ys a b = a
each_if false xs ys a b = b

-- what is found at a node
at_source_held : (zone : List Record) (kind : ℕ) (node : Option (List (List ℕ))) → AllByRecursion IsRecord zone
    → HoldsFound (at_source zone kind node)
at_source_held zone kind None a = tt
at_source_held zone kind (Some node) a =
    let rs = each_records_of zone node a in
    here_or_held (if kind == 255 then records_of zone node else of_type kind (records_of zone node))
    (of_type 5 (records_of zone node))
    (each_if (kind == 255) (records_of zone node) (of_type kind (records_of zone node)) rs
    (each_of_type kind (records_of zone node) rs)) (each_of_type 5 (records_of zone node) rs)

-- the DNAME of a name
renaming_held : (rs : List Record) → AllByRecursion IsRecord rs → HoldsFound (renaming rs)
renaming_held [] a = tt
renaming_held (r ∷ rs) a = a.0

-- what is found at a barrier, or else at a node
barrier_held : (zone : List Record) (at above : Option (List (List ℕ))) (f : Found) → AllByRecursion IsRecord zone
    → barrier zone at above ≡ Some f → HoldsFound f
barrier_held zone None None f a e = absurd (cc)
barrier_held zone None (Some above) f a e =
    let g : renaming (of_type 39 (records_of zone above)) ≡ f = cc in
    subst HoldsFound g (renaming_held (of_type 39 (records_of zone above))
    (each_of_type 39 (records_of zone above) (each_records_of zone above a)))
barrier_held zone (Some at) None f a e =
    let g : referral (of_type 2 (records_of zone at)) ≡ f = cc in
    subst HoldsFound g (each_of_type 2 (records_of zone at) (each_records_of zone at a))
barrier_held zone (Some at) (Some above) f a e = elim (cases_Bool (nat_lt (length above) (length at))) [
  | inl t ↦
      let h : ◌≡◌ {A = Option Found} (Some (renaming (of_type 39 (records_of zone above)))) (Some f) = rw t at e in
      let g : renaming (of_type 39 (records_of zone above)) ≡ f = cc in
      subst HoldsFound g (renaming_held (of_type 39 (records_of zone above))
      (each_of_type 39 (records_of zone above) (each_records_of zone above a)))
  | inr n ↦
      let h : ◌≡◌ {A = Option Found} (Some (referral (of_type 2 (records_of zone at)))) (Some f) = rw n at e in
      let g : referral (of_type 2 (records_of zone at)) ≡ f = cc in
      subst HoldsFound g (each_of_type 2 (records_of zone at) (each_records_of zone at a))
]

behind_held : (zone : List Record) (name : List (List ℕ)) (kind : ℕ) (b : Option Found) → AllByRecursion IsRecord zone
    → ((f : Found) → b ≡ Some f → HoldsFound f) → HoldsFound (behind_barrier zone name kind b)
behind_held zone name kind None a each = at_source_held zone kind (source zone name) a
behind_held zone name kind (Some f) a each = each f refl

-- what is found in a zone
found_is_held : (apex : List (List ℕ)) (zone : List Record) (name : List (List ℕ)) (kind : ℕ)
    → AllByRecursion IsRecord zone → HoldsFound (found apex zone name kind)
unfolding found
found_is_held apex zone name kind a =
    behind_held zone name kind (barrier zone (cut_for apex zone kind name) (dname zone name)) a
    (λ f e. barrier_held zone (cut_for apex zone kind name) (dname zone name) f a e)

-- a record leads to a name
target_name : (r : Record) (name : List (List ℕ)) → IsRecord r → target_of r ≡ Some name → IsName name
target_name r name held h = elim (cases_Bool (has_target r.kind)) [
  | inl t ↦
      let q : ◌≡◌ {A = Option (List (List ℕ))} (Some (labels_in (length r.rdata) r.rdata)) (Some name) = rw t at h in
      let e : labels_in (length r.rdata) r.rdata ≡ name = cc in
      subst (λ n. IsName n) e (target_wire r held t).name
  | inr f ↦ let q = rw f at h in absurd (cc)
]

-- where a DNAME leads
fitting_is : (n name : List (List ℕ)) → fitting n ≡ Some name → (length (wire_of n) ≤ 255) × (n ≡ name)
fitting_is n name h = elim (leb_tells (length (wire_of n)) 255) [
  | inl w ↦ let q : ◌≡◌ {A = Option (List (List ℕ))} (Some n) (Some name) = rw w.0 at h in (w.1, cc)
  | inr w ↦ let q = rw w.0 at h in absurd (cc)
]

redirected_name : (from : List (List ℕ)) (r : Record) (target : Option (List (List ℕ))) (name : List (List ℕ))
    → IsName from → ((t : List (List ℕ)) → target ≡ Some t → IsName t) → redirected from r target ≡ Some name
    → IsName name
redirected_name from r None name is each h = absurd (cc)
redirected_name from r (Some t) name is each h =
    let w = fitting_is (take (length from - length r.owner) from ++ t) name h in
    subst (λ n. IsName n) w.1 (joined_name (length from - length r.owner) from t is (each t refl) w.0)

-- where a record leads
led_plain : (from : List (List ℕ)) (r : Record) → (r.kind == 39) ≡ false → led_to from r ≡ target_of r
led_plain from r f = rw f refl

led_renamed : (from : List (List ℕ)) (r : Record) → (r.kind == 39) ≡ true → led_to from r ≡ renamed from r
led_renamed from r t = rw t refl

led_name : (from : List (List ℕ)) (r : Record) (name : List (List ℕ)) → IsName from → IsRecord r
    → led_to from r ≡ Some name → IsName name
led_name from r name is held h = elim (cases_Bool (r.kind == 39)) [
  | inl t ↦
      redirected_name from r (target_of r) name is (λ n e. target_name r n held e) (sym (led_renamed from r t) ∙ h)
  | inr f ↦ target_name r name held (sym (led_plain from r f) ∙ h)
]

pub behind_name : (from : List (List ℕ)) (r : Record) → IsName from → IsRecord r → IsName (behind from r)
behind_name from r is held = go (led_to from r) refl
  where
    go : (o : Option (List (List ℕ))) → led_to from r ≡ o → IsName (option_map_or (λ n. n) o [])
    go None e = root_is_name
    go (Some name) e = led_name from r name is held e

-- a chain
abbrev pub HoldsEnding : Ending → Type 0
HoldsEnding (ended f name) = HoldsFound f × IsName name
HoldsEnding stopped = Unit {0}
HoldsEnding (too_long r) = IsRecord r

-- the records of a chain, and what it ends with
pub record HoldsChase (c : Chased) : Type 0 where
  pub trail : AllByRecursion IsAliasHeld c.trail
  pub ending : HoldsEnding c.ending

-- the next name is where the record leads
next_name_held : (apex : List (List ℕ)) (trail : Trail) (target : Option (List (List ℕ))) (name : List (List ℕ))
    → next_name apex trail target ≡ Some name → target ≡ Some name
next_name_held apex trail None name h = absurd (cc)
next_name_held apex trail (Some target) name h =
    elim (cases_Bool (is_within target apex && not (was_looked_up trail target))) [
      | inl t ↦ rw t at h
      | inr f ↦ let q = rw f at h in absurd (cc)
    ]

unless_held : (b : Bool) (next : Option (List (List ℕ))) (name : List (List ℕ))
    → (if b then None else next) ≡ Some name → next ≡ Some name
unless_held true next name h = absurd (cc)
unless_held false next name h = h

-- a chain that goes on to the next name, or stops
onward_held : (next : Trail → List (List ℕ) → Chased) (trail : Trail) (name : Option (List (List ℕ)))
    → AllByRecursion IsAliasHeld trail
    → ((n : List (List ℕ)) → name ≡ Some n → HoldsChase (next trail n)) → HoldsChase (onward next trail name)
onward_held next trail None a step = record { trail = a; ending = tt }
onward_held next trail (Some name) a step = step name refl

-- a chain after a DNAME
renamed_held : (next : Trail → List (List ℕ) → Chased) (apex : List (List ℕ)) (kind : ℕ) (trail : Trail)
    (name : List (List ℕ)) (r : Record) (new : Option (List (List ℕ))) → AllByRecursion IsAliasHeld trail → IsName name
    → IsRecord r
    → ((n : List (List ℕ)) → new ≡ Some n → IsName n)
    → ((more : Trail) (n : List (List ℕ)) → AllByRecursion IsAliasHeld more → IsName n → HoldsChase (next more n))
    → HoldsChase (from_renamed next apex kind trail name r new)
renamed_held next apex kind trail name r None a is h each step = record { trail = a; ending = h }
renamed_held next apex kind trail name r (Some new) a is h each step =
    let more : Trail = trail ++ (name, r) ∷ [] in
    let held : AllByRecursion IsAliasHeld more =
    each_append IsAliasHeld trail ((name, r) ∷ []) a (record { name = is; is = h }, tt) in
    let further : Option (List (List ℕ)) = if is_answered kind then None else next_name apex more (Some new) in
    onward_held next more further held (λ n e. step more n held (each n (next_name_held apex more (Some new) n
    (unless_held (is_answered kind) (next_name apex more (Some new)) n e))))

-- a chain by what is found for its last name
followed_held : (next : Trail → List (List ℕ) → Chased) (apex : List (List ℕ)) (kind : ℕ) (trail : Trail)
    (name : List (List ℕ)) (f : Found) → AllByRecursion IsAliasHeld trail → IsName name → HoldsFound f
    → ((more : Trail) (n : List (List ℕ)) → AllByRecursion IsAliasHeld more → IsName n → HoldsChase (next more n))
    → HoldsChase (continuation next apex kind trail name f)
followed_held next apex kind trail name (alias r) a is h step =
    let more : Trail = trail ++ (name, r) ∷ [] in
    let held : AllByRecursion IsAliasHeld more =
    each_append IsAliasHeld trail ((name, r) ∷ []) a (record { name = is; is = h }, tt) in
    onward_held next more (next_name apex more (target_of r)) held
    (λ n e. step more n held (target_name r n h (next_name_held apex more (target_of r) n e)))
followed_held next apex kind trail name (rename r) a is h step =
    renamed_held next apex kind trail name r (renamed name r) a is h
    (λ n e. redirected_name name r (target_of r) n is (λ t d. target_name r t h d) e) step
followed_held next apex kind trail name (here rs) a is h step = record { trail = a; ending = (h, is) }
followed_held next apex kind trail name no_data a is h step = record { trail = a; ending = (h, is) }
followed_held next apex kind trail name no_name a is h step = record { trail = a; ending = (h, is) }
followed_held next apex kind trail name (referral rs) a is h step = record { trail = a; ending = (h, is) }

-- a chain from a name on
chain_from_held : (left : ℕ) (apex : List (List ℕ)) (zone : List Record) (kind : ℕ) (trail : Trail)
    (name : List (List ℕ)) → AllByRecursion IsRecord zone → AllByRecursion IsAliasHeld trail → IsName name
    → HoldsChase (chain_from left apex zone kind trail name)
unfolding chain_from
chain_from_held zero apex zone kind trail name z a is = record { trail = a; ending = tt }
chain_from_held (suc left) apex zone kind trail name z a is =
    followed_held (chain_from left apex zone kind) apex kind trail name (found apex zone name kind) a is
    (found_is_held apex zone name kind z)
    (λ more n held named. chain_from_held left apex zone kind more n z held named)

-- the chain of a name and a type
pub chain_held : (apex : List (List ℕ)) (zone : List Record) (name : List (List ℕ)) (kind : ℕ)
    → AllByRecursion IsRecord zone → IsName name → HoldsChase (chain_of apex zone name kind)
unfolding chain_of
chain_held apex zone name kind z is = chain_from_held 16 apex zone kind [] name z tt is

-- records as they are shown
pub shown_as_held : (owner : List (List ℕ)) (ttl : ℕ) (r : Record) → IsName owner → ttl < 2 ^ 31 → IsRecord r
    → IsRecord (entry owner ttl r)
unfolding entry
shown_as_held owner ttl r is small held =
    record { owner = is; number = held.number; kind = held.kind; ttl = small; rdata = held.rdata }

-- the least of some TTLs is no more than what the count begins with
fold_least : (least : ℕ) (rs : List Record) → fold (λ l r. min l r.ttl) least rs ≤ least
fold_least least [] = omega arith
fold_least least (r ∷ rs) = omega (arith, fold_least (min least r.ttl) rs)

-- the TTL that is shown is below 2^31 (RFC 2181 section 8)
shown_ttl_small : (rs : List Record) (r : Record) → IsRecord r → entry_ttl rs r < 2 ^ 31
shown_ttl_small rs r held = elim (cases_Bool (r.kind == 46)) [
  | inl t ↦ rw t held.ttl
  | inr f ↦ rw f (omega (arith, fold_least 2147483647 (filter (λ s. s.kind == r.kind) rs)))
]

-- records as they are shown under a name
pub shown_held : (owner : List (List ℕ)) (rs : List Record) → IsName owner → AllByRecursion IsRecord rs
    → AllByRecursion IsRecord (entries owner rs)
unfolding entries
shown_held owner rs is held = each_map IsRecord IsRecord (λ r. entry owner (entry_ttl rs r) r)
    (λ r h. shown_as_held owner (entry_ttl rs r) r is (shown_ttl_small rs r h) h) rs held

-- an RRset as it is shown under its owner
pub shown_own_held : (rs : List Record) → AllByRecursion IsRecord rs → AllByRecursion IsRecord (own_entries rs)
unfolding own_entries
shown_own_held [] held = tt
shown_own_held (r ∷ rs) held = shown_held r.owner (r ∷ rs) held.0.owner held

-- a CNAME that is made of a DNAME
name_rdata : (name : List (List ℕ)) → IsName name → is_rdata 5 (wire_of name) ≡ true
unfolding fields_of fits field_end
name_rdata name is =
    let none = append-nil (wire_of name) in
    let size : 0 + length (wire_of name) ≡ length (wire_of name) = omega arith in
    let end : canonical_end (wire_of name) 0 ≡ Some (length (wire_of name)) =
    rw (none, size) at (canonical_end_wire [] name [] is) in
    let few : nat_le (length (wire_of name)) 65535 ≡ true = grind (arith, nat_tests, is.short) in
    let same : (length (wire_of name) == length (wire_of name)) ≡ true = grind (arith, nat_tests) in
    rw (few, end) same

pub cname_held : (name target : List (List ℕ)) (ttl : ℕ) → IsName name → IsName target → ttl < 2 ^ 31
    → IsRecord (record { owner = name; kind = 5; ttl = ttl; rdata = wire_of target })
cname_held name target ttl is to small =
    record { owner = is; number = omega arith; kind = refl; ttl = small; rdata = name_rdata target to }

-- the records of a chain as they are shown
pub dname_held : (before : Trail) (r : Record) → IsRecord r → AllByRecursion IsRecord (dname_entries before r)
dname_held before r held = elim (cases_Bool (list_any (λ a. same_record a.1 r) before)) [
  | inl t ↦ rw t tt
  | inr f ↦ rw f (shown_as_held r.owner r.ttl r held.owner held.ttl held, tt)
]

step_held : (before : Trail) (a : List (List ℕ) × Record) → IsAliasHeld a
    → AllByRecursion IsRecord (step_entries before a)
step_held before a held = elim (cases_Bool (a.1.kind == 39)) [
  | inl t ↦
      let made =
      cname_held a.0 (behind a.0 a.1) a.1.ttl held.name (behind_name a.0 a.1 held.name held.is) held.is.ttl in
      subst (λ rs. AllByRecursion IsRecord rs) (sym (renamer_step before a t))
      (each_append IsRecord (dname_entries before a.1)
      (record { owner = a.0; kind = 5; ttl = a.1.ttl; rdata = wire_of (behind a.0 a.1) } ∷ [])
      (dname_held before a.1 held.is) (made, tt))
  | inr f ↦ subst (λ rs. AllByRecursion IsRecord rs) (sym (alias_step before a f))
      (shown_as_held a.0 a.1.ttl a.1 held.name held.is.ttl held.is, tt)
]

steps_held : (before trail : Trail) → AllByRecursion IsAliasHeld trail
    → AllByRecursion IsRecord (entries_behind before trail)
unfolding entries_behind
steps_held before [] held = tt
steps_held before (a ∷ rest) held = each_append IsRecord (step_entries before a)
    (entries_behind (before ++ a ∷ []) rest) (step_held before a held.0) (steps_held (before ++ a ∷ []) rest held.1)

trail_held : (trail : Trail) → AllByRecursion IsAliasHeld trail → AllByRecursion IsRecord (trail_entries trail)
unfolding trail_entries
trail_held trail held = steps_held [] trail held

-- the SOA of a negative answer
negative_small : (r : Record) → IsRecord r → negative_ttl r < 2 ^ 31
negative_small r held = elim (cases_Bool (r.kind == 6)) [
  | inl t ↦ rw t (omega (arith, held.ttl))
  | inr f ↦ rw f held.ttl
]

-- the SOA as it is shown: its owner is the apex, so the apex is a name
soa_under_held : (apex : List (List ℕ)) (rs : List Record) (o : Option Record) → AllByRecursion IsRecord rs
    → find (at_apex 6 apex) rs ≡ o → AllByRecursion IsRecord (soa_under apex o)
soa_under_held apex rs None held e = tt
soa_under_held apex rs (Some soa) held e =
    let is = found_held (at_apex 6 apex) rs soa held e in
    let same : soa.owner ≡ apex =
    (same_decides soa.owner apex).0 (second (soa.kind == 6) (same_name soa.owner apex) is.1) in (
      shown_as_held apex (negative_ttl soa) soa (subst (λ n. IsName n) same is.0.owner) (negative_small soa is.0) is.0,
      tt,
    )
  where
    second : (s t : Bool) → (s && t) ≡ true → t ≡ true
    second true t h = h
    second false t h = absurd (cc)

-- the SOA of a zone as it is shown
pub soa_held : (zone : Zone) → AllByRecursion IsRecord zone.records → AllByRecursion IsRecord (soa_entries zone)
unfolding soa_entries
soa_held zone held = soa_under_held zone.apex zone.records (apex_soa zone) held refl

-- glue
addresses_held : (zone : Zone) (name : Option (List (List ℕ))) → AllByRecursion IsRecord zone.records
    → ((n : List (List ℕ)) → name ≡ Some n → IsName n) → AllByRecursion IsRecord (addresses_of zone name)
unfolding addresses_of
addresses_held zone None held is = tt
addresses_held zone (Some name) held is =
    let rs = each_records_of zone.records name held in
    each_append IsRecord (entries name (of_type 1 (records_of zone.records name)))
    (entries name (of_type 28 (records_of zone.records name)))
    (shown_held name (of_type 1 (records_of zone.records name)) (is name refl)
    (each_of_type 1 (records_of zone.records name) rs))
    (shown_held name (of_type 28 (records_of zone.records name)) (is name refl)
    (each_of_type 28 (records_of zone.records name) rs))

-- a name that passes a test
inside : (b : Bool) (n name : List (List ℕ)) → (if b then Some n else None) ≡ Some name → Some n ≡ Some name
inside true n name h = h
inside false n name h = absurd (cc)

-- a name server within the zone is the target of its record
inner_is : (zone : Zone) (server : Record) (name : List (List ℕ)) → inner_target zone server ≡ Some name
    → target_of server ≡ Some name
inner_is zone server name h =
    elim (target_of server) as (λ t. elim t [ None ↦ None | Some n ↦ if is_within n zone.apex then Some n else None ]
    ≡ Some name → t ≡ Some name) [
      | None ↦ λ q. absurd (cc)
      | Some n ↦ λ q. inside (is_within n zone.apex) n name q
    ] h

-- the addresses of one name server
glue_of_held : (zone : Zone) (server : Record) → AllByRecursion IsRecord zone.records → IsRecord server
    → AllByRecursion IsRecord (glue_of zone server)
unfolding glue_of
glue_of_held zone server held is =
    addresses_held zone (inner_target zone server) held (λ n e. target_name server n is (inner_is zone server n e))

-- the glue of a referral
glue_held : (zone : Zone) (servers : List Record) → AllByRecursion IsRecord zone.records
    → AllByRecursion IsRecord servers → AllByRecursion IsRecord (glue zone servers)
unfolding glue
glue_held zone servers held are =
    each_flat IsRecord IsRecord (glue_of zone) (λ server is. glue_of_held zone server held is) servers are

-- the sections
end_held : (zone : Zone) (trail : Trail) (f : Found) (name : List (List ℕ)) → AllByRecursion IsRecord zone.records
    → AllByRecursion IsAliasHeld trail → HoldsFound f → IsName name → AreHeld (at_end zone trail f name)
unfolding at_end
end_held zone trail (here rs) name held a h is =
    record {
      answer = each_append IsRecord (trail_entries trail) (entries name rs) (trail_held trail a)
          (shown_held name rs is h);
      authority = tt;
      additional = tt;
    }
end_held zone trail no_data name held a h is =
    record { answer = trail_held trail a; authority = soa_held zone held; additional = tt }
end_held zone trail no_name name held a h is =
    record { answer = trail_held trail a; authority = soa_held zone held; additional = tt }
end_held zone trail (referral servers) name held a h is =
    record {
      answer = trail_held trail a;
      authority = shown_own_held servers h;
      additional = glue_held zone servers held h;
    }
end_held zone trail (alias r) name held a h is =
    record { answer = trail_held trail a; authority = tt; additional = tt }
end_held zone trail (rename r) name held a h is =
    record { answer = trail_held trail a; authority = tt; additional = tt }

-- the sections by what a chain ends with
pub ending_held : (zone : Zone) (trail : Trail) (ending : Ending) → AllByRecursion IsRecord zone.records
    → AllByRecursion IsAliasHeld trail → HoldsEnding ending → AreHeld (of_ending zone trail ending)
unfolding of_ending
ending_held zone trail (ended f name) held a h = end_held zone trail f name held a h.0 h.1
ending_held zone trail stopped held a h = record { answer = trail_held trail a; authority = tt; additional = tt }
ending_held zone trail (too_long r) held a h =
    record {
      answer = each_append IsRecord (trail_entries trail) (dname_entries trail r) (trail_held trail a)
          (dname_held trail r h);
      authority = tt;
      additional = tt;
    }

-- the sections of a zone's answer to a name
pub sections_held : (zone : Zone) (name : List (List ℕ)) (kind : ℕ) → AllByRecursion IsRecord zone.records
    → IsName name → AreHeld (sections_of zone name kind)
unfolding sections_of of_chain
sections_held zone name kind held is =
    let chased = chain_held zone.apex zone.records name kind held is in
    ending_held zone (chain_of zone.apex zone.records name kind).trail
    (chain_of zone.apex zone.records name kind).ending held chased.trail chased.ending
