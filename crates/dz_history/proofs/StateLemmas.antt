-- What is read of a state, at a catalog and at a member.
use Rattle.std.proofs.Common.{◌≡◌, ℕ, ◌+◌, ◌<◌, List, [], ◌∷◌, map, length, get_or, refl, sym, ◌∙◌, ap, subst, arith}
use Rattle.std.proofs.Common.{inl, inr, Some, None, Ok, Err}
use Rattle.std.specs.Prelude.{Option, Result, slice_index_or, slice_set, IsSome}
use Rattle.std.specs.List.{find}
use Rattle.std.proofs.lemmas.Bool.{cases_Bool, cases_eq}
use Rattle.std.specs.Option.{option_map, option_and_then, ForSome}
use Rattle.std.proofs.lemmas.List.{get_or_default}
use Rattle.dz_name.specs.Name.{same_name}
use Rattle.dz_name.specs.Order.{same_decides}
use Rattle.dz_zone.specs.Version.{Zone}
use Rattle.dz_take.specs.Taken.{IsOfZone}
use Rattle.dz_take.specs.declared.outcome.TakeFault.{TakeFault}
use Rattle.dz_take.specs.Transfer.{Transfer, Decision, up_to_date, new, refused}
use Rattle.dz_catalog.specs.Listing.{listing_of}
use Rattle.dz_catalog.specs.Answers.{Reads}
use Rattle.dz_catalog.specs.declared.fault.CatalogError.{CatalogError}
use Rattle.dz_catalog.specs.declared.fault.CatalogError.TheVariants.{Broken, OutOfMemory}
use Rattle.dz_take.specs.Fit.{Fits}
use Rattle.dz_take.specs.Outcome.{outcome}
use Rattle.dz_take.proofs.FitLemmas.{outcomes_fit}
use Rattle.dz_settings.specs.declared.key.Key.{Key}
use Rattle.dz_member.specs.declared.listing.Node.{Node}
use Rattle.dz_settings.specs.Key.{IsKey}
use Rattle.dz_member.specs.declared.listing.Broken.{Broken as Reason}
use Rattle.dz_member.specs.Fold.{FoldOf, IsFold}
use Rattle.dz_member.specs.Process.{process}
use Rattle.dz_member.specs.Membership.{MemberOf, settings_at, key_of, policy_of, primaries_of}
use Rattle.dz_table.specs.Slot.{SlotOf, IsSlot}
use Rattle.dz_table.specs.Table.{put, slot_of}
use Rattle.dz_history.specs.declared.aftermath.Aftermath.TheVariants.{Member}
use Rattle.dz_history.specs.After.{counted, taken, taken_from, catalog_after, member_after, aftermath_of}
use Rattle.dz_history.specs.After.{aftermath_from, catalog_aftermath, slot_after, relisted, listed, with_version}
use Rattle.dz_history.specs.After.{refreshed}
use Rattle.dz_history.specs.State.{State, IsState, catalog_at, member_at, incarnation_at, incarnation_from, held_at}
use Rattle.dz_history.specs.State.{held_from, policy_at, policy_from, primaries_at, primaries_from, key_at, key_from}
use Rattle.dz_history.proofs.FindLemmas.{found_passes, place_within, place_passes}
use Rattle.dz_history.proofs.BegunLemmas.{processed_begun, all_later}
use Rattle.dz_history.proofs.SlotLemmas.{slots_zones, put_zones}
use Rattle.std.proofs.lemmas.List.{length-set, get_or-set_same, get_or-set_other}

pub counted_is : (s : State) → record s { count = s.count + 1 } ≡ counted s
unfolding counted
counted_is s = refl

pub incarnation_catalog : (s : State) (zone : List (List ℕ)) (number : ℕ) → Some number ≡ catalog_at s zone
    → incarnation_at s zone ≡ Some 0
unfolding incarnation_at
incarnation_catalog s zone number e = ap (incarnation_from s zone) (sym e)

pub incarnation_member : (s : State) (zone : List (List ℕ)) → None ≡ catalog_at s zone
    → incarnation_at s zone ≡ option_map (λ m. m.incarnation) (member_at s zone)
unfolding incarnation_at
incarnation_member s zone e = ap (incarnation_from s zone) (sym e)

pub held_catalog : (s : State) (zone : List (List ℕ)) (number : ℕ) → Some number ≡ catalog_at s zone
    → held_at s zone ≡ slice_index_or s.versions number None
unfolding held_at
held_catalog s zone number e = ap (held_from s zone) (sym e)

pub held_member : (s : State) (zone : List (List ℕ)) → None ≡ catalog_at s zone
    → held_at s zone ≡ option_and_then (λ slot. slot.version) (slot_of zone s.table)
unfolding held_at
held_member s zone e = ap (held_from s zone) (sym e)

pub policy_catalog : (s : State) (zone : List (List ℕ)) (number : ℕ) → Some number ≡ catalog_at s zone
    → policy_at s zone ≡ Some (settings_at s.fold.config number).policy
unfolding policy_at
policy_catalog s zone number e = ap (policy_from s zone) (sym e)

pub policy_member : (s : State) (zone : List (List ℕ)) → None ≡ catalog_at s zone
    → policy_at s zone ≡ option_and_then (policy_of s.fold.config) (member_at s zone)
unfolding policy_at
policy_member s zone e = ap (policy_from s zone) (sym e)

pub primaries_catalog : (s : State) (zone : List (List ℕ)) (number : ℕ) → Some number ≡ catalog_at s zone
    → primaries_at s zone ≡ Some (settings_at s.fold.config number).primaries
unfolding primaries_at
primaries_catalog s zone number e = ap (primaries_from s zone) (sym e)

pub primaries_member : (s : State) (zone : List (List ℕ)) → None ≡ catalog_at s zone
    → primaries_at s zone ≡ option_and_then (primaries_of s.fold.config) (member_at s zone)
unfolding primaries_at
primaries_member s zone e = ap (primaries_from s zone) (sym e)

pub key_catalog : (s : State) (zone : List (List ℕ)) (number : ℕ) → Some number ≡ catalog_at s zone
    → key_at s zone ≡ (settings_at s.fold.config number).key
unfolding key_at
key_catalog s zone number e = ap (key_from s zone) (sym e)

pub key_member : (s : State) (zone : List (List ℕ)) → None ≡ catalog_at s zone
    → key_at s zone ≡ option_and_then (key_of s.fold.config) (member_at s zone)
unfolding key_at
key_member s zone e = ap (key_from s zone) (sym e)

-- a key that can be used is used where it is the same
pub usable_as : (a b : Option Key) → a ≡ b → ForSome b IsKey → ForSome a IsKey
usable_as a b e h = rw e h

pub usable_none : (a : Option Key) → a ≡ None → ForSome a IsKey
usable_none None e x is = absurd (cc)
usable_none (Some key) e x is = absurd (cc)

-- the version of a catalog is of the zone that has its name
named : (o : Option Zone) (name zone : List (List ℕ)) → ForSome o (λ z. z.apex ≡ name) → name ≡ zone → IsOfZone zone o
named None name zone h e = tt
named (Some z) name zone h e = h z refl ∙ e

pub catalog_named : (s : State) (zone : List (List ℕ)) (number : ℕ) → Some number ≡ catalog_at s zone
    → (settings_at s.fold.config number).name ≡ zone
catalog_named s zone number e =
    (same_decides _ zone).0 (place_passes (λ c. same_name c.name zone) s.fold.config number _ e)

pub held_is_own : (s : State) (zone : List (List ℕ)) (number : ℕ) → IsState s → Some number ≡ catalog_at s zone
    → IsOfZone zone (held_at s zone)
held_is_own s zone number ok e = rw (held_catalog s zone number e)
    (named (slice_index_or s.versions number None) _ zone (ok.own number) (catalog_named s zone number e))

pub version_there : (s : State) (zone : List (List ℕ)) (number : ℕ) (d : Option Zone) → IsState s
    → Some number ≡ catalog_at s zone → get_or s.versions number d ≡ held_at s zone
version_there s zone number d ok e =
    let lt : number < length s.versions =
    rw ok.each (place_within (λ c. same_name c.name zone) s.fold.config number e) in
    get_or_default s.versions number d None lt ∙ sym (held_catalog s zone number e)

-- that of a member is its slot's
pub slot_own : (s : State) (zone : List (List ℕ)) (slot : SlotOf) → None ≡ catalog_at s zone
    → Some slot ≡ slot_of zone s.table → IsSlot slot → IsOfZone zone (held_at s zone)
slot_own s zone slot e found ok =
    rw (held_member s zone e, ← found) (named slot.version slot.zone zone ok.apex
    ((same_decides slot.zone zone).0 (found_passes (λ x. same_name x.zone zone) s.table slot found)))

pub none_own : (s : State) (zone : List (List ℕ)) → None ≡ catalog_at s zone → None ≡ slot_of zone s.table
    → IsOfZone zone (held_at s zone)
none_own s zone e found = rw (held_member s zone e, ← found) tt

-- a member has a slot
pub same_found : (zone : List (List ℕ)) (ms : List MemberOf) (slots : List SlotOf)
    → map (λ slot. slot.zone) slots ≡ map (λ m. m.zone) ms
    → IsSome (find (λ m. same_name m.zone zone) ms) → IsSome (slot_of zone slots)
same_found zone [] slots e h = absurd (cc)
same_found zone (m ∷ ms) [] e h = absurd (cc)
same_found zone (m ∷ ms) (slot ∷ slots) e h =
    let first : slot.zone ≡ m.zone = cc in
    let rest : map (λ x. x.zone) slots ≡ map (λ x. x.zone) ms = cc in
    elim (cases_Bool (same_name m.zone zone)) [
      | inl t ↦ rw (first, t) refl
      | inr f ↦ rw (first, f) (same_found zone ms slots rest (rw f at h))
    ]

some_mapped : {X Y : Type 0} (f : X → Y) (o : Option X) → IsSome (option_map f o) → IsSome o
some_mapped f None h = absurd (cc)
some_mapped f (Some x) h = refl

pub slot_there : (s : State) (zone : List (List ℕ)) → IsState s → None ≡ catalog_at s zone
    → IsSome (incarnation_at s zone) → IsSome (slot_of zone s.table)
slot_there s zone ok e h = same_found zone s.fold.members s.table ok.members
    (some_mapped (λ m. m.incarnation) (member_at s zone) (rw (incarnation_member s zone e) at h))

-- what a transfer makes of a state, at a catalog and at a member
pub taken_catalog : (s : State) (zone : List (List ℕ)) (moment number : ℕ) (d : Decision)
    → Some number ≡ catalog_at s zone → taken s zone moment d ≡ counted (catalog_after s number zone d)
unfolding taken
taken_catalog s zone moment number d e = ap (λ o. counted (taken_from s zone moment d o)) (sym e)

pub taken_member : (s : State) (zone : List (List ℕ)) (moment : ℕ) (d : Decision) → None ≡ catalog_at s zone
    → taken s zone moment d ≡ counted (member_after s zone moment d)
unfolding taken
taken_member s zone moment d e = ap (λ o. counted (taken_from s zone moment d o)) (sym e)

pub aftermath_catalog : (s : State) (zone : List (List ℕ)) (number : ℕ) (d : Decision)
    → Some number ≡ catalog_at s zone → aftermath_of s zone d ≡ catalog_aftermath s zone d
unfolding aftermath_of
aftermath_catalog s zone number d e = ap (aftermath_from s zone d) (sym e)

pub aftermath_member : (s : State) (zone : List (List ℕ)) (d : Decision) → None ≡ catalog_at s zone
    → aftermath_of s zone d ≡ Member
unfolding aftermath_of
aftermath_member s zone d e = ap (aftermath_from s zone d) (sym e)

-- where there is no new version nothing but the count and a slot changes
either_way : {A : Type 0} (P : A → Type 0) (o : Option ℕ) (f : Option ℕ → A) → ((n : ℕ) → P (f (Some n)))
    → P (f None) → P (f o)
either_way P None f some none = none
either_way P (Some n) f some none = some n

pub refused_stays : (s : State) (zone : List (List ℕ)) (moment : ℕ) (fault : TakeFault)
    → taken s zone moment (refused fault) ≡ counted s
unfolding taken catalog_after member_after
refused_stays s zone moment fault = either_way (λ x. counted x ≡ counted s) (catalog_at s zone)
    (taken_from s zone moment (refused fault)) (λ n. refl) refl

pub refused_alone : (s : State) (zone : List (List ℕ)) (fault : TakeFault)
    → aftermath_of s zone (refused fault) ≡ Member
unfolding aftermath_of
refused_alone s zone fault =
    either_way (λ x. x ≡ Member) (catalog_at s zone) (aftermath_from s zone (refused fault)) (λ n. refl) refl

pub same_alone : (s : State) (zone : List (List ℕ)) → aftermath_of s zone up_to_date ≡ Member
unfolding aftermath_of
same_alone s zone =
    either_way (λ x. x ≡ Member) (catalog_at s zone) (aftermath_from s zone up_to_date) (λ n. refl) refl

-- ---- what keeps a state
pub slot_own_zone : (zone : List (List ℕ)) (slots : List SlotOf) (slot : SlotOf) → Some slot ≡ slot_of zone slots
    → slot_of slot.zone slots ≡ Some slot
slot_own_zone zone slots slot e = subst (λ z. slot_of z slots ≡ Some slot)
    (sym ((same_decides slot.zone zone).0 (found_passes (λ s. same_name s.zone zone) slots slot e))) (sym e)

pub put_state : (s : State) (slot : SlotOf) → IsState s → IsSome (slot_of slot.zone s.table)
    → IsState (record s { table = put s.table slot })
put_state s slot ok h = record {
  fold = ok.fold;
  each = ok.each;
  own = ok.own;
  members = put_zones slot s.table (rw ok.members ok.fold.rises) h ∙ ok.members;
  begun = ok.begun;
  some = ok.some;
}

pub later_state : (s : State) → IsState s → IsState (record s { count = s.count + 1 })
later_state s ok = record {
  fold = ok.fold;
  each = ok.each;
  own = ok.own;
  members = ok.members;
  begun = all_later s.count s.fold.members ok.begun;
  some = omega (arith, ok.some);
}

process_config : (fold : FoldOf) (catalog : List (List ℕ)) (nodes : List Node) (position : ℕ)
    → (process fold catalog nodes position).config ≡ fold.config
unfolding process
process_config fold catalog nodes position = refl

pub relisted_state : (s : State) (catalog : List (List ℕ)) (nodes : List Node) (fold : FoldOf) (table : List SlotOf)
    → IsState s → IsFold fold → fold ≡ process s.fold catalog nodes s.count
    → table ≡ map (slot_after s) fold.members → IsState (record s { fold = fold; table = table; count = s.count + 1 })
relisted_state s catalog nodes fold table ok is_fold e f =
    let config : fold.config ≡ s.fold.config =
    ap (λ (x : FoldOf). x.config) e ∙ process_config s.fold catalog nodes s.count in
    record {
      fold = is_fold;
      each = rw config ok.each;
      own = rw config ok.own;
      members = rw f (slots_zones s fold.members);
      begun = rw e (processed_begun s.fold catalog s.count ok.some nodes ok.begun);
      some = omega (arith, ok.some);
    }

pub relisted_is : (s : State) (catalog : List (List ℕ)) (nodes : List Node) (fold : FoldOf) (table : List SlotOf)
    → fold ≡ process s.fold catalog nodes s.count → table ≡ map (slot_after s) fold.members
    → counted (record s { fold = fold; table = table }) ≡ counted (relisted s catalog nodes)
unfolding relisted
relisted_is s catalog nodes fold table e f = rw (f, e) refl

own_set : (s : State) (number : ℕ) (zone : Zone) (k : ℕ) → IsState s → number < length s.versions
    → zone.apex ≡ (settings_at s.fold.config number).name
    → ForSome (get_or (slice_set s.versions number (Some zone)) k None)
    (λ z. z.apex ≡ (settings_at s.fold.config k).name)
own_set s number zone k ok lt e = elim (cases_eq k number) [
  | inl same ↦
      rw same
      (rw (get_or-set_same s.versions number (Some zone) None lt) (λ z is. let f : zone ≡ z = cc in rw (← f) e))
  | inr other ↦ rw (get_or-set_other s.versions number k (Some zone) None other) (ok.own k)
]

pub version_state : (s : State) (number : ℕ) (zone : Zone) → IsState s → number < length s.fold.config
    → zone.apex ≡ (settings_at s.fold.config number).name → IsState (with_version s number zone)
version_state s number zone ok lt e = record {
  fold = ok.fold;
  each = length-set s.versions number (Some zone) ∙ ok.each;
  own = λ k. own_set s number zone k ok (rw ok.each lt) e;
  members = ok.members;
  begun = ok.begun;
  some = ok.some;
}

pub new_catalog : (s : State) (number : ℕ) (catalog : List (List ℕ)) (zone : Zone) → catalog_after s number catalog
    (new zone) ≡ listed (with_version s number zone) catalog (listing_of zone.apex zone.records)
unfolding catalog_after
new_catalog s number catalog zone = refl

pub same_catalog : (s : State) (number : ℕ) (catalog : List (List ℕ)) → catalog_after s number catalog up_to_date ≡ s
unfolding catalog_after
same_catalog s number catalog = refl

pub new_member : (s : State) (zone : List (List ℕ)) (moment : ℕ) (version : Zone)
    → member_after s zone moment (new version)
    ≡ record s { table = put s.table (record { zone = zone; refreshed = moment; version = Some version }) }
unfolding member_after
new_member s zone moment version = refl

pub same_member : (s : State) (zone : List (List ℕ)) (moment : ℕ)
    → member_after s zone moment up_to_date ≡ record s { table = refreshed s.table moment (slot_of zone s.table) }
unfolding member_after
same_member s zone moment = refl

-- a listing that was read, and a reason
pub listed_ok : (s : State) (number : ℕ) (catalog : List (List ℕ)) (zone : Zone) (nodes : List Node)
    → listing_of zone.apex zone.records ≡ Ok nodes
    → catalog_after s number catalog (new zone) ≡ relisted (with_version s number zone) catalog nodes
listed_ok s number catalog zone nodes e =
    new_catalog s number catalog zone ∙ ap (listed (with_version s number zone) catalog) e

pub listed_err : (s : State) (number : ℕ) (catalog : List (List ℕ)) (zone : Zone) (reason : Reason)
    → listing_of zone.apex zone.records ≡ Err reason
    → catalog_after s number catalog (new zone) ≡ with_version s number zone
listed_err s number catalog zone reason e =
    new_catalog s number catalog zone ∙ ap (listed (with_version s number zone) catalog) e

pub same_member_none : (s : State) (zone : List (List ℕ)) (moment : ℕ) → None ≡ slot_of zone s.table
    → member_after s zone moment up_to_date ≡ s
same_member_none s zone moment e =
    same_member s zone moment ∙ ap (λ o. record s { table = refreshed s.table moment o }) (sym e)

pub same_member_some : (s : State) (zone : List (List ℕ)) (moment : ℕ) (slot : SlotOf)
    → Some slot ≡ slot_of zone s.table
    → member_after s zone moment up_to_date ≡ record s { table = put s.table (record slot { refreshed = moment }) }
same_member_some s zone moment slot e =
    same_member s zone moment ∙ ap (λ o. record s { table = refreshed s.table moment o }) (sym e)

pub reads_err : (r : Result (List Node) CatalogError) (listing : Result (List Node) Reason) (reason : Reason)
    (e : CatalogError) → r ≡ Err e → e ≡ Broken reason → Reads r listing → listing ≡ Err reason
reads_err (Ok nodes) listing reason e is b h = absurd (cc)
reads_err (Err (Broken other)) listing reason e is b h = let same : other ≡ reason = cc in rw (← same) h
reads_err (Err OutOfMemory) listing reason e is b h = absurd (cc)

-- a new version is of the zone that was asked for
pub new_fits : (t : Transfer) (octets : List ℕ) (zone : Zone) → outcome t octets ≡ new zone → zone.apex ≡ t.apex
new_fits t octets zone e = subst (Fits t) e (outcomes_fit t octets)
