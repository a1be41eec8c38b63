-- What is assigned and held stays valid, entry by entry.
use Rattle.std.proofs.Common.{◌≡◌, ℕ, Bool, true, false, List, [], ◌∷◌, ◌++◌, map, length, replicate, refl, sym, ◌∙◌}
use Rattle.std.proofs.Common.{subst, arith, inl, inr, Some, None, Ok, Err}
use Rattle.std.specs.Prelude.{Option, Result, slice_set, slice_index_or, ◌==◌, IsSome, if◌then◌else◌, zero, suc}
use Rattle.std.specs.Option.{option_map_or, option_or, option_and_then, unwrap_or, ForSome}
use Rattle.std.specs.List.{AllByRecursion}
use Rattle.std.specs.List.Sorted.{IsStrictlySortedBy}
use Rattle.std.proofs.lemmas.Bool.{cases_Bool}
use Rattle.std.proofs.lemmas.List.{length-set, length-replicate}
use Rattle.dz_name.specs.Name.{same_name}
use Rattle.dz_name.specs.Order.{same_decides}
use Rattle.dz_record.specs.Record.{Record}
use Rattle.dz_zone.specs.Version.{Zone}
use Rattle.dz_settings.specs.declared.config.CatalogSettings.{CatalogSettings}
use Rattle.dz_member.specs.declared.listing.Node.{Node}
use Rattle.dz_member.specs.declared.listing.Broken.{Broken as Reason}
use Rattle.dz_member.specs.declared.listing.Broken.TheVariants.{ZoneTwice}
use Rattle.dz_settings.specs.Config.{IsAllowed}
use Rattle.dz_member.specs.Membership.{MemberOf}
use Rattle.dz_member.specs.Listing.{same_zone}
use Rattle.dz_settings.specs.Twice.{has_twice}
use Rattle.dz_member.specs.Fold.{FoldOf, IsFold, number_of, started}
use Rattle.dz_member.specs.Process.{process}
use Rattle.dz_member.proofs.OrderLemmas.{sorted_rise}
use Rattle.dz_member.proofs.ZoneLemmas.{order_after}
use Rattle.dz_catalog.specs.Member.{nodes_of}
use Rattle.dz_catalog.specs.Broken.{broken_records, zone_twice}
use Rattle.dz_catalog.specs.Listing.{listing_from, listing_of}
use Rattle.dz_table.specs.Slot.{SlotOf}
use Rattle.dz_table.specs.Table.{put, slot_of}
use Rattle.dz_take.specs.Taken.{IsOfZone}
use Rattle.dz_take.specs.Transfer.{Decision, up_to_date, new, refused}
use Rattle.dz_history.specs.declared.entry.Taken.{Taken}
use Rattle.dz_history.specs.declared.entry.Entry.TheVariants.{Transfer}
use Rattle.dz_history.specs.State.{State, IsState, opened, catalog_at, member_at, incarnation_at, held_at}
use Rattle.dz_history.specs.After.{fresh, slot_from, slot_after, refreshed, counted, listed, relisted, with_version}
use Rattle.dz_history.specs.After.{catalog_after, member_after, taken_from, taken, transfer_of, decision_of, step}
use Rattle.dz_history.proofs.FindLemmas.{place_within, found_passes}
use Rattle.dz_history.proofs.StepLemmas.{step_by}
use Rattle.dz_fleet.proofs.FlightLemmas.{all_filter}
use Rattle.dz_history.proofs.StateLemmas.{catalog_named, held_is_own, slot_there, put_state, later_state}
use Rattle.dz_history.proofs.StateLemmas.{relisted_state, version_state, new_fits, held_member}

-- ---- the members after a listing
with_length : (o : Option ℕ) (ls : List (Option (List Node))) (nodes : List Node)
    → length (option_map_or (λ number. slice_set ls number (Some nodes)) o ls) ≡ length ls
with_length None ls nodes = refl
with_length (Some n) ls nodes = length-set ls n (Some nodes)

fold_processed : (fold : FoldOf) (catalog : List (List ℕ)) (nodes : List Node) (position : ℕ) → IsFold fold
    → has_twice same_zone nodes ≡ false → IsFold (process fold catalog nodes position)
unfolding process
fold_processed fold catalog nodes position ok once = record {
  allowed = ok.allowed;
  rises = order_after fold catalog nodes position ok.rises (sorted_rise nodes once);
  each = with_length (number_of fold.config catalog) fold.listings nodes ∙ ok.each;
}

-- a listing has no zone twice
once_from : (o : Option Reason) (b : Bool) (all nodes : List Node) → has_twice same_zone all ≡ b
    → listing_from all (option_or o (if b then Some ZoneTwice else None)) ≡ Ok nodes
    → has_twice same_zone nodes ≡ false
once_from (Some reason) b all nodes e h = absurd (cc)
once_from None true all nodes e h = absurd (cc)
once_from None false all nodes e h = let same : all ≡ nodes = cc in subst (λ ns. has_twice same_zone ns ≡ false) same e

once_listed : (apex : List (List ℕ)) (records : List Record) (nodes : List Node) → listing_of apex records ≡ Ok nodes
    → has_twice same_zone nodes ≡ false
once_listed apex records nodes h =
    once_from (broken_records apex records) (zone_twice (nodes_of apex records)) (nodes_of apex records) nodes refl h

-- ---- after a transfer of an assigned zone
pub apex_new : (s : State) (t : Taken) (zone : Zone) → decision_of s t ≡ new zone → zone.apex ≡ t.zone
unfolding decision_of
apex_new s t zone d = new_fits (transfer_of s t) t.octets zone d

version_new : (s : State) (t : Taken) (number : ℕ) (zone : Zone) → IsState s → Some number ≡ catalog_at s t.zone
    → decision_of s t ≡ new zone → IsState (with_version s number zone)
version_new s t number zone ok at d =
    version_state s number zone ok (place_within (λ c. same_name c.name t.zone) s.fold.config number at)
    (apex_new s t zone d ∙ sym (catalog_named s t.zone number at))

relisted_new : (s : State) (catalog : List (List ℕ)) (zone : Zone) (nodes : List Node) → IsState s
    → listing_of zone.apex zone.records ≡ Ok nodes → IsState (counted (relisted s catalog nodes))
unfolding counted relisted
relisted_new s catalog zone nodes ok l =
    let fold = process s.fold catalog nodes s.count in
    relisted_state s catalog nodes fold (map (slot_after s) fold.members) ok
    (fold_processed s.fold catalog nodes s.count ok.fold (once_listed zone.apex zone.records nodes l)) refl refl

slot_put : (s : State) (t : Taken) (slot : SlotOf) → IsState s → IsSome (incarnation_at s t.zone)
    → None ≡ catalog_at s t.zone → slot.zone ≡ t.zone → IsState (record s { table = put s.table slot })
slot_put s t slot ok some none own =
    put_state s slot ok (subst (λ z. IsSome (slot_of z s.table)) (sym own) (slot_there s t.zone ok none some))

pub state_step : (s : State) (t : Taken) → IsState s → IsSome (incarnation_at s t.zone) → IsState (step s (Transfer t))
unfolding counted
state_step s t ok some =
    step_by s t IsState (later_state s ok)
    (λ slot none own. later_state (record s { table = put s.table slot }) (slot_put s t slot ok some none own))
    (λ number zone at d. later_state (with_version s number zone) (version_new s t number zone ok at d))
    (λ number zone nodes at d l. relisted_new (with_version s number zone) t.zone zone nodes
    (version_new s t number zone ok at d) l)

-- ---- the state of a configuration
none_at : (n k : ℕ) (zone : Zone) → slice_index_or (replicate n None) k None ≡ Some zone → ⊥
none_at zero k zone e = cc
none_at (suc n) zero zone e = cc
none_at (suc n) (suc k) zone e = none_at n k zone e

fold_started : (config : List CatalogSettings) → IsAllowed config → IsFold (started config)
unfolding IsStrictlySortedBy
fold_started config allowed = record { allowed = allowed; rises = tt; each = length-replicate (length config) None }

pub state_opened : (config : List CatalogSettings) → IsAllowed config → IsState (opened config)
state_opened config allowed = record {
  fold = fold_started config allowed;
  each = length-replicate (length config) None;
  own = λ number zone e. absurd (none_at (length config) number zone e);
  members = refl;
  begun = tt;
  some = omega arith;
}

-- ---- a version is of its slot's zone
abbrev pub IsOwnSlot : SlotOf → Type 0
IsOwnSlot slot = ForSome slot.version (λ zone. zone.apex ≡ slot.zone)

abbrev pub AreOwn : State → Type 0
AreOwn s = AllByRecursion IsOwnSlot s.table

all_joined : {X : Type 0} (P : X → Type 0) (xs ys : List X) → AllByRecursion P xs → AllByRecursion P ys
    → AllByRecursion P (xs ++ ys)
all_joined P [] ys h g = g
all_joined P (x ∷ xs) ys h g = (h.0, all_joined P xs ys h.1 g)

put_own : (slots : List SlotOf) (slot : SlotOf) → AllByRecursion IsOwnSlot slots → IsOwnSlot slot
    → AllByRecursion IsOwnSlot (put slots slot)
unfolding put
put_own slots slot h own =
    all_joined IsOwnSlot _ _ (all_filter IsOwnSlot _ slots h) (own, all_filter IsOwnSlot _ slots h)

found_own : (zone : List (List ℕ)) (slots : List SlotOf) (slot : SlotOf) → AllByRecursion IsOwnSlot slots
    → slot_of zone slots ≡ Some slot → IsOwnSlot slot
found_own zone [] slot h e = absurd (cc)
found_own zone (x ∷ xs) slot h e = elim (cases_Bool (same_name x.zone zone)) [
  | inl t ↦ let f : Some x ≡ Some slot = rw t at e in let same : x ≡ slot = cc in subst IsOwnSlot same h.0
  | inr f ↦ found_own zone xs slot h.1 (rw f at e)
]

fresh_own : (zone : List (List ℕ)) → IsOwnSlot (fresh zone)
fresh_own zone z e = absurd (cc)

unwrapped_own : (zone : List (List ℕ)) (slots : List SlotOf) (o : Option SlotOf) → AllByRecursion IsOwnSlot slots
    → slot_of zone slots ≡ o → IsOwnSlot (unwrap_or o (fresh zone))
unwrapped_own zone slots None h e = fresh_own zone
unwrapped_own zone slots (Some slot) h e = found_own zone slots slot h e

from_own : (s : State) (m : MemberOf) (o : Option MemberOf) → AreOwn s → IsOwnSlot (slot_from s m o)
from_own s m None h = fresh_own m.zone
from_own s m (Some before) h = elim (cases_Bool (before.incarnation == m.incarnation)) [
  | inl t ↦ rw t (unwrapped_own m.zone s.table (slot_of m.zone s.table) h refl)
  | inr f ↦ rw f (fresh_own m.zone)
]

slot_own : (s : State) (m : MemberOf) → AreOwn s → IsOwnSlot (slot_after s m)
unfolding slot_after
slot_own s m h = from_own s m (member_at s m.zone) h

slots_own : (s : State) (ms : List MemberOf) → AreOwn s → AllByRecursion IsOwnSlot (map (slot_after s) ms)
slots_own s [] h = tt
slots_own s (m ∷ ms) h = (slot_own s m h, slots_own s ms h)

own_listed : (s : State) (catalog : List (List ℕ)) (r : Result (List Node) Reason) → AreOwn s
    → AreOwn (counted (listed s catalog r))
unfolding counted relisted
own_listed s catalog (Ok nodes) h = slots_own s (process s.fold catalog nodes s.count).members h
own_listed s catalog (Err reason) h = h

own_catalog : (s : State) (number : ℕ) (catalog : List (List ℕ)) (d : Decision) → AreOwn s
    → AreOwn (counted (catalog_after s number catalog d))
unfolding counted catalog_after
own_catalog s number catalog up_to_date h = h
own_catalog s number catalog (refused fault) h = h
own_catalog s number catalog (new zone) h =
    own_listed (with_version s number zone) catalog (listing_of zone.apex zone.records) h

own_refreshed : (s : State) (zone : List (List ℕ)) (moment : ℕ) (o : Option SlotOf) → slot_of zone s.table ≡ o
    → AreOwn s → AllByRecursion IsOwnSlot (refreshed s.table moment o)
own_refreshed s zone moment None e h = h
own_refreshed s zone moment (Some slot) e h =
    put_own s.table (record slot { refreshed = moment }) h (found_own zone s.table slot h e)

version_slot : (zone : List (List ℕ)) (moment : ℕ) (v : Zone) → v.apex ≡ zone
    → IsOwnSlot record { zone = zone; refreshed = moment; version = Some v }
version_slot zone moment v own z e = let same : v ≡ z = cc in subst (λ (x : Zone). x.apex ≡ zone) same own

own_member : (s : State) (zone : List (List ℕ)) (moment : ℕ) (d : Decision) → ((v : Zone) → d ≡ new v → v.apex ≡ zone)
    → AreOwn s → AreOwn (counted (member_after s zone moment d))
unfolding counted member_after
own_member s zone moment up_to_date f h = own_refreshed s zone moment (slot_of zone s.table) refl h
own_member s zone moment (refused fault) f h = h
own_member s zone moment (new v) f h = put_own s.table (record { zone = zone; refreshed = moment; version = Some v }) h
    (version_slot zone moment v (f v refl))

own_from : (s : State) (t : Taken) (o : Option ℕ) → AreOwn s
    → AreOwn (counted (taken_from s t.zone t.moment (decision_of s t) o))
own_from s t (Some number) h = own_catalog s number t.zone (decision_of s t) h
own_from s t None h = own_member s t.zone t.moment (decision_of s t) (λ v e. apex_new s t v e) h

pub own_step : (s : State) (t : Taken) → AreOwn s → AreOwn (step s (Transfer t))
unfolding step taken
own_step s t h = own_from s t (catalog_at s t.zone) h

version_of : (v : Option Zone) (own zone : List (List ℕ)) → ForSome v (λ z. z.apex ≡ own) → own ≡ zone
    → IsOfZone zone v
version_of None own zone h e = tt
version_of (Some z) own zone h e = h z refl ∙ e

held_by_slot : (zone : List (List ℕ)) (slots : List SlotOf) (o : Option SlotOf) → slot_of zone slots ≡ o
    → AllByRecursion IsOwnSlot slots → IsOfZone zone (option_and_then (λ slot. slot.version) o)
held_by_slot zone slots None e h = tt
held_by_slot zone slots (Some slot) e h =
    version_of slot.version slot.zone zone (found_own zone slots slot h e)
    ((same_decides slot.zone zone).0 (found_passes (λ x. same_name x.zone zone) slots slot (sym e)))

held_from_own : (s : State) (zone : List (List ℕ)) (o : Option ℕ) → o ≡ catalog_at s zone → IsState s → AreOwn s
    → IsOfZone zone (held_at s zone)
held_from_own s zone (Some number) e ok h = held_is_own s zone number ok e
held_from_own s zone None e ok h =
    subst (IsOfZone zone) (sym (held_member s zone e)) (held_by_slot zone s.table (slot_of zone s.table) refl h)

-- what is held of a zone is a version of it
pub held_own : (s : State) (zone : List (List ℕ)) → IsState s → AreOwn s → IsOfZone zone (held_at s zone)
held_own s zone ok h = held_from_own s zone (catalog_at s zone) refl ok h
