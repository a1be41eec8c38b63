-- What is held after a transfer's entry.
use Rattle.std.proofs.Common.{◌≡◌, ◌≢◌, ℕ, ◌<◌, true, false, List, [], ◌∷◌, map, length, get_or, refl, sym, ◌∙◌, ap}
use Rattle.std.proofs.Common.{inl, inr, Some, None, Ok, Err}
use Rattle.std.specs.Prelude.{Option, Result, slice_set, slice_index_or, IsSome}
use Rattle.std.specs.Option.{option_map, option_and_then, unwrap_or}
use Rattle.std.proofs.lemmas.Bool.{cases_Bool}
use Rattle.std.proofs.lemmas.List.{get_or-set_same, get_or-set_other}
use Rattle.dz_name.specs.Words.{Name}
use Rattle.dz_name.specs.Name.{same_name}
use Rattle.dz_name.specs.Order.{same_decides}
use Rattle.dz_zone.specs.Version.{Zone}
use Rattle.dz_take.specs.Transfer.{Decision, up_to_date, new, refused}
use Rattle.dz_take.specs.declared.outcome.TakeFault.{TakeFault}
use Rattle.dz_catalog.specs.Listing.{listing_of}
use Rattle.dz_member.specs.declared.listing.Node.{Node}
use Rattle.dz_member.specs.declared.listing.Broken.{Broken as Reason}
use Rattle.dz_member.specs.Membership.{MemberOf, settings_at, primaries_of}
use Rattle.dz_member.specs.Fold.{FoldOf, number_of, member_of}
use Rattle.dz_table.specs.Slot.{SlotOf}
use Rattle.dz_table.specs.Table.{put, slot_of}
use Rattle.dz_table.proofs.Putting.{put_own, put_others}
use Rattle.dz_history.specs.declared.entry.Taken.{Taken}
use Rattle.dz_history.specs.declared.entry.Entry.TheVariants.{Transfer}
use Rattle.dz_history.specs.State.{State, IsState, catalog_at, member_at, incarnation_at, incarnation_from, held_at}
use Rattle.dz_history.specs.State.{held_from, stands, primaries_at, primaries_from}
use Rattle.dz_history.specs.After.{fresh, slot_after, counted, taken, decision_of, relisted, listed, with_version}
use Rattle.dz_history.specs.After.{step}
use Rattle.dz_history.specs.Places.{seats, place_at, place_from}
use Rattle.dz_history.proofs.FindLemmas.{found_passes, place_within as within}
use Rattle.dz_history.proofs.SlotLemmas.{slot_zone, slot_same}
use Rattle.dz_history.proofs.StateLemmas.{catalog_named, held_catalog, held_member, taken_catalog, taken_member}
use Rattle.dz_history.proofs.StateLemmas.{new_catalog, same_catalog, new_member, same_member_none, same_member_some}
use Rattle.dz_history.proofs.StateLemmas.{refused_stays}
use Rattle.dz_history.proofs.StepLemmas.{step_by}
use Rattle.dz_history.proofs.StandsLemmas.{catalog_step}
use Rattle.dz_history.proofs.PlaceLemmas.{place_catalog, stands_member, IsMember}

-- ---- what depends on the fold alone
same_incarnation : (a b : State) (zone : Name) (o : Option ℕ) → a.fold ≡ b.fold
    → incarnation_from a zone o ≡ incarnation_from b zone o
same_incarnation a b zone (Some number) e = refl
same_incarnation a b zone None e =
    ap (λ (f : FoldOf). option_map (λ (m : MemberOf). m.incarnation) (member_of zone f.members)) e

pub incarnation_by_fold : (a b : State) (zone : Name) → a.fold ≡ b.fold → incarnation_at a zone ≡ incarnation_at b zone
unfolding incarnation_at
incarnation_by_fold a b zone e = ap (λ (f : FoldOf). incarnation_from a zone (number_of f.config zone)) e
    ∙ same_incarnation a b zone (catalog_at b zone) e

pub stands_by_fold : (a b : State) (zone : Name) (i : ℕ) → a.fold ≡ b.fold → stands a zone i ≡ stands b zone i
stands_by_fold a b zone i e = rw (incarnation_by_fold a b zone e) refl

same_place : (a b : State) (zone : Name) (o : Option ℕ) → a.fold ≡ b.fold → place_from a zone o ≡ place_from b zone o
same_place a b zone (Some number) e = refl
same_place a b zone None e = ap (λ (f : FoldOf). place_from (record a { fold = f }) zone None) e

pub place_by_fold : (a b : State) (zone : Name) → a.fold ≡ b.fold → place_at a zone ≡ place_at b zone
unfolding place_at
place_by_fold a b zone e = ap (λ (f : FoldOf). place_from a zone (number_of f.config zone)) e
    ∙ same_place a b zone (catalog_at b zone) e

pub seats_by_fold : (a b : State) → a.fold ≡ b.fold → seats a ≡ seats b
seats_by_fold a b e = ap (λ (f : FoldOf). seats (record a { fold = f })) e

same_primaries : (a b : State) (zone : Name) (o : Option ℕ) → a.fold ≡ b.fold
    → primaries_from a zone o ≡ primaries_from b zone o
same_primaries a b zone (Some number) e = ap (λ (f : FoldOf). Some (settings_at f.config number).primaries) e
same_primaries a b zone None e =
    ap (λ (f : FoldOf). option_and_then (primaries_of f.config) (member_of zone f.members)) e

pub primaries_by_fold : (a b : State) (zone : Name) → a.fold ≡ b.fold → primaries_at a zone ≡ primaries_at b zone
unfolding primaries_at
primaries_by_fold a b zone e = ap (λ (f : FoldOf). primaries_from a zone (number_of f.config zone)) e
    ∙ same_primaries a b zone (catalog_at b zone) e

-- ---- entries that change no membership
no_number : {A : Type 0} (o : Option ℕ) (number : ℕ) → o ≡ None → Some number ≡ o → A
no_number o number e f = absurd (let q : Some number ≡ None = f ∙ e in cc)

pub fold_of_member : (s : State) (t : Taken) → catalog_at s t.zone ≡ None → (step s (Transfer t)).fold ≡ s.fold
unfolding counted
fold_of_member s t none = step_by s t (λ x. x.fold ≡ s.fold) refl (λ _ _ _. refl) (λ _ _ _ _. refl)
    (λ number _ _ e _ _. no_number (catalog_at s t.zone) number none e)

-- without a new version
pub fold_without : (s : State) (t : Taken) → ((zone : Zone) → decision_of s t ≢ new zone)
    → (step s (Transfer t)).fold ≡ s.fold
unfolding counted
fold_without s t other =
    step_by s t (λ x. x.fold ≡ s.fold) refl (λ _ _ _. refl) (λ _ _ _ _. refl) (λ _ zone _ _ d _. absurd (other zone d))

pub fold_up_to_date : (s : State) (t : Taken) → decision_of s t ≡ up_to_date → (step s (Transfer t)).fold ≡ s.fold
fold_up_to_date s t e = fold_without s t (λ zone d. let q : up_to_date ≡ new zone = sym e ∙ d in cc)

pub fold_refused : (s : State) (t : Taken) (fault : TakeFault) → decision_of s t ≡ refused fault
    → (step s (Transfer t)).fold ≡ s.fold
fold_refused s t fault e = fold_without s t (λ zone d. let q : refused fault ≡ new zone = sym e ∙ d in cc)

-- a listing is not broken and read
not_both : {A : Type 0} (d : Decision) (a b : Zone) (nodes : List Node) (reason : Reason) → d ≡ new a → d ≡ new b
    → listing_of a.apex a.records ≡ Err reason → listing_of b.apex b.records ≡ Ok nodes → A
not_both d a b nodes reason e f g h =
    let same : a ≡ b = cc in
    absurd (let q : Err reason ≡ Ok nodes = sym g ∙ ap (λ (z : Zone). listing_of z.apex z.records) same ∙ h in cc)

pub fold_broken : (s : State) (t : Taken) (zone : Zone) (reason : Reason) → decision_of s t ≡ new zone
    → listing_of zone.apex zone.records ≡ Err reason → (step s (Transfer t)).fold ≡ s.fold
unfolding counted
fold_broken s t zone reason e g =
    step_by s t (λ x. x.fold ≡ s.fold) refl (λ _ _ _. refl) (λ _ _ _ _. refl)
    (λ _ other nodes _ d l. not_both (decision_of s t) zone other nodes reason e d g l)

-- a catalog keeps its place
pub own_stands : (s : State) (t : Taken) (number : ℕ) → catalog_at s t.zone ≡ Some number
    → place_at (step s (Transfer t)) t.zone ≡ place_at s t.zone
own_stands s t number e =
    place_catalog (step s (Transfer t)) t.zone number (sym (catalog_step s t t.zone ∙ e))
    ∙ sym (place_catalog s t.zone number (sym e))

-- ---- what is held of another zone
pub other_number : (s : State) (zone other : Name) (j k : ℕ) → Some j ≡ catalog_at s zone → Some k ≡ catalog_at s other
    → zone ≢ other → j ≢ k
other_number s zone other j k e f ne same =
    ne (sym (catalog_named s zone j e) ∙ ap (λ (n : ℕ). (settings_at s.fold.config n).name) same
    ∙ catalog_named s other k f)

version_keeps : (s : State) (t : Taken) (zone : Name) (number : ℕ) → Some number ≡ catalog_at s zone → zone ≢ t.zone
    → slice_index_or (step s (Transfer t)).versions number None ≡ slice_index_or s.versions number None
unfolding counted relisted
version_keeps s t zone number e ne =
    let set : (k : ℕ) (z : Zone) → Some k ≡ catalog_at s t.zone
    → get_or (slice_set s.versions k (Some z)) number None ≡ get_or s.versions number None =
    λ k z f. get_or-set_other s.versions k number (Some z) None (other_number s zone t.zone number k e f ne) in
    step_by s t (λ x. slice_index_or x.versions number None ≡ slice_index_or s.versions number None) refl
    (λ _ _ _. refl) (λ k z f _. set k z f) (λ k z _ f _ _. set k z f)

-- the version of a slot after a listing
pub slot_found : (f : MemberOf → SlotOf) → ((m : MemberOf) → (f m).zone ≡ m.zone) → (zone : Name) (ms : List MemberOf)
    → slot_of zone (map f ms) ≡ option_map f (member_of zone ms)
slot_found f own zone [] = refl
slot_found f own zone (m ∷ ms) = elim (cases_Bool (same_name m.zone zone)) [
  | inl t ↦ let v : same_name (f m).zone zone ≡ true = ap (λ (z : Name). same_name z zone) (own m) ∙ t in
      rw (t, v) refl
  | inr u ↦ let v : same_name (f m).zone zone ≡ false = ap (λ (z : Name). same_name z zone) (own m) ∙ u in
      rw (u, v) (slot_found f own zone ms)
]

same_version : (zone : Name) (o : Option SlotOf)
    → (unwrap_or o (fresh zone)).version ≡ option_and_then (λ slot. slot.version) o
same_version zone None = refl
same_version zone (Some slot) = refl

abbrev pub version_in : Name → List SlotOf → Option Zone
version_in zone slots = option_and_then (λ slot. slot.version) (slot_of zone slots)

listed_keeps : (s : State) (ms : List MemberOf) (zone : Name) (before m : MemberOf) → member_at s zone ≡ Some before
    → member_of zone ms ≡ Some m → before.incarnation ≡ m.incarnation
    → version_in zone (map (slot_after s) ms) ≡ version_in zone s.table
listed_keeps s ms zone before m e f same =
    let own : m.zone ≡ zone = (same_decides m.zone zone).0 (found_passes (λ x. same_name x.zone zone) ms m (sym f)) in
    let found : slot_of zone (map (slot_after s) ms) ≡ Some (slot_after s m) =
    slot_found (slot_after s) (slot_zone s) zone ms ∙ ap (option_map (slot_after s)) f in
    let is : slot_after s m ≡ unwrap_or (slot_of m.zone s.table) (fresh m.zone) =
    slot_same s m before (sym e ∙ ap (λ (z : Name). member_of z s.fold.members) (sym own)) same in
    ap (option_and_then (λ (slot : SlotOf). slot.version)) found ∙ ap (λ (slot : SlotOf). slot.version) is
    ∙ same_version m.zone (slot_of m.zone s.table) ∙ ap (λ (z : Name). version_in z s.table) own

pub slot_keeps : (s : State) (t : Taken) (zone : Name) (i : ℕ) → None ≡ catalog_at s zone → stands s zone i ≡ true
    → zone ≢ t.zone → stands (step s (Transfer t)) zone i ≡ true
    → version_in zone (step s (Transfer t)).table ≡ version_in zone s.table
unfolding counted relisted
slot_keeps s t zone i e h ne up =
    let before : IsMember s zone i = stands_member s zone i e h in
    step_by s t
    (λ x. None ≡ catalog_at x zone → stands x zone i ≡ true → version_in zone x.table ≡ version_in zone s.table)
    (λ _ _. refl)
    (λ slot _ own _ _. ap (option_and_then (λ (x : SlotOf). x.version))
    (put_others s.table (put s.table slot) slot zone refl (λ same. ne (same ∙ own))))
    (λ _ _ _ _ _ _. refl)
    (λ number version nodes _ _ _ none k.
    let x : State = counted (relisted (with_version s number version) t.zone nodes) in
    let now : IsMember x zone i = stands_member x zone i none k in
    listed_keeps (with_version s number version) x.fold.members zone before.member now.member before.is now.is
    (before.begun ∙ sym now.begun))
    (e ∙ sym (catalog_step s t zone)) up

pub keeps_from : (s : State) (t : Taken) (zone : Name) (i : ℕ) (o : Option ℕ) → o ≡ catalog_at s zone
    → stands s zone i ≡ true → stands (step s (Transfer t)) zone i ≡ true → zone ≢ t.zone
    → held_at (step s (Transfer t)) zone ≡ held_at s zone
keeps_from s t zone i (Some number) e h up ne =
    held_catalog (step s (Transfer t)) zone number (e ∙ sym (catalog_step s t zone))
    ∙ version_keeps s t zone number e ne ∙ sym (held_catalog s zone number e)
keeps_from s t zone i None e h up ne =
    held_member (step s (Transfer t)) zone (e ∙ sym (catalog_step s t zone)) ∙ slot_keeps s t zone i e h ne up
    ∙ sym (held_member s zone e)

pub held_keeps : (s : State) (t : Taken) (zone : Name) (i : ℕ) → IsState s → stands s zone i ≡ true
    → stands (step s (Transfer t)) zone i ≡ true → zone ≢ t.zone
    → held_at (step s (Transfer t)) zone ≡ held_at s zone
held_keeps s t zone i ok h up ne = keeps_from s t zone i (catalog_at s zone) refl h up ne

-- ---- what is held of the transfer's own zone
step_is : (s : State) (t : Taken) (d : Decision) → decision_of s t ≡ d
    → step s (Transfer t) ≡ taken s t.zone t.moment d
unfolding step
step_is s t d e = ap (taken s t.zone t.moment) e

listed_versions : (s : State) (catalog : Name) (r : Result (List Node) Reason)
    → (counted (listed s catalog r)).versions ≡ s.versions
unfolding counted relisted
listed_versions s catalog (Ok nodes) = refl
listed_versions s catalog (Err reason) = refl

pub member_new : (s : State) (t : Taken) (zone : Zone) → None ≡ catalog_at s t.zone → decision_of s t ≡ new zone
    → held_at (step s (Transfer t)) t.zone ≡ Some zone
unfolding counted
member_new s t zone e d =
    let slot : SlotOf = record { zone = t.zone; refreshed = t.moment; version = Some zone } in
    let is : step s (Transfer t) ≡ counted (record s { table = put s.table slot }) =
    step_is s t (new zone) d ∙ taken_member s t.zone t.moment (new zone) e
    ∙ ap counted (new_member s t.zone t.moment zone) in
    held_member (step s (Transfer t)) t.zone (e ∙ sym (catalog_step s t t.zone))
    ∙ ap (λ (x : State). version_in t.zone x.table) is
    ∙ ap (option_and_then (λ (x : SlotOf). x.version)) (put_own s.table (put s.table slot) slot refl)

new_from : (s : State) (t : Taken) (zone : Zone) (o : Option ℕ) → o ≡ catalog_at s t.zone → IsState s
    → decision_of s t ≡ new zone → held_at (step s (Transfer t)) t.zone ≡ Some zone
new_from s t zone None e ok d = member_new s t zone e d
new_from s t zone (Some number) e ok d =
    let lt : number < length s.versions = rw ok.each (within (λ c. same_name c.name t.zone) s.fold.config number e) in
    let is : step s (Transfer t)
    ≡ counted (listed (with_version s number zone) t.zone (listing_of zone.apex zone.records)) =
    step_is s t (new zone) d ∙ taken_catalog s t.zone t.moment number (new zone) e
    ∙ ap counted (new_catalog s number t.zone zone) in
    held_catalog (step s (Transfer t)) t.zone number (e ∙ sym (catalog_step s t t.zone))
    ∙ ap (λ (x : State). slice_index_or x.versions number None) is
    ∙ ap (λ (vs : List (Option Zone)). slice_index_or vs number None)
    (listed_versions (with_version s number zone) t.zone (listing_of zone.apex zone.records))
    ∙ get_or-set_same s.versions number (Some zone) None lt

pub held_new : (s : State) (t : Taken) (zone : Zone) → IsState s → IsSome (incarnation_at s t.zone)
    → decision_of s t ≡ new zone → held_at (step s (Transfer t)) t.zone ≡ Some zone
held_new s t zone ok some d = new_from s t zone (catalog_at s t.zone) refl ok d

same_slot : (s : State) (t : Taken) (o : Option SlotOf) → o ≡ slot_of t.zone s.table → None ≡ catalog_at s t.zone
    → decision_of s t ≡ up_to_date
    → version_in t.zone (step s (Transfer t)).table ≡ version_in t.zone s.table
unfolding counted
same_slot s t None e none d =
    ap (λ (x : State). version_in t.zone x.table) (step_is s t up_to_date d
    ∙ taken_member s t.zone t.moment up_to_date none ∙ ap counted (same_member_none s t.zone t.moment e))
same_slot s t (Some slot) e none d =
    let now : SlotOf = record slot { refreshed = t.moment } in
    let own : slot.zone ≡ t.zone =
    (same_decides slot.zone t.zone).0 (found_passes (λ x. same_name x.zone t.zone) s.table slot e) in
    ap (λ (x : State). version_in t.zone x.table) (step_is s t up_to_date d
    ∙ taken_member s t.zone t.moment up_to_date none ∙ ap counted (same_member_some s t.zone t.moment slot e))
    ∙ ap (λ (z : Name). version_in z (put s.table now)) (sym own)
    ∙ ap (option_and_then (λ (x : SlotOf). x.version)) (put_own s.table (put s.table now) now refl)
    ∙ ap (option_and_then (λ (x : SlotOf). x.version)) e

pub same_from : (s : State) (t : Taken) (o : Option ℕ) → o ≡ catalog_at s t.zone → decision_of s t ≡ up_to_date
    → held_at (step s (Transfer t)) t.zone ≡ held_at s t.zone
unfolding counted
same_from s t (Some number) e d =
    held_catalog (step s (Transfer t)) t.zone number (e ∙ sym (catalog_step s t t.zone))
    ∙ ap (λ (x : State). slice_index_or x.versions number None) (step_is s t up_to_date d
    ∙ taken_catalog s t.zone t.moment number up_to_date e ∙ ap counted (same_catalog s number t.zone))
    ∙ sym (held_catalog s t.zone number e)
same_from s t None e d =
    held_member (step s (Transfer t)) t.zone (e ∙ sym (catalog_step s t t.zone))
    ∙ same_slot s t (slot_of t.zone s.table) refl e d ∙ sym (held_member s t.zone e)

pub held_same : (s : State) (t : Taken) → IsState s → IsSome (incarnation_at s t.zone) → decision_of s t ≡ up_to_date
    → held_at (step s (Transfer t)) t.zone ≡ held_at s t.zone
held_same s t ok some d = same_from s t (catalog_at s t.zone) refl d

same_counted : (s : State) (zone : Name) (o : Option ℕ) → held_from (counted s) zone o ≡ held_from s zone o
unfolding counted
same_counted s zone None = refl
same_counted s zone (Some number) = refl

held_counted : (s : State) (zone : Name) → held_at (counted s) zone ≡ held_at s zone
unfolding counted held_at
held_counted s zone = same_counted s zone (catalog_at s zone)

pub held_refused : (s : State) (t : Taken) (zone : Name) (fault : TakeFault) → decision_of s t ≡ refused fault
    → held_at (step s (Transfer t)) zone ≡ held_at s zone
held_refused s t zone fault d =
    ap (λ (x : State). held_at x zone) (step_is s t (refused fault) d ∙ refused_stays s t.zone t.moment fault)
    ∙ held_counted s zone
