-- The tasks of a list: zones that go, and the zone of the last entry.
use Rattle.std.proofs.Common.{◌≡◌, ◌+◌, ◌<◌, ℕ, true, false, List, [], ◌∷◌, ◌++◌, map, length, take, drop}
use Rattle.std.proofs.Common.{get_or, Option, Some, None, refl, sym, ap, ◌∙◌}
use Rattle.std.specs.Prelude.{IsSome, filter, option_map}
use Rattle.std.specs.Option.{ForSome, option_and_then}
use Rattle.std.proofs.lemmas.List.{append-nil, map-append, take-append-drop, take_more}
use Rattle.std.proofs.lemmas.List.Sums.{fold-append}
use Rattle.std.proofs.lemmas.List.Elements.{filter-append}
use Rattle.dz_name.specs.Words.{Name, Octets}
use Rattle.dz_zone.specs.Version.{Zone}
use Rattle.dz_member.specs.declared.change.Change.{Change}
use Rattle.dz_member.specs.Membership.{MemberOf}
use Rattle.dz_member.specs.Fold.{FoldOf, number_of, member_of}
use Rattle.dz_history.specs.declared.entry.Entry.{Entry}
use Rattle.dz_history.specs.State.{State, catalog_at, member_at, incarnation_at, incarnation_from, held_at}
use Rattle.dz_history.specs.After.{after}
use Rattle.dz_job.specs.declared.verdict.Verdict.{Verdict}
use Rattle.dz_fleet.specs.declared.fleet.Last.{Last}
use Rattle.dz_fleet.specs.Core.{entry_for}
use Rattle.dz_fleet.specs.Last.{last_in, last_of, IsRefreshed}
use Rattle.dz_provision.specs.Keeping.{forget, goes, gone, membership_at, membership_from, kept_from}
use Rattle.dz_provision.specs.Keeping.{last_kept, IsLastVerdict}

-- ---- zones that go
pub gone_both : (xs ys : List Change) → map forget (gone (xs ++ ys)) ≡ map forget (gone xs) ++ map forget (gone ys)
unfolding gone
gone_both xs ys =
    let kept : List Change → List Change = λ cs. filter (λ change. goes change.what) cs in
    ap (map forget) (ap (map (λ change. change.zone)) (filter-append (λ change. goes change.what) xs ys)
    ∙ map-append (λ change. change.zone) (kept xs) (kept ys))
    ∙ map-append forget (gone xs) (gone ys)

gone_one : (change : Change) → goes change.what ≡ true → map forget (gone (change ∷ [])) ≡ forget change.zone ∷ []
unfolding gone
gone_one change e = rw e refl

gone_none : (change : Change) → goes change.what ≡ false → map forget (gone (change ∷ [])) ≡ []
unfolding gone
gone_none change e = rw e refl

pub gone_next : (cs : List Change) (i : ℕ) (d change : Change)
    → i < length cs → change ≡ get_or cs i d → goes change.what ≡ true
    → map forget (gone (take i cs)) ++ forget change.zone ∷ [] ≡ map forget (gone (take (i + 1) cs))
gone_next cs i d change lt is e =
    sym (ap (λ l. map forget (gone l)) (take_more cs i d lt ∙ ap (λ x. take i cs ++ x ∷ []) (sym is))
    ∙ (gone_both (take i cs) (change ∷ []) ∙ ap (λ l. map forget (gone (take i cs)) ++ l) (gone_one change e)))

pub gone_same : (cs : List Change) (i : ℕ) (d change : Change) → i < length cs → change ≡ get_or cs i d
    → goes change.what ≡ false → map forget (gone (take i cs)) ≡ map forget (gone (take (i + 1) cs))
gone_same cs i d change lt is e =
    sym (ap (λ l. map forget (gone l)) (take_more cs i d lt ∙ ap (λ x. take i cs ++ x ∷ []) (sym is))
    ∙ (gone_both (take i cs) (change ∷ []) ∙ (ap (λ l. map forget (gone (take i cs)) ++ l) (gone_none change e)
    ∙ append-nil (map forget (gone (take i cs))))))

pub gone_parts : (cs : List Change) (k : ℕ)
    → map forget (gone (take k cs)) ++ map forget (gone (drop k cs)) ≡ map forget (gone cs)
gone_parts cs k = sym (gone_both (take k cs) (drop k cs)) ∙ ap (λ l. map forget (gone l)) (take-append-drop k cs)

pub gone_all : (cs : List Change) (i : ℕ) (d change : Change) → i < length cs → change ≡ get_or cs i d
    → goes change.what ≡ true
    → (map forget (gone (take i cs)) ++ forget change.zone ∷ []) ++ map forget (gone (drop (i + 1) cs))
    ≡ map forget (gone cs)
gone_all cs i d change lt is e = ap (λ l. l ++ map forget (gone (drop (i + 1) cs))) (gone_next cs i d change lt is e)
    ∙ gone_parts cs (i + 1)

-- ---- memberships
pub of_a_catalog : (s : State) (fold : FoldOf) (zone : Name) (number : ℕ) → s.fold ≡ fold
    → Some number ≡ number_of fold.config zone → Some (zone, None) ≡ membership_at s zone
unfolding membership_at
of_a_catalog s fold zone number same at =
    ap (membership_from s zone) (at ∙ ap (λ (f : FoldOf). number_of f.config zone) (sym same))

pub of_a_member : (s : State) (fold : FoldOf) (zone : Name) (m : Option MemberOf) → s.fold ≡ fold
    → None ≡ number_of fold.config zone → m ≡ member_of zone fold.members
    → option_map (λ m. (m.catalog, Some m.label)) m ≡ membership_at s zone
unfolding membership_at
of_a_member s fold zone m same at is =
    ap (option_map (λ (m : MemberOf). (m.catalog, Some m.label)))
    (is ∙ ap (λ (f : FoldOf). member_of zone f.members) (sym same))
    ∙ ap (membership_from s zone) (at ∙ ap (λ (f : FoldOf). number_of f.config zone) (sym same))

-- ---- the zone of the last transfer
pub holding_is : (list : List Entry) (last : Last) (membership : Name × Option Octets) (version : Zone)
    → Some last ≡ last_of list → Some membership ≡ membership_at (after list) last.zone
    → Some version ≡ held_at (after list) last.zone
    → Some (kept_from last membership version) ≡ last_kept list
unfolding last_kept
holding_is list last membership version is at held = rw (← is, ← at, ← held) refl

pub no_last : (list : List Entry) → None ≡ last_of list → None ≡ last_kept list
unfolding last_kept
no_last list is = rw (← is) refl

pub no_membership : (list : List Entry) (last : Last) → Some last ≡ last_of list
    → None ≡ membership_at (after list) last.zone → None ≡ last_kept list
unfolding last_kept
no_membership list last is at = rw (← is, ← at) refl

pub no_version : (list : List Entry) (last : Last) (membership : Name × Option Octets) → Some last ≡ last_of list
    → Some membership ≡ membership_at (after list) last.zone → None ≡ held_at (after list) last.zone
    → None ≡ last_kept list
unfolding last_kept
no_version list last membership is at held = rw (← is, ← at, ← held) refl

-- it is there after a transfer
both : (o : Option MemberOf) → IsSome (option_map (λ (m : MemberOf). m.incarnation) o)
    → IsSome {T = Name × Option Octets} (option_map (λ m. (m.catalog, Some m.label)) o)
both (Some m) some = refl
both None some = absurd (cc some)

membership_by : (s : State) (zone : Name) (o : Option ℕ) → IsSome (incarnation_from s zone o)
    → IsSome (membership_from s zone o)
membership_by s zone (Some number) some = refl
membership_by s zone None some = both (member_at s zone) some

membership_some : (s : State) (zone : Name) → IsSome (incarnation_at s zone) → IsSome (membership_at s zone)
unfolding incarnation_at membership_at
membership_some s zone some = membership_by s zone (catalog_at s zone) some

kept_some : (last : Last) (m : Option (Name × Option Octets)) (v : Option Zone) → IsSome m → IsSome v
    → IsSome (option_and_then (λ membership. option_map (kept_from last membership) v) m)
kept_some last (Some m) (Some v) some held = refl
kept_some last (Some m) None some held = absurd (cc held)
kept_some last None v some held = absurd (cc some)

some_by : (list : List Entry) (last : Last) → last_of list ≡ Some last → IsRefreshed (after list) last
    → IsSome (last_kept list)
unfolding last_kept
some_by list last is r = rw is (kept_some last (membership_at (after list) last.zone) (held_at (after list) last.zone)
    (membership_some (after list) last.zone r.begun) r.held)

pub last_is_kept : (list : List Entry) (verdict : Verdict) → ForSome (last_of list) (IsRefreshed (after list))
    → IsLastVerdict list verdict → IsSome (last_kept list)
last_is_kept list verdict refreshed v =
    let last : Last = record { zone = v.job.flight.zone; moment = v.job.flight.moment } in
    let is : last_of list ≡ Some last =
    ap last_of v.are ∙ fold-append last_in None v.before (entry_for v.job v.octets ∷ []) in
    some_by list last is (refreshed last is)
