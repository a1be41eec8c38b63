-- Judge: laws of what a listing changes.
use Rattle.std.specs.Prelude.{◌≡◌, ◌≢◌, ℕ, Bool, true, false, List, map, Option, Some, None, IsSome}
use Rattle.std.specs.Option.{option_map}
use Rattle.std.specs.List.{IsDistinct}
use Rattle.std.specs.List.Sorted.{IsPermutation}
use Rattle.dz_name.specs.Words.{Name}
use Rattle.dz_name.specs.Name.{same_name}
use Rattle.dz_member.specs.declared.listing.Node.{Node}
use Rattle.dz_member.specs.declared.change.What.{What}
use Rattle.dz_member.specs.declared.change.What.TheVariants.{Moved, Clash, Regrouped}
use Rattle.dz_member.specs.Listing.{IsListing, same_zone}
use Rattle.dz_settings.specs.Twice.{has_twice}
use Rattle.dz_member.specs.Membership.{MemberOf}
use Rattle.dz_member.specs.Fold.{FoldOf, IsFold, member_of, number_of}
use Rattle.dz_member.specs.Process.{judged_at, consents, process}

-- no zone is a member twice
abbrev pub HeldOnce : Type 0
HeldOnce = (fold : FoldOf) → IsFold fold → IsDistinct same_name (map (λ m. m.zone) fold.members)

-- a zone changes its holder only where the node of its label in the old holder's last unbroken listing has a coo that
-- names the new one
abbrev pub MovesWithConsent : Type 0
MovesWithConsent =
    (fold : FoldOf) (catalog : Name) (nodes : List Node) (position : ℕ) (zone : Name) (before after : MemberOf)
    → member_of zone fold.members ≡ Some before → (judged_at fold catalog nodes position zone).stands ≡ Some after
    → before.catalog ≢ after.catalog → (consents fold catalog before ≡ true) × (after.catalog ≡ catalog)

-- changes that keep a zone's label and incarnation: it is moved or regrouped
abbrev pub is_kept : What → Bool
is_kept (Moved from to) = true
is_kept (Regrouped catalog) = true
is_kept what = false

-- a zone that is moved or regrouped keeps its label and its incarnation
abbrev pub KeepsState : Type 0
KeepsState = (fold : FoldOf) (catalog : Name) (nodes : List Node) (position : ℕ) (zone : Name) (what : What)
    → (judged_at fold catalog nodes position zone).change ≡ Some what → is_kept what ≡ true
    → option_map (λ m. m.label) (judged_at fold catalog nodes position zone).stands
    ≡ option_map (λ m. m.label) (member_of zone fold.members)
    × (option_map (λ m. m.incarnation) (judged_at fold catalog nodes position zone).stands
    ≡ option_map (λ m. m.incarnation) (member_of zone fold.members))

-- a zone without a change is as it was
abbrev pub StaysWithout : Type 0
StaysWithout = (fold : FoldOf) (catalog : Name) (nodes : List Node) (position : ℕ) (zone : Name)
    → (judged_at fold catalog nodes position zone).change ≡ None
    → (judged_at fold catalog nodes position zone).stands ≡ member_of zone fold.members

-- a change is a clash (RFC 9432 section 5.2)
abbrev pub is_clash : What → Bool
is_clash (Clash holder) = true
is_clash what = false

-- a clash is told, and changes nothing
abbrev pub ClashStays : Type 0
ClashStays = (fold : FoldOf) (catalog : Name) (nodes : List Node) (position : ℕ) (zone : Name) (what : What)
    → (judged_at fold catalog nodes position zone).change ≡ Some what → is_clash what ≡ true
    → (judged_at fold catalog nodes position zone).stands ≡ member_of zone fold.members

-- what is told of a zone when the same listing is processed again: a clash that is still there
abbrev pub told_again : Option What → Option What
told_again (Some (Clash holder)) = Some (Clash holder)
told_again what = None

-- the same listing processed once more leaves the fold as it is, and tells the clashes alone
pub record Again (fold : FoldOf) (catalog : Name) (nodes : List Node) (position later : ℕ) : Type 0 where
  pub stays : process (process fold catalog nodes position) catalog nodes later ≡ process fold catalog nodes position
  pub change : (zone : Name) → (judged_at (process fold catalog nodes position) catalog nodes later zone).change
      ≡ told_again (judged_at fold catalog nodes position zone).change

-- a listing that is processed once more changes nothing
abbrev pub ChangesOnce : Type 0
ChangesOnce = (fold : FoldOf) (catalog : Name) (nodes : List Node) (position later : ℕ) → IsFold fold → IsListing nodes
    → IsSome (number_of fold.config catalog) → Again fold catalog nodes position later

-- the order of a listing's nodes doesn't matter: each zone is judged alike
abbrev pub InAnyOrder : Type 0
InAnyOrder = (fold : FoldOf) (catalog : Name) (nodes others : List Node) (position : ℕ) (zone : Name)
    → IsPermutation nodes others → has_twice same_zone nodes ≡ false
    → judged_at fold catalog nodes position zone ≡ judged_at fold catalog others position zone
