-- Inner: how a fold is kept, with numbers in place of names.
use Rattle.std.specs.Prelude.{◌≡◌, ℕ, ◌<◌, ◌^◌, Bool, true, ⊤, length, List, Option, Some, None, IfSome, map, slice_get}
use Rattle.std.specs.Borrow.{Bor}
use Rattle.std.specs.Option.{option_map}
use Rattle.std.specs.List.{All, filter_map}
use Rattle.std.specs.Set.{sorted_merge}
use Rattle.dz_name.specs.Words.{Name}
use Rattle.dz_name.specs.Name.{canonical_order}
use Rattle.dz_settings.specs.declared.config.CatalogSettings.{CatalogSettings}
use Rattle.dz_member.specs.declared.listing.Node.{Node}
use Rattle.dz_member.specs.declared.membership.Membership.{Membership}
use Rattle.dz_member.specs.declared.judge.Judged.{Judged}
use Rattle.dz_member.specs.declared.judge.Stands.{Stands}
use Rattle.dz_member.specs.declared.judge.Stands.TheVariants.{Same, Gone, Now}
use Rattle.dz_member.specs.inner.Happened.{what_of, IsConfigured}
use Rattle.dz_member.specs.declared.change.Change.{Change}
use Rattle.dz_member.specs.Membership.{MemberOf, settings_at, shown, IsNumbered}
use Rattle.dz_member.specs.Process.{Judgement, judged_at}
use Rattle.dz_member.specs.Fold.{FoldOf, IsFold}
use Rattle.dz_member.specs.Listing.{IsListing}
use Rattle.dz_member.specs.Settled.{IsSettled}

-- the fold of a configuration, of memberships with numbers, and of listings
abbrev pub fold_in : List CatalogSettings → List Membership → List (Option (List Node)) → FoldOf
fold_in catalogs members listings =
    record { config = catalogs; members = map (shown catalogs) members; listings = listings }

-- these make a fold, the catalog and the group of each number exist, and a counter holds how many members there are;
-- each listing that is known is one; and there is a mark for each catalog, which is settled if it is marked so
pub record IsKept (catalogs : List CatalogSettings) (members : List Membership)
    (listings : List (Option (List Node))) (settled : List Bool) : Type 0 where
  pub fold : IsFold (fold_in catalogs members listings)
  pub numbered : All (IsNumbered catalogs) members
  pub few : length members < 2 ^ 63
  pub known : (number : ℕ) (nodes : List Node) → slice_get listings number ≡ Some (Some nodes) → IsListing nodes
  pub marks : length settled ≡ length catalogs
  pub marked : (number : ℕ) (nodes : List Node) → slice_get settled number ≡ Some true
      → slice_get listings number ≡ Some (Some nodes)
      → IsSettled (fold_in catalogs members listings) (settings_at catalogs number).name nodes

-- the member afterwards, of what was held before
abbrev pub member_after : List CatalogSettings → Option MemberOf → Stands → Option MemberOf
member_after catalogs held Same = held
member_after catalogs held Gone = None
member_after catalogs held (Now m) = Some (shown catalogs m)

-- the same, with the numbers
abbrev pub membership_after : Option Membership → Stands → Option Membership
membership_after held Same = held
membership_after held Gone = None
membership_after held (Now m) = Some m

-- what was judged of what is held, with the names that the numbers represent
abbrev pub judgement_of : List CatalogSettings → Option MemberOf → Judged → Judgement
judgement_of catalogs held j =
    record { stands = member_after catalogs held j.stands; change = option_map (what_of catalogs) j.change }

-- the catalog and the group of the numbers of a member afterwards exist
abbrev pub StandsNumbered : List CatalogSettings → Stands → Type 0
StandsNumbered catalogs Same = ⊤
StandsNumbered catalogs Gone = ⊤
StandsNumbered catalogs (Now m) = IsNumbered catalogs m

-- the catalogs and the group of all numbers exist
pub record IsJudged (catalogs : List CatalogSettings) (j : Judged) : Type 0 where
  pub stands : StandsNumbered catalogs j.stands
  pub change : IfSome j.change (IsConfigured catalogs)

-- the zones that are held or listed, each once, where the nodes are given in the order of their zones
abbrev pub zones_from : FoldOf → List Node → List Name
zones_from fold nodes =
    sorted_merge canonical_order true (map (λ m. m.zone) fold.members) (map (λ node. node.zone) nodes)

-- the members after such nodes
unfoldable pub members_from : FoldOf → Name → ℕ → List Node → List MemberOf
members_from fold catalog position nodes =
    filter_map (λ zone. (judged_at fold catalog nodes position zone).stands) (zones_from fold nodes)

-- the changes by such nodes
unfoldable pub changes_from : FoldOf → Name → ℕ → List Node → List Change
changes_from fold catalog position nodes =
    filter_map (λ zone. option_map (λ what. record { zone = zone; what = what })
    (judged_at fold catalog nodes position zone).change) (zones_from fold nodes)

-- the name of the catalog of a number
abbrev pub catalog_at : FoldOf → ℕ → Name
catalog_at fold number = (settings_at fold.config number).name

-- a membership with the names that its numbers represent
abbrev pub shown_in : FoldOf → Membership → MemberOf
shown_in fold m = shown fold.config m

-- what may be held at a zone
abbrev pub held_in : FoldOf → Option (Bor Membership) → Option MemberOf
held_in fold held = option_map (shown_in fold) (option_map (λ r. r.now) held)
