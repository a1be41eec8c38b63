-- The fold after a listing, with the number of a catalog in place of its name.
use Rattle.std.proofs.Common.{◌≡◌, ℕ, List, refl, ◌∙◌}
use Rattle.std.specs.Prelude.{Some, slice_set}
use Rattle.dz_name.specs.Words.{Name}
use Rattle.dz_member.specs.declared.listing.Node.{Node}
use Rattle.dz_member.specs.Membership.{MemberOf, settings_at}
use Rattle.dz_member.specs.Fold.{FoldOf, number_of, with_listing}
use Rattle.dz_member.specs.Process.{process}
use Rattle.dz_member.proofs.NumberLemmas.{number_names}

module _ (fold : FoldOf) (catalog : Name) (listing nodes : List Node) (position k : ℕ) where
  pub fold_is : (members : List MemberOf) → nodes ≡ listing → number_of fold.config catalog ≡ Some k
      → members ≡ (process fold (settings_at fold.config k).name nodes position).members
      → record fold { members = members; listings = slice_set fold.listings k (Some listing) }
      ≡ process fold catalog listing position
  unfolding process
  fold_is members same number is =
      let name = (number_names fold.config catalog k number).is in
      let m : members ≡ (process fold catalog listing position).members =
      is ∙ (λ i. (process fold (name i) (same i) position).members) in
      let l : slice_set fold.listings k (Some listing) ≡ with_listing fold catalog listing = rw number refl in
      λ i. record { config = fold.config; members = m i; listings = l i }
