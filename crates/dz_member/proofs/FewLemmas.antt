-- Edits of the listing of a settled catalog change the zones alone that they touch.
use Rattle.std.proofs.Common.{◌≡◌, ℕ, true, false, List, map, sym, ◌∙◌, ap, inl, inr}
use Rattle.std.specs.Prelude.{None}
use Rattle.std.specs.List.Sorted.{IsStrictlySortedBy}
use Rattle.std.proofs.lemmas.Bool.{cases_Bool}
use Rattle.dz_name.specs.Words.{Name}
use Rattle.dz_name.specs.Name.{canonical_order}
use Rattle.dz_member.specs.declared.listing.Node.{Node}
use Rattle.dz_member.specs.declared.edit.Edit.{Edit}
use Rattle.dz_settings.specs.Twice.{has_twice}
use Rattle.dz_member.specs.Listing.{IsListing, same_zone}
use Rattle.dz_member.specs.Membership.{MemberOf}
use Rattle.dz_member.specs.Fold.{FoldOf, IsFold, member_of}
use Rattle.dz_member.specs.Process.{Judgement, judged, judged_at, node_of, in_zone_order, process}
use Rattle.dz_member.specs.Settled.{IsSettled}
use Rattle.dz_member.specs.Edit.{edited, AreEdits, nodes_put, is_touched, AreFree}
use Rattle.dz_member.proofs.OrderLemmas.{sorted_rise}
use Rattle.dz_member.proofs.ZoneLemmas.{order_after, each_zone}
use Rattle.dz_member.proofs.SameLemmas.{members_by_zone}
use Rattle.dz_member.proofs.EditLemmas.{edited_zones, judged_touched, judged_untouched}

module _ (fold : FoldOf) (catalog : Name) (nodes : List Node) (edits : List Edit) (position : ℕ) (f : IsFold fold)
    (l : IsListing nodes) (settled : IsSettled fold catalog nodes) (a : AreEdits edits)
    (free : AreFree fold catalog edits) (once : has_twice same_zone (nodes_put edits) ≡ false) where
  rise : IsStrictlySortedBy canonical_order (map (λ (n : Node). n.zone) (in_zone_order (edited nodes edits)))
  rise = sorted_rise (edited nodes edits) (edited_zones fold catalog nodes edits l settled a free once)

  touched : (zone : Name) → is_touched nodes edits zone ≡ true
      → judged_at fold catalog (edited nodes edits) position zone
      ≡ judged fold catalog position (member_of zone fold.members) (node_of zone (nodes_put edits))
  touched zone t = judged_touched fold catalog nodes edits l settled a free once position zone t

  untouched : (zone : Name) → is_touched nodes edits zone ≡ false
      → judged_at fold catalog (edited nodes edits) position zone
      ≡ record { stands = member_of zone fold.members; change = None }
  untouched zone u = judged_untouched fold catalog nodes edits l settled a free once position zone u

  -- the members that have what is judged at each zone that is touched, and at each other what they had
  pub few_zones_stand : (after : List MemberOf) → IsStrictlySortedBy canonical_order (map (λ m. m.zone) after)
      → ((zone : Name) → is_touched nodes edits zone ≡ true → member_of zone after
      ≡ (judged fold catalog position (member_of zone fold.members) (node_of zone (nodes_put edits))).stands)
      → ((zone : Name) → is_touched nodes edits zone ≡ false → member_of zone after ≡ member_of zone fold.members)
      → after ≡ (process fold catalog (edited nodes edits) position).members
  few_zones_stand after up new old =
      members_by_zone after (process fold catalog (edited nodes edits) position).members up
      (order_after fold catalog (edited nodes edits) position f.rises rise) (λ zone.
      (elim (cases_Bool (is_touched nodes edits zone)) [
        | inl t ↦ new zone t ∙ ap (λ (j : Judgement). j.stands) (sym (touched zone t))
        | inr u ↦ old zone u ∙ ap (λ (j : Judgement). j.stands) (sym (untouched zone u))
      ])
      ∙ sym ((each_zone fold catalog (edited nodes edits) position f.rises rise).member zone))
