use Rattle.std.proofs.Common.{◌≡◌, ℕ, List, map, sym, ◌∙◌, ap}
use Rattle.std.specs.Prelude.{Some, position, slice_get}
use Rattle.std.specs.List.Sorted.{IsStrictlySortedBy}
use Rattle.std.proofs.lemmas.Cmp.{tied_itself}
use Rattle.std.proofs.lemmas.Option.{get_or_from_slice_get, slice_get_within}
use Rattle.dz_name.specs.Words.{Name}
use Rattle.dz_name.specs.Name.{canonical_order, same_name}
use Rattle.dz_name.specs.Order.{canonical_total, same_ties, same_decides}
use Rattle.dz_member.specs.declared.membership.Membership.{Membership}
use Rattle.dz_member.specs.Membership.{MemberOf}
use Rattle.dz_member.proofs.SearchLemmas.{place_at}
use Rattle.dz_member.proofs.KeptLemmas.{place_shown}
use Rattle.dz_member.proofs.fold.Fold.place_near.Goals as goal

-- a member of the zone is the only one
place_here : (ms : List Membership) (i : ℕ) (m : Membership) (zone : Name) → slice_get ms i ≡ Some m
    → m.zone ≡ zone → IsStrictlySortedBy canonical_order (map (λ (m : Membership). m.zone) ms)
    → Some i ≡ position (λ m. same_name m.zone zone) ms
place_here ms i m zone e same up =
    place_at canonical_total (λ (m : Membership). m.zone) (λ m. same_name m.zone zone) zone
    (λ m. same_ties m.zone zone) ms i m (slice_get_within ms i m e) up
    (λ d. rw (get_or_from_slice_get ms i m d e, same) (tied_itself canonical_total zone))

pub returns-in-Some : goal.returns-in-Some
returns-in-Some c =
    let ms = c.members.result.now in
    let zone = c.args.zone.now in
    let m = c.in-Some.m.now in
    let there : slice_get ms c.args.likely ≡ Some m = sym c.in-Some.ensures in
    let same = (same_decides m.zone zone).0 (rw (c.as_ref.ensures, c.as_ref-in-Some-1.ensures) at (sym c.same.ensures.value ∙ c.if-same.true)) in
    let here = place_here ms c.args.likely m zone there same c.members.ensures.order in
    here ∙ (sym (place_shown c.args.self.now.config ms zone)
    ∙ ap (λ (xs : List MemberOf). position (λ m. same_name m.zone zone) xs) c.members.ensures.members)
