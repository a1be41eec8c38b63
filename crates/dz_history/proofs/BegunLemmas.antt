-- Members began by an entry that is there.
use Rattle.std.proofs.Common.{ℕ, ◌+◌, ◌<◌, Bool, true, false, List, [], ◌∷◌, arith, inl, inr, Some, None, cond}
use Rattle.std.specs.Prelude.{Option, ⊤}
use Rattle.std.specs.List.{AllByRecursion, filter_map, cons_option}
use Rattle.std.specs.Option.{option_eq}
use Rattle.std.specs.Str.{bytes_eq}
use Rattle.std.proofs.lemmas.Bool.{cases_Bool}
use Rattle.dz_name.specs.Name.{same_name, same_label}
use Rattle.dz_member.specs.declared.listing.Node.{Node}
use Rattle.dz_member.specs.Membership.{MemberOf}
use Rattle.dz_member.specs.Fold.{FoldOf, member_of}
use Rattle.dz_member.specs.Process.{Judgement, choice_in, consents, is_catalog, judged, node_of, judged_at, zones_of}
use Rattle.dz_member.specs.Process.{process}
use Rattle.dz_history.specs.State.{HasBegun}

abbrev BegunBy : ℕ → Option MemberOf → Type 0
BegunBy count None = ⊤
BegunBy count (Some m) = HasBegun count m

by_test : (P : Judgement → Type 0) (b : Bool) (x y : Judgement) → P x → P y → P (cond b x y)
by_test P true x y f g = f
by_test P false x y f g = g

later : (count : ℕ) (m : MemberOf) → HasBegun count m → HasBegun (count + 1) m
later count m h = (h.0, omega (arith, h.1))

module _ (fold : FoldOf) (catalog : List (List ℕ)) (position : ℕ) (some : 0 < position) where
  now : (z c : List (List ℕ)) (l : List ℕ) (o : Option (List ℕ))
      → HasBegun (position + 1) record { zone = z; catalog = c; label = l; incarnation = position; choice = o }
  now z c l o = (some, omega arith)

  judged_begun : (held : Option MemberOf) → BegunBy position held → (n : Option Node)
      → BegunBy (position + 1) (judged fold catalog position held n).stands
  unfolding judged
  judged_begun None h None = tt
  judged_begun (Some m) h None =
      by_test (λ j. BegunBy (position + 1) j.stands) (same_name m.catalog catalog) _ _ tt (later position m h)
  judged_begun None h (Some n) = by_test (λ j. BegunBy (position + 1) j.stands) (is_catalog fold n.zone) _ _ tt
      (now n.zone catalog n.label (choice_in fold.config catalog n))
  judged_begun (Some m) h (Some n) =
      let P : Judgement → Type 0 = λ j. BegunBy (position + 1) j.stands in
      by_test P (is_catalog fold n.zone) _ _ (later position m h)
      (by_test P (same_name m.catalog catalog) _ _
      (by_test P (same_label m.label n.label) _ _
      (by_test P (option_eq bytes_eq m.choice (choice_in fold.config catalog n)) _ _ (later position m h)
      (later position m h)) (now n.zone catalog n.label (choice_in fold.config catalog n)))
      (by_test P (consents fold catalog m) _ _ (by_test P (same_label m.label n.label) _ _ (later position m h)
      (now n.zone catalog n.label (choice_in fold.config catalog n))) (later position m h)))

  held_begun : (zone : List (List ℕ)) (ms : List MemberOf) → AllByRecursion (HasBegun position) ms
      → BegunBy position (member_of zone ms)
  held_begun zone [] h = tt
  held_begun zone (m ∷ ms) h = elim (cases_Bool (same_name m.zone zone)) [
    | inl t ↦ rw t h.0
    | inr f ↦ rw f (held_begun zone ms h.1)
  ]

  one_more : (o : Option MemberOf) (ms : List MemberOf) → BegunBy (position + 1) o
      → AllByRecursion (HasBegun (position + 1)) ms → AllByRecursion (HasBegun (position + 1)) (cons_option o ms)
  one_more None ms h rest = rest
  one_more (Some m) ms h rest = (h, rest)

  all_begun : (nodes : List Node) → AllByRecursion (HasBegun position) fold.members → (zones : List (List (List ℕ)))
      → AllByRecursion (HasBegun (position + 1))
      (filter_map (λ zone. (judged_at fold catalog nodes position zone).stands) zones)
  all_begun nodes h [] = tt
  all_begun nodes h (zone ∷ zones) =
      one_more _ _ (judged_begun (member_of zone fold.members) (held_begun zone fold.members h) (node_of zone nodes))
      (all_begun nodes h zones)

  pub processed_begun : (nodes : List Node) → AllByRecursion (HasBegun position) fold.members
      → AllByRecursion (HasBegun (position + 1)) (process fold catalog nodes position).members
  unfolding process
  processed_begun nodes h = all_begun nodes h (zones_of fold.members nodes)

pub all_later : (count : ℕ) (ms : List MemberOf) → AllByRecursion (HasBegun count) ms
    → AllByRecursion (HasBegun (count + 1)) ms
all_later count [] h = tt
all_later count (m ∷ ms) h = (later count m h.0, all_later count ms h.1)
