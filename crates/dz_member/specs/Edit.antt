-- Meaning: a listing of which the nodes of some labels are edited.
use Rattle.std.specs.Prelude.{◌≡◌, Bool, true, ◌||◌, List, [], ◌∷◌, ◌++◌, map, filter, All, is_some}
use Rattle.std.specs.Option.{option_to_list, ForSome}
use Rattle.std.specs.Ordering.{is_lt, is_gt}
use Rattle.std.specs.List.{find, filter_map, list_any}
use Rattle.std.specs.List.Sorted.{IsStrictlySortedBy}
use Rattle.dz_name.specs.Words.{Name}
use Rattle.dz_name.specs.Name.{label_order, same_label, same_name}
use Rattle.dz_member.specs.declared.listing.Node.{Node}
use Rattle.dz_member.specs.declared.edit.Edit.{Edit}
use Rattle.dz_member.specs.Fold.{FoldOf, member_of}
use Rattle.dz_member.specs.Process.{node_of}

-- nodes in the order of their labels, with the node of one label replaced, put in or taken out
abbrev pub edited_at : List Node → Edit → List Node
edited_at nodes e = filter (λ n. is_lt (label_order n.label e.label)) nodes ++ option_to_list e.node
    ++ filter (λ n. is_gt (label_order n.label e.label)) nodes

-- the same at the labels of some edits
abbrev pub edited : List Node → List Edit → List Node
edited nodes [] = nodes
edited nodes (e ∷ edits) = edited (edited_at nodes e) edits

-- the labels rise, and each node is at the label of its edit
pub record AreEdits (edits : List Edit) : Type 0 where
  pub labels : IsStrictlySortedBy label_order (map (λ e. e.label) edits)
  pub own : All (λ e. ForSome e.node (λ n. n.label ≡ e.label)) edits

-- the nodes that edits put in
abbrev pub nodes_put : List Edit → List Node
nodes_put edits = filter_map (λ e. e.node) edits

-- the nodes that were at the labels of edits
abbrev pub nodes_replaced : List Node → List Edit → List Node
nodes_replaced nodes edits = filter_map (λ e. find (λ n. same_label n.label e.label) nodes) edits

-- a zone is that of a node that edits put in, or replaced
abbrev pub is_touched : List Node → List Edit → Name → Bool
is_touched nodes edits zone =
    is_some (node_of zone (nodes_put edits)) || is_some (node_of zone (nodes_replaced nodes edits))

-- no zone of a node put in is a member of this catalog at a label that isn't edited
abbrev pub AreFree : FoldOf → Name → List Edit → Type 0
AreFree fold catalog edits = All (λ n. ForSome (member_of n.zone fold.members)
    (λ m. same_name m.catalog catalog ≡ true → list_any (λ e. same_label e.label m.label) edits ≡ true)) (nodes_put edits)
