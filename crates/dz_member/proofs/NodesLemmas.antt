-- Nodes in a map: what the map does by labels is what lists of nodes have.
use Rattle.std.proofs.Common.{◌≡◌, List, [], ◌∷◌, map, refl, ap, true}
use Rattle.std.specs.Prelude.{Some, None, if◌then◌else◌}
use Rattle.std.specs.List.{find, AllByRecursion}
use Rattle.std.specs.List.Sorted.{IsStrictlySortedBy}
use Rattle.std.specs.FinMap as fin
use Rattle.dz_chunks.specs.Map.{without_key}
use Rattle.dz_keys.specs.Labels.{label_same}
use Rattle.dz_name.specs.Words.{Octets}
use Rattle.dz_name.specs.Name.{label_order, same_label}
use Rattle.dz_name.specs.Order.{label_total, same_label_decides}
use Rattle.dz_member.specs.declared.listing.Node.{Node}
use Rattle.dz_member.specs.inner.Nodes.{entries_of, nodes_of, IsOwn, AreNodes}
use Rattle.dz_member.proofs.MapLemmas as maps

pub nodes_back : (ns : List Node) → nodes_of (entries_of ns) ≡ ns
nodes_back [] = refl
nodes_back (n ∷ ns) = ap (λ l. n ∷ l) (nodes_back ns)

own_entries : (ns : List Node) → AllByRecursion IsOwn (entries_of ns)
own_entries [] = tt
own_entries (n ∷ ns) = (refl, own_entries ns)

abbrev label_of : Node → Octets
label_of n = n.label

pub kept_nodes : (ns : List Node) (es : List (Octets × Node)) → IsStrictlySortedBy label_order (map (λ n. n.label) ns)
    → es ≡ entries_of ns → AreNodes es
kept_nodes ns es up e = record { own = rw e (own_entries ns); order = rw (e, nodes_back ns) up }

pub sorted_nodes : (ns : List Node) → IsStrictlySortedBy label_order (map (λ n. n.label) ns)
    → fin.is_sorted label_order (entries_of ns) ≡ true
sorted_nodes ns up =
    maps.true_is (fin.is_sorted label_order (entries_of ns))
    (maps.sorted_from label_order label_total same_label same_label_decides label_same label_of (entries_of ns)
    (own_entries ns) (rw (nodes_back ns) up))

pub find_node : (z : Octets) (es : List (Octets × Node)) → AreNodes es
    → fin.find label_order z es ≡ find (λ n. same_label n.label z) (nodes_of es)
find_node z es a =
    maps.find_values label_order label_total same_label same_label_decides label_same label_of z es a.own

pub nodes_put : (n : Node) (es : List (Octets × Node)) → AreNodes es → AreNodes (fin.put label_order n.label n es)
nodes_put n es a = record {
  own = maps.put_own label_order label_total same_label same_label_decides label_same label_of n es a.own;
  order = maps.put_rises label_order label_total same_label same_label_decides label_same label_of n es a.own a.order;
}

pub nodes_left : (z : Octets) (es : List (Octets × Node)) → AreNodes es → AreNodes (without_key label_order z es)
nodes_left z es a = record {
  own = maps.without_own label_order label_total same_label same_label_decides label_same label_of z es a.own;
  order = maps.without_rises label_order label_total same_label same_label_decides label_same label_of z es a.own
      a.order;
}

pub put_node : (z : Octets) (n : Node) (es : List (Octets × Node)) → AreNodes es
    → find (λ n. same_label n.label z) (nodes_of (fin.put label_order n.label n es))
    ≡ (if same_label n.label z then Some n else find (λ n. same_label n.label z) (nodes_of es))
put_node z n es a =
    maps.put_at label_order label_total same_label same_label_decides label_same label_of z n es a.own

pub left_node : (z k : Octets) (es : List (Octets × Node)) → AreNodes es
    → find (λ n. same_label n.label z) (nodes_of (without_key label_order k es))
    ≡ (if same_label k z then None else find (λ n. same_label n.label z) (nodes_of es))
left_node z k es a =
    maps.without_at label_order label_total same_label same_label_decides label_same label_of z k es a.own
