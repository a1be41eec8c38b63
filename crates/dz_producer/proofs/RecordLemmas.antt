-- The records of nodes, one by one.
use Rattle.std.proofs.Common.{◌≡◌, ℕ, Bool, false, List, [], ◌∷◌, ◌++◌, refl, Some, None, Option}
use Rattle.std.specs.Prelude.{filter}
use Rattle.std.specs.List.{AllByRecursion, flat_map}
use Rattle.dz_name.specs.Name.{wire_of}
use Rattle.dz_member.specs.declared.listing.Node.{Node}
use Rattle.dz_record.specs.Record.{Record}
use Rattle.dz_catalog.specs.Member.{coo_name, group_name}
use Rattle.dz_producer.specs.Records.{uncached, owner_of, member, coo_records, group_records, node_records}

pub all_append : {X : Type 0} (P : X → Type 0) (xs ys : List X) → AllByRecursion P xs → AllByRecursion P ys
    → AllByRecursion P (xs ++ ys)
all_append P [] ys h k = k
all_append P (x ∷ xs) ys h k = (h.0, all_append P xs ys h.1 k)

pub none_kept : {X : Type 0} (p : X → Bool) (xs : List X) → AllByRecursion (λ x. p x ≡ false) xs → filter p xs ≡ []
none_kept p [] h = refl
none_kept p (x ∷ xs) h = rw h.0 (none_kept p xs h.1)

pub all_groups : (P : Record → Type 0) (owner : List (List ℕ))
    → ((text : List ℕ) → P (uncached (group_name owner) 16 text)) → (groups : List (List ℕ))
    → AllByRecursion P (group_records owner groups)
all_groups P owner f [] = tt
all_groups P owner f (g ∷ gs) = (f g, all_groups P owner f gs)

pub all_coo : (P : Record → Type 0) (owner : List (List ℕ))
    → ((catalog : List (List ℕ)) → P (uncached (coo_name owner) 12 (wire_of catalog))) → (coo : Option (List (List ℕ)))
    → AllByRecursion P (coo_records owner coo)
all_coo P owner f None = tt
all_coo P owner f (Some catalog) = (f catalog, tt)

-- what holds of a PTR, a change of ownership and a group holds of each record of a node
pub all_node : (P : Record → Type 0) (apex : List (List ℕ)) (node : Node) → P (member apex node)
    → ((catalog : List (List ℕ)) → P (uncached (coo_name (owner_of apex node)) 12 (wire_of catalog)))
    → ((text : List ℕ) → P (uncached (group_name (owner_of apex node)) 16 text))
    → AllByRecursion P (node_records apex node)
unfolding node_records
all_node P apex node p f g = (
  p,
  all_append P (coo_records (owner_of apex node) node.coo) (group_records (owner_of apex node) node.groups)
      (all_coo P (owner_of apex node) f node.coo) (all_groups P (owner_of apex node) g node.groups),
)

-- and so of those of all nodes
pub all_nodes : (P : Record → Type 0) (apex : List (List ℕ))
    → ((node : Node) → AllByRecursion P (node_records apex node)) → (nodes : List Node)
    → AllByRecursion P (flat_map (node_records apex) nodes)
all_nodes P apex f [] = tt
all_nodes P apex f (n ∷ ns) =
    all_append P (node_records apex n) (flat_map (node_records apex) ns) (f n) (all_nodes P apex f ns)
