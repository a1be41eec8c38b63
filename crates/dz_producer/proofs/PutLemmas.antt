-- Records that are put after others.
use Rattle.std.proofs.Common.{◌≡◌, ℕ, List, [], ◌∷◌, ◌++◌, refl, ◌∙◌, ap, Ok, Err, Result}
use Rattle.std.specs.Prelude.{OnOk}
use Rattle.std.specs.Borrow.{Bor}
use Rattle.std.specs.List.{flat_map}
use Rattle.dz_name.specs.Name.{wire_of}
use Rattle.dz_member.specs.declared.listing.Node.{Node}
use Rattle.dz_record.specs.Record.{Record}
use Rattle.dz_producer.specs.Records.{uncached, soa, name_server, version_property, owner_of, coo_records}
use Rattle.dz_producer.specs.Records.{group_records, node_records, plain_records, digest, all_records}
use Rattle.dz_producer.specs.inner.Nodes.{values}
use Rattle.dz_producer.proofs.NodeLemmas.{flat_values}

moved : (xs : List Record) (y : Record) (us vs : List Record) → ((xs ++ y ∷ []) ++ us) ++ vs ≡ xs ++ (y ∷ (us ++ vs))
moved [] y us vs = refl
moved (x ∷ xs) y us vs = ap (λ zs. x ∷ zs) (moved xs y us vs)

-- those of a node, in three steps
pub node_put : {T E : Type 0} (apex : List (List ℕ)) (node : Node) (owner : List (List ℕ)) (r : Record)
    (xs one two three : List Record) (result : Result T E) → owner ≡ owner_of apex node
    → r ≡ uncached owner 12 (wire_of node.zone)
    → one ≡ xs ++ r ∷ [] → two ≡ one ++ coo_records owner node.coo
    → OnOk result (three ≡ two ++ group_records owner node.groups) → OnOk result (three ≡ xs ++ node_records apex node)
unfolding node_records
node_put apex node owner r xs one two three (Ok t) is made first second last =
    last
    ∙ (ap (λ ys. ys ++ group_records owner node.groups)
    (second ∙ ap (λ ys. ys ++ coo_records owner node.coo) (first ∙ ap (λ y. xs ++ y ∷ []) made))
    ∙ (moved xs (uncached owner 12 (wire_of node.zone)) (coo_records owner node.coo) (group_records owner node.groups)
    ∙ ap (λ (o : List (List ℕ)).
    xs ++ (uncached o 12 (wire_of node.zone) ∷ (coo_records o node.coo ++ group_records o node.groups))) is))
node_put apex node owner r xs one two three (Err e) is made first second last = tt

-- those of a catalog
module _ (apex : List (List ℕ)) (serial : ℕ) (nodes : List (Bor Node)) where
  pub plain_put : (x y z : Record) (none one two three all : List Record) → x ≡ soa apex serial → y ≡ name_server apex
      → z ≡ version_property apex
      → none ≡ [] → one ≡ none ++ x ∷ [] → two ≡ one ++ y ∷ [] → three ≡ two ++ z ∷ []
      → all ≡ three ++ flat_map (λ b. node_records apex b.now) nodes → all ≡ plain_records apex serial (values nodes)
  plain_put x y z none one two three all is also last a b c d e =
      let front : three ≡ x ∷ y ∷ z ∷ [] = d
      ∙ ap (λ xs. xs ++ z ∷ []) (c ∙ ap (λ xs. xs ++ y ∷ []) (b ∙ ap (λ xs. xs ++ x ∷ []) a)) in
      e ∙ (ap (λ xs. xs ++ flat_map (λ b. node_records apex b.now) nodes) front
      ∙ (λ i. is i ∷ also i ∷ last i ∷ flat_values (node_records apex) nodes i))

  pub all_put : (plain same all : List Record) (z : Record) → plain ≡ plain_records apex serial (values nodes)
      → same ≡ plain → z ≡ digest apex serial same → all ≡ plain ++ z ∷ []
      → all ≡ all_records apex serial (values nodes)
  all_put plain same all z is shared made last =
      let zonemd : z ≡ digest apex serial (plain_records apex serial (values nodes)) = made
      ∙ ap (digest apex serial) (shared ∙ is) in
      last ∙ (λ i. is i ++ zonemd i ∷ [])
