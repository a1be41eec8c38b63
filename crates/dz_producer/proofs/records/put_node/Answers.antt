use Rattle.std.proofs.Common.{◌≡◌, ◌∷◌, ◌++◌, [], List, ℕ, Option, false, sym, ◌∙◌, ap, subst}
use Rattle.dz_catalog.specs.Member.{zones_of}
use Rattle.dz_producer.specs.Faults.{is_long}
use Rattle.dz_producer.specs.Records.{owner_of, coo_records}
use Rattle.dz_producer.proofs.MakingLemmas.{above_room, node_room}
use Rattle.dz_producer.proofs.PutLemmas.{node_put}
use Rattle.dz_producer.proofs.records.put_node.Goals as goal

pub below-requires-clause-room : goal.below-requires-clause-room
below-requires-clause-room c =
    above_room c.args.node.now.label (zones_of c.args.apex.now)
    (node_room c.args.apex.now c.args.node.now c.requires.short).0

pub child-owner-requires : goal.child-owner-requires
child-owner-requires c =
    subst (λ (n : List (List ℕ)). is_long (c.args.node.now.label ∷ n) ≡ false) (sym c.below.ensures)
    (node_room c.args.apex.now c.args.node.now c.requires.short).0

pub put_coo-requires : goal.put_coo-requires
put_coo-requires c =
    let owner : c.child-owner.result ≡ owner_of c.args.apex.now c.args.node.now = c.child-owner.ensures
    ∙ ap (λ (n : List (List ℕ)). c.args.node.now.label ∷ n) c.below.ensures in
    rw (owner, c.as_ref.ensures.value) (node_room c.args.apex.now c.args.node.now c.requires.short).1.0

pub put_groups-requires-clause-short : goal.put_groups-requires-clause-short
put_groups-requires-clause-short c =
    let owner : c.child-owner.result ≡ owner_of c.args.apex.now c.args.node.now = c.child-owner.ensures
    ∙ ap (λ (n : List (List ℕ)). c.args.node.now.label ∷ n) c.below.ensures in
    rw (owner, c.as_slice.ensures) (node_room c.args.apex.now c.args.node.now c.requires.short).1.1

pub returns-clause-records : goal.returns-clause-records
returns-clause-records c =
    let node = c.args.node.now in
    let owner : c.child-owner.result ≡ owner_of c.args.apex.now node = c.child-owner.ensures
    ∙ ap (λ (n : List (List ℕ)). node.label ∷ n) c.below.ensures in
    let first : c.push.new.self.items ≡ c.args.out.now.items ++ c.in_ok-pointer.field-0 ∷ [] =
    c.in_ok-push.ensures.items in
    let second : c.put_coo.new.out.items ≡ c.push.new.self.items ++ coo_records c.child-owner.result node.coo =
    c.in_ok-put_coo.ensures.records
    ∙ ap (λ (coo : Option (List (List ℕ))). c.push.new.self.items ++ coo_records c.child-owner.result coo)
    c.as_ref.ensures.value in
    node_put c.args.apex.now node c.child-owner.result c.in_ok-pointer.field-0 c.args.out.now.items
    c.push.new.self.items c.put_coo.new.out.items c.put_groups.new.out.items c.put_groups.result owner
    c.in_ok-pointer.ensures.record first second
    (rw c.as_slice.ensures at c.put_groups.ensures)
