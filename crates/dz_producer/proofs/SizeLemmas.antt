-- How long the owners of a catalog's records are, and how many records it has.
use Rattle.std.proofs.Common.{◌≡◌, ℕ, ◌+◌, Bool, true, false, ◌||◌, List, [], ◌∷◌, length, map, refl, sym, ◌∙◌, ap}
use Rattle.std.proofs.Common.{arith, length-append, Some, None, Option}
use Rattle.std.specs.Prelude.{nat_lt, sum_by, is_some, if◌then◌else◌}
use Rattle.std.specs.Borrow.{Bor}
use Rattle.std.specs.List.{list_any, flat_map}
use Rattle.std.proofs.lemmas.Bool.Decides.{nat_tests}
use Rattle.std.proofs.lemmas.List.{length-map}
use Rattle.std.proofs.lemmas.List.Sums.{sum_by-cons}
use Rattle.dz_name.specs.Name.{wire_of}
use Rattle.dz_member.specs.declared.listing.Node.{Node}
use Rattle.dz_catalog.specs.Member.{coo_name, group_name, zones_of}
use Rattle.dz_producer.specs.Faults.{is_long}
use Rattle.dz_producer.specs.Records.{uncached, owner_of, coo_records, group_records, node_records}
use Rattle.dz_producer.specs.inner.Nodes.{coo_count, record_count, property_size}

pub size_child : (label : List ℕ) (name : List (List ℕ))
    → length (wire_of (label ∷ name)) ≡ length (wire_of name) + (length label + 1)
unfolding wire_of
size_child label name = omega (arith, length-append label (wire_of name))

pub long_child : (label : List ℕ) (name : List (List ℕ)) (n : ℕ) → n ≡ length (wire_of name) + (length label + 1)
    → nat_lt 255 n ≡ is_long (label ∷ name)
long_child label name n e = ap (nat_lt 255) (e ∙ sym (size_child label name))

-- of groups each has the owner
group_long : (name : List (List ℕ)) (group : List ℕ) (groups : List (List ℕ))
    → list_any (λ r. is_long r.owner) (map (uncached name 16) (group ∷ groups)) ≡ is_long name
group_long name group [] = or_end (is_long name)
  where
    or_end : (b : Bool) → (b || false) ≡ b
    or_end true = refl
    or_end false = refl
group_long name group (g ∷ gs) = ap (λ b. is_long name || b) (group_long name g gs) ∙ or_same (is_long name)
  where
    or_same : (b : Bool) → (b || b) ≡ b
    or_same true = refl
    or_same false = refl

longer : (w n k : ℕ) → n ≡ w + k → nat_lt 255 n ≡ (nat_lt 255 w || nat_lt 255 n)
longer w n k e = grind (arith, nat_tests)

grouped : (label : List ℕ) (coo : Option (List (List ℕ))) (g : List ℕ) (gs zone : List (List ℕ))
    → property_size (record { label = label; zone = zone; coo = coo; groups = g ∷ gs }) ≡ 6
grouped label coo g gs zone =
    let some : nat_lt 0 (length (g ∷ gs)) ≡ true = grind (arith, nat_tests) in
    ap (λ (b : Bool). if b then 6 else (if is_some coo then 4 else 0)) some

pub node_long : (apex : List (List ℕ)) (label : List ℕ) (coo : Option (List (List ℕ))) (groups : List (List ℕ))
    (zone : List (List ℕ)) (n : ℕ)
    → n ≡ length (wire_of apex) + 6 + 1 + length label + property_size
    (record { label = label; zone = zone; coo = coo; groups = groups })
    → nat_lt 255 n ≡ list_any (λ r. is_long r.owner)
    (node_records apex (record { label = label; zone = zone; coo = coo; groups = groups }))
unfolding node_records
node_long apex label None [] zone n e =
    let w = size_child label (zones_of apex) in
    let z = size_child (122 ∷ 111 ∷ 110 ∷ 101 ∷ 115 ∷ []) apex in
    let at : n ≡ length (wire_of (label ∷ zones_of apex)) = omega arith in
    rw at (end (is_long (label ∷ zones_of apex)))
  where
    end : (b : Bool) → b ≡ (b || false)
    end true = refl
    end false = refl
node_long apex label (Some catalog) [] zone n e =
    let owner : List (List ℕ) = label ∷ zones_of apex in
    let w = size_child label (zones_of apex) in
    let z = size_child (122 ∷ 111 ∷ 110 ∷ 101 ∷ 115 ∷ []) apex in
    let p = size_child (99 ∷ 111 ∷ 111 ∷ []) owner in
    let at : n ≡ length (wire_of (coo_name owner)) = omega arith in
    let more : length (wire_of (coo_name owner)) ≡ length (wire_of owner) + 4 = omega arith in
    rw at (longer (length (wire_of owner)) (length (wire_of (coo_name owner))) 4 more
    ∙ ap (λ b. is_long owner || b) (end (is_long (coo_name owner))))
  where
    end : (b : Bool) → b ≡ (b || false)
    end true = refl
    end false = refl
node_long apex label None (g ∷ gs) zone n e =
    let six : property_size (record { label = label; zone = zone; coo = None; groups = g ∷ gs }) ≡ 6 =
    grouped label None g gs zone in
    let owner : List (List ℕ) = label ∷ zones_of apex in
    let w = size_child label (zones_of apex) in
    let z = size_child (122 ∷ 111 ∷ 110 ∷ 101 ∷ 115 ∷ []) apex in
    let p = size_child (103 ∷ 114 ∷ 111 ∷ 117 ∷ 112 ∷ []) owner in
    let at : n ≡ length (wire_of (group_name owner)) = omega arith in
    let more : length (wire_of (group_name owner)) ≡ length (wire_of owner) + 6 = omega arith in
    rw at (longer (length (wire_of owner)) (length (wire_of (group_name owner))) 6 more
    ∙ ap (λ b. is_long owner || b) (sym (group_long (group_name owner) g gs)))
node_long apex label (Some catalog) (g ∷ gs) zone n e =
    let six : property_size (record { label = label; zone = zone; coo = Some catalog; groups = g ∷ gs }) ≡ 6 =
    grouped label (Some catalog) g gs zone in
    let owner : List (List ℕ) = label ∷ zones_of apex in
    let w = size_child label (zones_of apex) in
    let z = size_child (122 ∷ 111 ∷ 110 ∷ 101 ∷ 115 ∷ []) apex in
    let p = size_child (103 ∷ 114 ∷ 111 ∷ 117 ∷ 112 ∷ []) owner in
    let c = size_child (99 ∷ 111 ∷ 111 ∷ []) owner in
    let at : n ≡ length (wire_of (group_name owner)) = omega arith in
    let more : length (wire_of (group_name owner)) ≡ length (wire_of owner) + 6 = omega arith in
    let between : length (wire_of (group_name owner)) ≡ length (wire_of (coo_name owner)) + 2 = omega arith in
    rw at (longer (length (wire_of owner)) (length (wire_of (group_name owner))) 6 more
    ∙ ap (λ b. is_long owner || b) (longer (length (wire_of (coo_name owner))) (length (wire_of (group_name owner))) 2
    between ∙ ap (λ b. is_long (coo_name owner) || b) (sym (group_long (group_name owner) g gs))))

-- ---- how many records
coo_length : (owner : List (List ℕ)) (coo : Option (List (List ℕ))) → length (coo_records owner coo) ≡ coo_count coo
coo_length owner None = refl
coo_length owner (Some catalog) = refl

pub node_length : (apex : List (List ℕ)) (node : Node) → length (node_records apex node) ≡ record_count node
unfolding node_records
node_length apex node =
    let c = coo_length (owner_of apex node) node.coo in
    let g : length (group_records (owner_of apex node) node.groups) ≡ length node.groups =
    length-map node.groups (uncached (group_name (owner_of apex node)) 16) in
    let a =
    length-append (coo_records (owner_of apex node) node.coo) (group_records (owner_of apex node) node.groups) in
    omega arith

pub nodes_length : (apex : List (List ℕ)) (nodes : List (Bor Node))
    → length (flat_map (λ b. node_records apex b.now) nodes) ≡ sum_by (λ b. record_count b.now) nodes
nodes_length apex [] = refl
nodes_length apex (b ∷ bs) =
    let here = node_length apex b.now in
    let rest = nodes_length apex bs in
    let a = length-append (node_records apex b.now) (flat_map (λ x. node_records apex x.now) bs) in
    a ∙ (ap (λ n. n + length (flat_map (λ x. node_records apex x.now) bs)) here
    ∙ (ap (λ n. record_count b.now + n) rest ∙ sym (sum_by-cons (λ (x : Bor Node). record_count x.now) b bs)))
