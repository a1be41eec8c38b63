-- Meaning: what is kept of nodes that come one after another, and what is told of them from it, whatever the serial.
use Rattle.std.specs.Prelude.{◌≡◌, ℕ, ◌+◌, ◌-◌, ◌^◌, ◌<◌, ◌≤◌, true, List, [], ◌∷◌, ◌++◌, length, min, sum_by, is_some}
use Rattle.std.specs.Prelude.{None}
use Rattle.std.specs.BTreeSet.{contains}
use Rattle.std.specs.List.{All, AllByRecursion, list_any}
use Rattle.std.specs.Option.{ForSome}
use Rattle.dz_name.specs.Name.{IsLabel, IsName, same_label, same_name, label_order, canonical_order}
use Rattle.dz_name.specs.Words.{Name, Octets}
use Rattle.dz_record.specs.Record.{Record, record_octets}
use Rattle.dz_member.specs.declared.listing.Node.{Node}
use Rattle.dz_producer.specs.Faults.{produce_fault}
use Rattle.dz_producer.specs.Records.{node_records}
use Rattle.dz_producer.specs.declared.draft.Draft.{Draft}
use Rattle.dz_producer.specs.declared.draft.TheConstants.Draft.{SURE}
use Rattle.dz_producer.specs.declared.draft.Verdict.{Verdict}
use Rattle.dz_producer.specs.declared.draft.Verdict.TheVariants.{Fine, Faulty, Unsure}
use Rattle.dz_producer.specs.inner.Nodes.{record_count}

-- ---- sums, which stop at the largest number of 64 bits
-- a number, or the largest of 64 bits where it is larger
abbrev pub saturated : ℕ → ℕ
saturated n = min n (2 ^ 64 - 1)

-- how many octets records have
abbrev pub octets_of : List Record → ℕ
octets_of records = sum_by (λ r. length (record_octets r)) records

-- how many octets a node's records have
abbrev pub node_size : Name → Node → ℕ
node_size apex node = octets_of (node_records apex node)

-- how many octets the records of nodes have
abbrev pub spent : Name → List Node → ℕ
spent apex nodes = sum_by (node_size apex) nodes

-- what is known of every node that a program holds
pub record IsHeld (node : Node) : Type 0 where
  pub label : IsLabel node.label
  pub zone : IsName node.zone
  pub coo : ForSome node.coo IsName
  pub groups : AllByRecursion (All (λ octet. octet < 2 ^ 8)) node.groups

-- these are the nodes that were put into a draft
pub record IsDraft (nodes : List Node) (draft : Draft) : Type 0 where
  pub labels : (label : Octets)
      → contains label_order draft.labels label ≡ list_any (λ n. same_label n.label label) nodes
  pub zones : (zone : Name) → contains canonical_order draft.zones zone ≡ list_any (λ n. same_name n.zone zone) nodes
  pub count : draft.nodes ≡ saturated (length nodes)
  pub records : draft.records ≡ saturated (4 + sum_by record_count nodes)

-- one more was put into it, and its octets were counted
pub record IsGrown (apex : Name) (nodes : List Node) (node : Node) (before after : Draft) : Type 0 where
  pub draft : IsDraft (nodes ++ node ∷ []) after
  pub octets : after.octets ≡ saturated (before.octets + node_size apex node)
  pub held : IsHeld node

-- what a verdict on the nodes and one more says
abbrev pub IsJudged : Verdict → Name → List Node → Node → Draft → Draft → Type 0
IsJudged Fine apex nodes node before after =
    IsGrown apex nodes node before after × (after.octets ≤ SURE)
    × ((serial : ℕ) → produce_fault apex serial (nodes ++ node ∷ []) ≡ None)
IsJudged Faulty apex nodes node before after =
    (serial : ℕ) → is_some (produce_fault apex serial (nodes ++ node ∷ [])) ≡ true
IsJudged Unsure apex nodes node before after = IsGrown apex nodes node before after

-- nodes without a fault, of which the draft is, and which have no more octets than were counted
pub record IsGood (apex : Name) (serial : ℕ) (nodes : List Node) (so_far : Draft) : Type 0 where
  pub draft : IsDraft nodes so_far
  pub octets : saturated (spent apex nodes) ≤ so_far.octets
  pub held : AllByRecursion IsHeld nodes
  pub faultless : produce_fault apex serial nodes ≡ None

-- a verdict holds, whatever nodes without a fault the draft is of, and whatever their serial
abbrev pub Judges : Verdict → Name → Node → Draft → Draft → Type 0
Judges verdict apex node before after = (serial : ℕ) (nodes : List Node) → IsGood apex serial nodes before
    → IsJudged verdict apex nodes node before after
