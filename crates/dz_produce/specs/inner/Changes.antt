-- Inner: how the code keeps a change.
use Rattle.std.specs.Prelude.{◌≡◌, ℕ, Bool, true, ◌&&◌, not, is_some, List, [], Option, Some, None}
use Rattle.std.specs.List.{AllByRecursion, list_any}
use Rattle.dz_name.specs.Name.{same_label}
use Rattle.dz_name.specs.Words.{Octets}
use Rattle.dz_xfr.specs.Apex.{held_serial}
use Rattle.dz_member.specs.declared.listing.Node.{Node}
use Rattle.dz_zone.specs.Version.{Zone}
use Rattle.dz_producer.specs.Amended.{IsCatalog, listed, is_listed, nodes_after, amend_fault, difference_octets}
use Rattle.dz_producer.specs.Draft.{IsHeld, saturated, spent}
use Rattle.dz_producer.specs.Produced.{produced}
use Rattle.dz_producer.specs.declared.amended.Amended.{Amended}

-- a catalog before a change, and the labels that are dropped
pub record Changing : Type 0 where
  pub zone : Zone
  pub dropped : List Octets

-- what is known of a catalog before
pub record IsKnown (old : Zone) : Type 0 where
  pub catalog : IsCatalog old
  pub held : AllByRecursion IsHeld (listed old)

-- a label is that of a node, and not dropped yet
abbrev pub may_go : Zone → List Octets → Octets → Bool
may_go old dropped label = is_listed old label && not (list_any (same_label label) dropped)

-- nodes, the labels that are left, and a count of octets are those of a change
pub record IsChange (old : Zone) (nodes : List Node) (left : Octets → Bool) (count : ℕ)
    (dropped : List Octets) : Type 0 where
  pub known : IsKnown old
  pub lists : nodes ≡ listed old
  pub stays : (label : Octets) → left label ≡ may_go old dropped label
  pub octets : count ≡ saturated (spent old.apex (listed old))

-- what a change without a fault leads to
pub record Leads (old : Zone) (serial : ℕ) (dropped : List Octets) (added : List Node)
    (amended : Amended) : Type 0 where
  pub faultless : amend_fault old serial dropped added ≡ None
  pub version : amended.version ≡ produced old.apex serial (nodes_after old dropped added)
  pub octets : amended.octets ≡ difference_octets old serial dropped added
  pub catalog : IsCatalog amended.version
  pub serial_is : held_serial amended.version ≡ serial

-- what a change leads to, or that it has a fault
abbrev pub LeadsTo : Zone → ℕ → List Octets → List Node → Option Amended → Type 0
LeadsTo old serial dropped added None = is_some (amend_fault old serial dropped added) ≡ true
LeadsTo old serial dropped added (Some amended) = Leads old serial dropped added amended

-- a change of a catalog that drops nothing yet, and has no fault with this serial
pub record Begins (old : Zone) (serial : ℕ) (change : Changing) : Type 0 where
  pub begins : change ≡ record { zone = old; dropped = [] }
  pub faultless : amend_fault old serial [] [] ≡ None
  pub known : IsKnown old
