-- Inner: how the code keeps a catalog that is being made.
use Rattle.std.specs.Prelude.{◌≡◌, ℕ, ◌+◌, ◌≤◌, true, false, is_some, List, [], ◌++◌, Option, Some, None, option_map}
use Rattle.std.specs.List.{AllByRecursion}
use Rattle.std.specs.Option.{ForSome, option_map_or}
use Rattle.dz_name.specs.Words.{Name, Octets}
use Rattle.dz_xfr.specs.Apex.{held_serial}
use Rattle.dz_member.specs.declared.listing.Node.{Node}
use Rattle.dz_zone.specs.Version.{Zone}
use Rattle.dz_producer.specs.Amended.{IsCatalog, listed, kept}
use Rattle.dz_producer.specs.Draft.{IsDraft, IsHeld, saturated, spent}
use Rattle.dz_producer.specs.Faults.{produce_fault}
use Rattle.dz_producer.specs.Produced.{produced}
use Rattle.dz_producer.specs.declared.draft.Draft.{Draft}
use Rattle.dz_produce.specs.Producing.{Making, is_faulty, text_of, version_of}
use Rattle.dz_produce.specs.inner.Changes.{Changing, IsKnown}

-- the catalog that is being made, of what the code keeps
abbrev pub making_of : Name → ℕ → Option Changing → List Node → Making
making_of apex serial change added = record {
  apex = apex;
  serial = serial;
  before = option_map (λ c. c.zone) change;
  dropped = option_map_or (λ c. c.dropped) change [];
  added = added;
}

-- the nodes that stay of the catalog before
abbrev pub stays_of : Option Zone → List Octets → List Node
stays_of None dropped = []
stays_of (Some old) dropped = kept old dropped

-- the octets of all nodes that the catalog before has
abbrev pub spent_before : Option Zone → ℕ
spent_before None = 0
spent_before (Some old) = spent old.apex (listed old)

-- the catalog before has this apex
pub record IsAt (apex : Name) (old : Zone) : Type 0 where
  pub known : IsKnown old
  pub apex_is : old.apex ≡ apex

-- a draft is of the nodes that stay and those that are added, and counts the octets of all that were there and of
-- these
pub record IsDrafted (m : Making) (these : Draft) : Type 0 where
  pub draft : IsDraft (stays_of m.before m.dropped ++ m.added) these
  pub octets : saturated (spent_before m.before + spent m.apex m.added) ≤ these.octets

-- what is known of a catalog that is being made
pub record IsSound (m : Making) : Type 0 where
  pub faultless : is_faulty m ≡ false
  pub before : ForSome m.before (IsAt m.apex)
  pub held : AllByRecursion IsHeld m.added

-- what is known of it, and of its draft where there is one
pub record IsMaking (m : Making) (draft : Option Draft) : Type 0 where
  pub sound : IsSound m
  pub drafted : ForSome draft (IsDrafted m)

-- a version of nodes alone, which have no fault
pub record Produces (apex : Name) (serial : ℕ) (nodes : List Node) (version : Zone) : Type 0 where
  pub faultless : produce_fault apex serial nodes ≡ None
  pub version_is : version ≡ produced apex serial nodes
  pub catalog : IsCatalog version
  pub serial_is : held_serial version ≡ serial

-- a version of nodes alone, or that they have a fault
abbrev pub ProducesSome : Name → ℕ → List Node → Option Zone → Type 0
ProducesSome apex serial nodes None = is_some (produce_fault apex serial nodes) ≡ true
ProducesSome apex serial nodes (Some version) = Produces apex serial nodes version

-- a version and its line are those of a catalog that is being made
pub record IsMade (m : Making) (version : Zone) (line : Octets) : Type 0 where
  pub faultless : is_faulty m ≡ false
  pub version_is : version ≡ version_of m
  pub line_is : line ≡ text_of m
  pub catalog : IsCatalog version
  pub serial_is : held_serial version ≡ m.serial
