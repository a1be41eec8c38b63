-- Answer: what the calls that make and amend a catalog answer.
use Rattle.std.specs.Prelude.{◌≡◌, ℕ, List, Some, None, Result, Ok, Err, ⊤}
use Rattle.dz_name.specs.Words.{Octets, Name}
use Rattle.dz_zone.specs.Version.{Zone}
use Rattle.dz_member.specs.declared.listing.Node.{Node}
use Rattle.dz_producer.specs.Produced.{produced}
use Rattle.dz_producer.specs.declared.amended.Amended.{Amended}
use Rattle.dz_producer.specs.declared.fault.AmendError.{AmendError}
use Rattle.dz_producer.specs.declared.fault.AmendError.TheVariants.{Fault, OutOfMemory}
use Rattle.dz_producer.specs.Amended.{nodes_after, difference_octets, amend_fault}
use Rattle.dz_producer.specs.Faults.{produce_fault}
use Rattle.dz_producer.specs.declared.fault.ProduceError.{ProduceError}
use Rattle.dz_producer.specs.declared.fault.ProduceError.TheVariants as produce_errors

-- the catalog of the nodes after the change and the difference, where there is no fault, or else the first fault;
-- where memory runs out, nothing is told
abbrev pub IsAmended : Zone → ℕ → List Octets → List Node → Result Amended AmendError → Type 0
IsAmended old serial dropped added (Ok amended) =
    (amend_fault old serial dropped added ≡ None)
    × ((amended.version ≡ produced old.apex serial (nodes_after old dropped added))
    × (amended.octets ≡ difference_octets old serial dropped added))
IsAmended old serial dropped added (Err (Fault fault)) = amend_fault old serial dropped added ≡ Some fault
IsAmended old serial dropped added (Err OutOfMemory) = ⊤

-- the catalog of the nodes where they have no fault, or else the first fault; where memory runs out, nothing is told
abbrev pub IsProduced : Name → ℕ → List Node → Result Zone ProduceError → Type 0
IsProduced apex serial nodes (Ok version) =
    (produce_fault apex serial nodes ≡ None) × (version ≡ produced apex serial nodes)
IsProduced apex serial nodes (Err (produce_errors.Fault fault)) = produce_fault apex serial nodes ≡ Some fault
IsProduced apex serial nodes (Err produce_errors.OutOfMemory) = ⊤
