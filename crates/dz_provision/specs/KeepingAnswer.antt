-- Answer: how the work of a store after an entry ends.
use Rattle.std.specs.Prelude.{⊤, ◌≡◌, ◌≢◌, ◌<◌, ◌+◌, ℕ, List, ◌∷◌, ◌++◌, length, map, Option, Result, Ok}
use Rattle.dz_name.specs.Words.{Name, Octets}
use Rattle.dz_disk.specs.RecordLog.{limit}
use Rattle.dz_disk.specs.Several.{JoinInOrder}
use Rattle.dz_store.specs.declared.fault.StoreFault.{StoreFault}
use Rattle.dz_store.specs.declared.fault.StoreFault.TheVariants.{DiskFault, Full, Unfit, OutOfMemory}
use Rattle.dz_store.specs.Payload.{reads}
use Rattle.dz_store.specs.Store.{StoreOf, HasFailed}
use Rattle.dz_provision.specs.declared.provisioner.LogFault.{LogFault}
use Rattle.dz_provision.specs.Held.{Held, IsSaid}
use Rattle.dz_provision.specs.Log.{unkept_text}
use Rattle.dz_provision.specs.Keeping.{Task, zone_of, record_of, IsUnfit}

-- why a task met a fault: a call of the disk failed, now or before; its record has no room; its version can't be sent;
-- or memory was wanting
abbrev pub IsWhy : {D : Type 0} → (D → ℕ) → StoreOf D → StoreOf D → Task → StoreFault → Type 0
IsWhy faults old new task DiskFault = HasFailed faults old new
IsWhy faults old new task Full = limit < new.end + 9 + length (record_of task)
IsWhy faults old new task Unfit = IsUnfit task
IsWhy faults old new task OutOfMemory = ⊤

-- the first of these tasks that met a fault; but for one of the disk, the records of those before it joined and no
-- other
pub record IsStopped {D : Type 0} (file : D → Option Octets) (faults : D → ℕ) (old new : StoreOf D) (all : List Task)
    (zone : Name) (fault : StoreFault) : Type 0 where
  pub done : List Task
  pub task : Task
  pub rest : List Task
  pub are : all ≡ done ++ task ∷ rest
  pub own : zone ≡ zone_of task
  pub joined : fault ≢ DiskFault → JoinInOrder reads (file old.disk) (file new.disk) (map record_of done)
  pub able : fault ≢ DiskFault → new.has_failed ≡ old.has_failed
  pub why : IsWhy faults old new task fault

-- all tasks were done, their records joined and no line was written; or one met a fault, the line of its zone and that
-- fault was said, and none was begun after it
pub data IsKept {D : Type 0} (file : D → Option Octets) (faults : D → ℕ) (old new : StoreOf D) (all : List Task)
    (h : Held) (result : Result (Unit {0}) LogFault) (k : Held) : Type 0 where
  whole : JoinInOrder reads (file old.disk) (file new.disk) (map record_of all) → new.has_failed ≡ old.has_failed
      → result ≡ Ok tt → k ≡ h
      → IsKept file faults old new all h result k
  stopped : (zone : Name) (fault : StoreFault) → IsStopped file faults old new all zone fault
      → IsSaid h (unkept_text zone fault) result k
      → IsKept file faults old new all h result k
