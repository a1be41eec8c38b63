-- Inner: the octets that a disk in memory keeps, and what was done to it.
use Rattle.std.specs.Prelude.{◌≡◌, ◌≤◌, ℕ, List, length}
use Rattle.dz_disk.specs.MemoryDisk.{state, MayLeave}
use Rattle.dz_disk.specs.declared.memory_disk.DiskAct.{DiskAct}

-- the copies that are kept are those of a disk with these acts
pub record IsOf (origin : List ℕ) (acts : List DiskAct) (octets sure noisy : List ℕ) : Type 0 where
  pub octets_are : octets ≡ (state origin acts).octets
  pub sure_is : sure ≡ (state origin acts).sure
  pub sure_may : MayLeave (state origin acts) sure
  pub noisy_may : MayLeave (state origin acts) noisy
  pub long : length octets ≤ length noisy
