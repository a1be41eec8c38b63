-- Meaning: a disk in memory, as the sequence of what was done to it.
use Rattle.std.specs.Prelude.{◌≡◌, ◌⊎◌, ◌≤◌, ℕ, min, List, [], ◌∷◌, ◌++◌, length, take}
use Rattle.std.specs.List.{fold}
use Rattle.dz_io.specs.Memory.{CallsOf}
use Rattle.dz_disk.specs.Disk.{put, IsTorn}
use Rattle.dz_disk.specs.declared.memory_disk.DiskAct.{DiskAct}
use Rattle.dz_disk.specs.declared.memory_disk.DiskAct.TheVariants as act

-- a number of octets from an offset on
pub record Range : Type 0 where
  pub at : ℕ
  pub count : ℕ

-- what is certain to be on the disk, the ranges that were written since, the last of them first, and what a read gives
pub record State : Type 0 where
  pub sure : List ℕ
  pub ranges : List Range
  pub octets : List ℕ

-- a disk on which these octets are certain
abbrev pub begun : List ℕ → State
begun octets = record { sure = octets; ranges = []; octets = octets }

-- the offset of a write; past the end it counts as the end
abbrev pub place : ℕ → State → ℕ
place at s = min at (length s.octets)

-- the state after one more act
abbrev pub after : State → DiskAct → State
after s (act.Wrote at piece) =
    record {
      sure = s.sure;
      ranges = record { at = place at s; count = length piece.items } ∷ s.ranges;
      octets = put (place at s) piece.items s.octets;
    }
after s (act.Tried at count) =
    record { sure = s.sure; ranges = record { at = at; count = count } ∷ s.ranges; octets = s.octets }
after s act.Synced = begun s.octets

-- the state after these acts on a disk that began with these octets
abbrev pub state : List ℕ → List DiskAct → State
state octets acts = fold after (begun octets) acts

-- a crash may leave this: what is certain, torn at each range in turn
abbrev pub MayBe : List ℕ → List Range → List ℕ → Type 0
MayBe sure [] c = c ≡ sure
MayBe sure (r ∷ ranges) c = (d : List ℕ) × MayBe sure ranges d × IsTorn r.at r.count d c

-- a crash in this state may leave this
abbrev pub MayLeave : State → List ℕ → Type 0
MayLeave s c = MayBe s.sure s.ranges c

-- what a crash may have left of a disk that began with these octets, after the first t acts or later
pub record LeftFrom (octets : List ℕ) (acts : List DiskAct) (t : ℕ) (c : List ℕ) : Type 0 where
  pub many : ℕ
  pub late : t ≤ many
  pub there : many ≤ length acts
  pub left : MayLeave (state octets (take many acts)) c

-- a disk in memory: the octets that it began with, what was done to it since, and its writes and syncs
pub record DiskOf : Type 0 where
  pub begun : List ℕ
  pub acts : List DiskAct
  pub calls : CallsOf

-- the state of a disk in memory
abbrev pub state_of : DiskOf → State
state_of d = state d.begun d.acts

-- a write of this many octets at an offset failed, and left noise there or nothing
abbrev pub HasTried : ℕ → ℕ → DiskOf → DiskOf → Type 0
HasTried at count old new = (new ≡ old) ⊎ (new ≡ record old { acts = old.acts ++ act.Tried at count ∷ [] })
