-- Meaning: what the calls of a disk do to its file, and what a crash may leave of it.
use Rattle.std.specs.Prelude.{◌≡◌, ◌⊎◌, ◌+◌, ◌-◌, ◌≤◌, ℕ, max, List, ◌++◌, length, take, drop, Option}

-- the file after a piece was written at an offset in it, or at its end
abbrev pub put : ℕ → List ℕ → List ℕ → List ℕ
put at piece file = take at file ++ (piece ++ drop (at + length piece) file)

-- what may be left of a file while `count` octets are written at an offset: any octets there and between the old end
-- and the new one, an end between the two, and elsewhere what was there
pub record IsTorn (at count : ℕ) (file left : List ℕ) : Type 0 where
  pub front : take at left ≡ take at file
  pub beyond : drop (at + count) left ≡ drop (at + count) file
  pub least : length file ≤ length left
  pub most : length left ≤ max (length file) (at + count)

-- whatever a crash may leave now is torn from what it might have left before
abbrev pub Tears : ℕ → ℕ → (List ℕ → Type 0) → (List ℕ → Type 0) → Type 0
Tears at count before now = (c : List ℕ) → now c → (d : List ℕ) × before d × IsTorn at count d c

-- a crash may leave only this
abbrev pub IsSure : List ℕ → (List ℕ → Type 0) → Type 0
IsSure file may_leave = (c : List ℕ) → may_leave c → c ≡ file

-- a read at an offset gave this many octets, at the beginning of a buffer, and none only where the file has no more
pub record IsRead (at count : ℕ) (buffer file : List ℕ) : Type 0 where
  pub octets : take count buffer ≡ take count (drop at file)
  pub there : count ≤ length file - at
  pub end : count ≡ 0 → length file ≤ at

-- Time passes in a call. What a crash at a moment or later may have left is from then on what it may have left before,
-- and what it may leave now; nothing else is added and nothing is forgotten.
pub record Passes (was now : ℕ) (then since : ℕ → List ℕ → Type 0) (may_leave : List ℕ → Type 0) : Type 0 where
  pub later : was ≤ now
  pub only : (t : ℕ) (c : List ℕ) → t ≤ was → since t c → then t c ⊎ may_leave c
  pub all : (t : ℕ) (c : List ℕ) → t ≤ was → then t c → since t c

-- a crash at any moment from the old state to the new one leaves a file that satisfies P
pub record Leaves {D : Type 0} (clock : D → ℕ) (left_from : D → ℕ → List ℕ → Type 0) (old new : D)
    (P : List ℕ → Type 0) : Type 0 where
  pub later : clock old ≤ clock new
  pub each : (c : List ℕ) → left_from new (clock old) c → P c
  pub longer : (t : ℕ) (c : List ℕ) → t ≤ clock old → left_from new t c → left_from old t c ⊎ P c

-- nothing but reads: the file is as before, and a crash at any moment leaves what it might have left before
pub record IsQuiet {D : Type 0} (file : D → Option (List ℕ)) (may_leave : D → List ℕ → Type 0) (clock : D → ℕ)
    (left_from : D → ℕ → List ℕ → Type 0) (old new : D) : Type 0 where
  pub same : file new ≡ file old
  pub crash : (c : List ℕ) → may_leave new c → may_leave old c
  pub leaves : Leaves clock left_from old new (may_leave old)
