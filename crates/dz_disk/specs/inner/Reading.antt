-- Inner: what is found where a record may begin, and what was read of a file so far.
use Rattle.std.specs.Prelude.{◌≡◌, ◌<◌, ◌≤◌, ◌^◌, ℕ, Bool, true, false, List, [], ◌∷◌, ◌++◌, length, take, drop}
use Rattle.std.specs.Prelude.{Option, Some, None, slice_get}
use Rattle.std.specs.Int.{w64, to_be_bytes}
use Rattle.dz_disk.specs.RecordLog.{limit, body, log, is_open, records, IsPayload, ArePayloads}
use Rattle.dz_disk.specs.declared.scan.Found.{Found}
use Rattle.dz_disk.specs.declared.scan.Found.TheVariants as found

-- a complete length, or too few octets for one
abbrev pub IsSize : Option ℕ → List ℕ → Type 0
IsSize None tail = length tail < 8
IsSize (Some size) tail = (8 ≤ length tail) × (take 8 tail ≡ to_be_bytes w64 size) × (size < 2 ^ 64)

-- a gate and a length, as far as they are there, and what follows the gate
pub record IsHeadOf (gate : ℕ) (size : Option ℕ) (rest tail : List ℕ) : Type 0 where
  pub are : rest ≡ gate ∷ tail
  pub length_is : IsSize size tail

-- nothing, or a gate and a length, as far as they are there
abbrev pub IsHead : Option (ℕ × Option ℕ) → List ℕ → Type 0
IsHead None rest = rest ≡ []
IsHead (Some head) rest = (tail : List ℕ) × IsHeadOf head.0 head.1 rest tail

-- no record begins here, and this octet is here; or this is the payload of the record that begins here
abbrev pub IsFound : (List ℕ → Bool) → Found → List ℕ → Type 0
IsFound reads (found.Shut None) rest = rest ≡ []
IsFound reads (found.Shut (Some gate)) rest =
    (tail : List ℕ) × (rest ≡ gate ∷ tail) × (is_open reads gate tail ≡ false)
IsFound reads (found.Record payload) rest =
    (more : List ℕ) × (rest ≡ 1 ∷ (body payload.items ++ more)) × IsPayload reads payload.items

-- the payload that was found is readable, and not longer than any may be
abbrev pub IsReadable : (List ℕ → Bool) → Found → Type 0
IsReadable reads (found.Shut gate) = Unit {0}
IsReadable reads (found.Record payload) = (length payload.items ≤ limit) × (reads payload.items ≡ true)

-- these records were read, up to an offset
pub record IsRecords {I : Type 0} (reads : List ℕ → Bool) (is_of : I → List (List ℕ) → Type 0) (index : I) (end : ℕ)
    (file : List ℕ) (list : List (List ℕ)) : Type 0 where
  pub are : file ≡ log list ++ drop end file
  pub ends : end ≡ length (log list)
  pub fits : ArePayloads reads list
  pub known : is_of index list

-- some records were read, up to an offset
abbrev pub IsSoFar : {I : Type 0} → (List ℕ → Bool) → (I → List (List ℕ) → Type 0) → I → ℕ → List ℕ → Type 0
IsSoFar reads is_of index end file = (list : List (List ℕ)) × IsRecords reads is_of index end file list

-- all records were read: the octet at the offset, if there is one, is a gate that isn't open
pub record IsAll {I : Type 0} (reads : List ℕ → Bool) (is_of : I → List (List ℕ) → Type 0) (index : I) (end : ℕ)
    (gate : Option ℕ) (file : List ℕ) : Type 0 where
  pub all : IsRecords reads is_of index end file (records reads file)
  pub gate_is : gate ≡ slice_get file end
