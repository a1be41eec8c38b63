-- Meaning: a file as a list of records, each preceded by a gate.
use Rattle.std.specs.Prelude.{◌≡◌, ◌⊎◌, ◌+◌, ◌<◌, ◌≤◌, ◌^◌, ◌&&◌, ◌==◌, ℕ, zero, suc, Bool, false, true, nat_le}
use Rattle.std.specs.Prelude.{if◌then◌else◌, List, [], ◌∷◌, ◌++◌, length, take, drop, Option, Some, None}
use Rattle.std.specs.List.{AllByRecursion}
use Rattle.std.specs.Int.{w64, to_be_bytes, from_be_bytes}
use Rattle.dz_disk.specs.Disk.{IsSure}

-- the greatest number of octets that the records of a file take
abbrev pub limit : ℕ
limit = 2 ^ 40

-- what follows the gate of a record: the length of the payload in 8 octets, and the payload
unfoldable pub body : List ℕ → List ℕ
body payload = to_be_bytes w64 (length payload) ++ payload

-- records, each preceded by an open gate
abbrev pub log : List (List ℕ) → List ℕ
log [] = []
log (payload ∷ payloads) = 1 ∷ (body payload ++ log payloads)

-- the length of the payload, in what follows a gate
abbrev pub size_of : List ℕ → ℕ
size_of rest = from_be_bytes w64 (take 8 rest)

-- the payload, in what follows a gate
abbrev pub payload_of : List ℕ → List ℕ
payload_of rest = take (size_of rest) (drop 8 rest)

-- what follows the payload, in what follows a gate
abbrev pub following : List ℕ → List ℕ
following rest = drop (8 + size_of rest) rest

-- a gate is open where it is 1 and its payload is complete and readable
unfoldable pub is_open : (List ℕ → Bool) → ℕ → List ℕ → Bool
is_open reads gate rest = (gate == 1) && (nat_le (8 + size_of rest) (length rest) && reads (payload_of rest))

-- the payloads of the records, in order, up to the first gate that isn't open; each record takes at least one octet,
-- so there are no more records than octets
unfoldable pub records_within : (List ℕ → Bool) → ℕ → List ℕ → List (List ℕ)
records_within reads zero file = []
records_within reads (suc most) [] = []
records_within reads (suc most) (gate ∷ rest) =
    if is_open reads gate rest then payload_of rest ∷ records_within reads most (following rest) else []

-- the payloads of the records of a file, in order
unfoldable pub records : (List ℕ → Bool) → List ℕ → List (List ℕ)
records reads file = records_within reads (length file) file

-- an octet string that may be a record's payload
pub record IsPayload (reads : List ℕ → Bool) (payload : List ℕ) : Type 0 where
  pub short : length payload < 2 ^ 64
  pub readable : reads payload ≡ true

-- each of these may be a record's payload
abbrev pub ArePayloads : (List ℕ → Bool) → List (List ℕ) → Type 0
ArePayloads reads = AllByRecursion (IsPayload reads)

-- records, a closed gate, and whatever follows it
pub record IsAtRest (list : List (List ℕ)) (file : List ℕ) : Type 0 where
  pub junk : List ℕ
  pub are : file ≡ log list ++ 0 ∷ junk

-- what a crash may leave while a record is added or such a file is opened: records and a closed gate; or records, a
-- gate with any octet, the new record and a closed gate; or a file just begun
pub data IsLeft (list : List (List ℕ)) (last file : List ℕ) : Type 0 where
  shut : (junk : List ℕ) → file ≡ log list ++ 0 ∷ junk → IsLeft list last file
  staged : (gate : ℕ) (junk : List ℕ) → file ≡ log list ++ gate ∷ (body last ++ 0 ∷ junk) → IsLeft list last file
  begun : list ≡ [] → length file ≤ 1 → IsLeft list last file

-- a crash now leaves only such files
abbrev pub MayLeaveOnly : List (List ℕ) → List ℕ → (List ℕ → Type 0) → Type 0
MayLeaveOnly list last may_leave = (c : List ℕ) → may_leave c → IsLeft list last c

-- such a file gives the list, or the list with the record
abbrev pub IsBeforeOrAfter : (List ℕ → Bool) → List (List ℕ) → List ℕ → List ℕ → Type 0
IsBeforeOrAfter reads list last file = (records reads file ≡ list) ⊎ (records reads file ≡ list ++ last ∷ [])

-- an index and the offset of a file's closed gate: the index is of the file's records, the gate follows them, and all
-- of the file is on the disk
pub record IsSettled {I : Type 0} (reads : List ℕ → Bool) (is_of : I → List (List ℕ) → Type 0)
    (may_leave : List ℕ → Type 0) (index : I) (end : ℕ) (file : List ℕ) : Type 0 where
  pub rest : IsAtRest (records reads file) file
  pub fits : ArePayloads reads (records reads file)
  pub ends : end ≡ length (log (records reads file))
  pub sure : IsSure file may_leave
  pub known : is_of index (records reads file)

-- the same for a log, as long as no call of its disk has failed
pub record IsLog {I : Type 0} (reads : List ℕ → Bool) (is_of : I → List (List ℕ) → Type 0) (told : Option (List ℕ))
    (may_leave : List ℕ → Type 0) (index : I) (end : ℕ) (has_failed : Bool) : Type 0 where
  pub within : end ≤ limit
  pub kept : has_failed ≡ false → (file : List ℕ) → told ≡ Some file → IsSettled reads is_of may_leave index end file

-- a log as contracts see it: its disk, its index, the offset of the next record's gate, and whether a call of the disk
-- failed
pub record LogOf (D I : Type 0) : Type 0 where
  pub disk : D
  pub index : I
  pub end : ℕ
  pub has_failed : Bool

-- a file was opened: its records are as before, and it is settled
abbrev pub Opens : {I : Type 0} → (List ℕ → Bool) → (I → List (List ℕ) → Type 0) → Option (List ℕ) → Option (List ℕ)
    → (List ℕ → Type 0) → I → ℕ → Type 0
Opens reads is_of before now may_leave index end = (old : List ℕ) → before ≡ Some old
    → (new : List ℕ) × (now ≡ Some new) × (records reads new ≡ records reads old)
    × IsSettled reads is_of may_leave index end new

-- a file that is reported now was reported before
abbrev pub WasTold : Option (List ℕ) → Option (List ℕ) → Type 0
WasTold before now = (new : List ℕ) → now ≡ Some new → (old : List ℕ) × (before ≡ Some old)

-- a record was added to the records
abbrev pub Joins : (List ℕ → Bool) → Option (List ℕ) → Option (List ℕ) → List ℕ → Type 0
Joins reads before now payload = (old : List ℕ) → before ≡ Some old
    → (new : List ℕ) × (now ≡ Some new) × (records reads new ≡ records reads old ++ payload ∷ [])

-- the first octets, of this number, or none where there are fewer
abbrev pub IsPart : Option (List ℕ) → ℕ → List ℕ → Type 0
IsPart None size rest = length rest < size
IsPart (Some payload) size rest = (payload ≡ take size rest) × (length payload ≡ size)
