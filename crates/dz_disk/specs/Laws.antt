-- Judge: what a file that a crash left gives when it is opened.
use Rattle.std.specs.Prelude.{◌≡◌, ℕ, Bool, List, ◌++◌, take}
use Rattle.dz_disk.specs.RecordLog.{records, IsPayload, ArePayloads, IsLeft, IsBeforeOrAfter}
use Rattle.dz_disk.specs.Several.{IsLeftAmong}

-- what is left while a record is added to a list gives the list, or the list with the record
abbrev pub OneJoins : Type 0
OneJoins = (reads : List ℕ → Bool) (list : List (List ℕ)) (last file : List ℕ) → ArePayloads reads list
    → IsPayload reads last
    → IsLeft list last file → IsBeforeOrAfter reads list last file

-- what is left while several records are added gives the list with the first of them, possibly none or all
abbrev pub SeveralJoin : Type 0
SeveralJoin = (reads : List ℕ → Bool) (list due : List (List ℕ)) (before file : List ℕ) → ArePayloads reads list
    → ArePayloads reads due
    → records reads before ≡ list → IsLeftAmong list due before file
    → (count : ℕ) × (records reads file ≡ list ++ take count due)
