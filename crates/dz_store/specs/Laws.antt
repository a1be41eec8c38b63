-- Judge: what a store keeps of a zone after a record was added to its list, and after a crash.
use Rattle.std.specs.Prelude.{◌≡◌, ◌≢◌, ◌⊎◌, true, List, [], ◌∷◌, ◌++◌, Some, None}
use Rattle.dz_name.specs.Words.{Name, Octets}
use Rattle.dz_name.specs.Name.{IsName}
use Rattle.dz_disk.specs.RecordLog.{records, IsLeft}
use Rattle.dz_store.specs.Kept.{KeptZone, CanBeKept, payload_of, forgotten}
use Rattle.dz_store.specs.Payload.{kept_of, forgotten_of, reads}
use Rattle.dz_store.specs.Store.{kept}

-- what was saved is kept, and each other zone stays as it was
abbrev pub SavedIsKept : Type 0
SavedIsKept = (list : List Octets) (k : KeptZone) (zone : Name) → CanBeKept k
    → (zone ≡ k.zone → kept zone (list ++ payload_of k ∷ []) ≡ Some k)
    × (zone ≢ k.zone → kept zone (list ++ payload_of k ∷ []) ≡ kept zone list)

-- what was forgotten isn't kept, and each other zone stays as it was
abbrev pub ForgottenIsGone : Type 0
ForgottenIsGone = (list : List Octets) (gone zone : Name) → IsName gone
    → (zone ≡ gone → kept zone (list ++ forgotten gone ∷ []) ≡ None)
    × (zone ≢ gone → kept zone (list ++ forgotten gone ∷ []) ≡ kept zone list)

-- what a crash leaves while a record is added to those of a file keeps of each zone what these kept, or what they keep
-- with the record
abbrev pub CrashKeeps : Type 0
CrashKeeps = (before last file : Octets) (zone : Name) → reads last ≡ true → IsLeft (records reads before) last file
    → (kept zone (records reads file) ≡ kept zone (records reads before))
    ⊎ (kept zone (records reads file) ≡ kept zone (records reads before ++ last ∷ []))

-- what is written of a zone can be read
abbrev pub WrittenReads : Type 0
WrittenReads = ((k : KeptZone) → CanBeKept k → reads (payload_of k) ≡ true)
    × ((zone : Name) → IsName zone → reads (forgotten zone) ≡ true)

-- a payload reads strictly: it is what is written of the zone that it says
abbrev pub ReadsStrictly : Type 0
ReadsStrictly = (payload : Octets) → ((k : KeptZone) → kept_of payload ≡ Some k → payload ≡ payload_of k)
    × ((zone : Name) → forgotten_of payload ≡ Some zone → payload ≡ forgotten zone)
