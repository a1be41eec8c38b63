-- The records of any file read.
use Rattle.std.proofs.Common.{◌≡◌, ℕ, zero, suc, Bool, true, false, cond, List, [], ◌∷◌, length, refl, arith}
use Rattle.std.proofs.lemmas.Bool.{and_parts}
use Rattle.std.specs.Prelude.{◌==◌, ◌&&◌, ◌+◌, nat_le}
use Rattle.dz_name.specs.Words.{Octets}
use Rattle.dz_disk.specs.RecordLog.{size_of, payload_of, following, is_open, records_within, records, IsPayload}
use Rattle.dz_disk.specs.RecordLog.{ArePayloads}
use Rattle.dz_store.specs.Payload.{reads}
use Rattle.dz_store.specs.inner.Short.{short}

pub readable : (payload : Octets) → reads payload ≡ true → IsPayload reads payload
readable payload is = let most = short payload is in record { short = omega (arith, most); readable = is }

open_reads : (gate : ℕ) (rest : Octets) → is_open reads gate rest ≡ true → reads (payload_of rest) ≡ true
unfolding is_open
open_reads gate rest is = (and_parts (nat_le (8 + size_of rest) (length rest)) (reads (payload_of rest))
    (and_parts (gate == 1) (nat_le (8 + size_of rest) (length rest) && reads (payload_of rest)) is).1).1

one_more : (gate : ℕ) (rest : Octets) (more : List Octets) (b : Bool) → is_open reads gate rest ≡ b
    → ArePayloads reads more → ArePayloads reads (cond b (payload_of rest ∷ more) [])
one_more gate rest more true is fits = (readable (payload_of rest) (open_reads gate rest is), fits)
one_more gate rest more false is fits = tt

all_within : (most : ℕ) (file : Octets) → ArePayloads reads (records_within reads most file)
unfolding records_within
all_within zero file = tt
all_within (suc most) [] = tt
all_within (suc most) (gate ∷ rest) = one_more gate rest (records_within reads most (following rest))
    (is_open reads gate rest) refl (all_within most (following rest))

pub all_readable : (file : Octets) → ArePayloads reads (records reads file)
unfolding records
all_readable file = all_within (length file) file
