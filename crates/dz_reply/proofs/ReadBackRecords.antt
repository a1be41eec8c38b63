-- Records of a reply read back, one after the other.
use Rattle.std.proofs.Common.{◌≡◌, ℕ, ◌+◌, ◌≤◌, List, [], ◌∷◌, ◌++◌, length, drop, ◌∙◌, arith, append_assoc}
use Rattle.std.proofs.Common.{length-append}
use Rattle.std.specs.List.{AllByRecursion}
use Rattle.dz_name.specs.Numbers.{two, four}
use Rattle.dz_name.proofs.NumberLemmas.{length_two}
use Rattle.dz_record.specs.Record.{Record, IsRecord}
use Rattle.dz_message.specs.Spelling.{IsRecordAt, Each}
use Rattle.dz_message.proofs.PlaceLemmas.{fixed_octets, record_there, each_there}
use Rattle.dz_reply.specs.Layout.{owner_octets, entry_octets, entries_octets}
use Rattle.dz_reply.proofs.ReadBackNames.{StandsAsked, owner_reads}

-- a record of a reply reads as the record
entry_there : (m : List ℕ) (name : List (List ℕ)) (end : ℕ) → StandsAsked m name end
    → (r : Record) (more : List ℕ) (at : ℕ) → IsRecord r → end ≤ at → drop at m ≡ entry_octets name r ++ more
    → IsRecordAt m at r (at + length (entry_octets name r))
unfolding entry_octets
entry_there m name end stands r more at held behind is =
    let owner = owner_octets name r.owner in
    let split : drop at m ≡ owner ++ (fixed_octets r ++ more) = is ∙ append_assoc owner (fixed_octets r) more in
    record_there m owner r more at held.number held (owner_reads m name end stands r.owner (fixed_octets r ++ more)
    at 0 at held.owner.each (omega (arith, held.owner.short)) behind split) is

-- records that are written one after the other read as the records
pub all_there : (m : List ℕ) (name : List (List ℕ)) (end : ℕ) → StandsAsked m name end
    → (rs : List Record) (more : List ℕ) (at : ℕ) → AllByRecursion IsRecord rs → end ≤ at
    → drop at m ≡ entries_octets name rs ++ more → Each (IsRecordAt m) at rs (at + length (entries_octets name rs))
unfolding entries_octets
all_there m name end stands rs more at held behind is = each_there IsRecord (IsRecordAt m) (entry_octets name) m end
    (entry_there m name end stands) rs more at held behind is

-- a record has octets
some_octets : (name : List (List ℕ)) (r : Record) → 1 ≤ length (entry_octets name r)
unfolding entry_octets
some_octets name r =
    let rest = four r.ttl ++ (two (length r.rdata) ++ r.rdata) in
    omega (
      arith,
      length-append (owner_octets name r.owner) (two r.kind ++ (two 1 ++ rest)),
      length-append (two r.kind) (two 1 ++ rest),
      length_two r.kind,
    )

-- there are as many octets as records, and more
pub few_records : (name : List (List ℕ)) (rs : List Record) → length rs ≤ length (entries_octets name rs)
unfolding entries_octets
few_records name [] = omega arith
few_records name (r ∷ rs) = omega
    (arith, few_records name rs, some_octets name r, length-append (entry_octets name r) (entries_octets name rs))
