-- Inner: what the code finds of a name and of those above it.
use Rattle.std.specs.Prelude.{◌≡◌, ℕ, ◌≤◌, nat_le, List, length, drop, Option, Some, None, slice_get}
use Rattle.std.specs.Prelude.{if◌then◌else◌}
use Rattle.dz_name.specs.declared.dns.TheConstants.{TYPE_DNAME}
use Rattle.dz_name.specs.Words.{Name}
use Rattle.dz_record.specs.Record.{Record}
use Rattle.dz_runs.specs.Runs.{of_type, records_of, exists}

-- the names above a name exist from the one on that lacks so many of its first labels
abbrev pub IsMissing : List Record → Name → ℕ → Type 0
IsMissing zone name missing = (skip : ℕ) → skip ≤ length name → exists zone (drop skip name) ≡ nat_le missing skip

-- the name, where it exists
abbrev pub if_exists : List Record → Name → Option Name
if_exists zone name = if exists zone name then Some name else None

-- the DNAME of a name, if it owns one
abbrev pub renamer_at : List Record → Name → Option Record
renamer_at zone name = slice_get (of_type TYPE_DNAME (records_of zone name)) 0
