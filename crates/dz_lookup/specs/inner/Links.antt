-- Inner: how a chain is kept: its first name, and its records. Each further name is where the record before leads.
use Rattle.std.specs.Prelude.{◌≡◌, List, [], ◌∷◌, IsSome, All, Option}
use Rattle.std.specs.Borrow.{Bor}
use Rattle.std.specs.Option.{option_map_or}
use Rattle.dz_name.specs.Words.{Name}
use Rattle.dz_record.specs.Record.{Record}
use Rattle.dz_lookup.specs.Chain.{Trail, led_to}

-- a placeholder for a record that is not there
abbrev pub no_record : Record
no_record = record { owner = []; kind = 0; ttl = 0; rdata = [] }

-- the record at a place
abbrev pub record_in : Option (Bor Record) → Record
record_in place = option_map_or (λ r. r.now) place no_record

-- the name to which a record leads from another one, the root where it leads nowhere
abbrev pub behind : Name → Record → Name
behind name r = option_map_or (λ target. target) (led_to name r) []

-- a chain from its first name and its records: each further name is where the record before leads
abbrev pub pairs_of : Name → List (Option (Bor Record)) → Trail
pairs_of name [] = []
pairs_of name (place ∷ places) = (name, record_in place) ∷ pairs_of (behind name (record_in place)) places

-- each place has its record
abbrev pub AreThere : List (Option (Bor Record)) → Type 0
AreThere places = All (λ place. IsSome place) places

-- the last record leads to this name, or there is none
abbrev pub IsNext : Name → Trail → Type 0
IsNext name [] = Unit {0}
IsNext name (a ∷ []) = behind a.0 a.1 ≡ name
IsNext name (a ∷ b ∷ rest) = IsNext name (b ∷ rest)
