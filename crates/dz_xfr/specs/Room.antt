-- Answer: how much memory the records of a transfer may take, where it isn't out of memory.
use Rattle.std.specs.Prelude.{ℕ, ◌+◌, ◌-◌, nat_lt, List, length, if◌then◌else◌}
use Rattle.std.specs.List.{fold}
use Rattle.dz_record.specs.Record.{Record, record_octets}
use Rattle.dz_xfr.specs.declared.room.TheConstants.{KEPT_OCTETS, BESIDE_OCTETS}

-- what a record weighs: its octets, and what it takes beside them
abbrev pub weight : Record → ℕ
weight r = length (record_octets r) + BESIDE_OCTETS

-- what is left once these records took what they weigh
abbrev pub left_after : ℕ → List Record → ℕ
left_after left records = fold (λ n r. n - weight r) left records

-- what is left once a record gave back what it weighs
abbrev pub given : ℕ → Record → ℕ
given left r = if nat_lt (KEPT_OCTETS - left) (weight r) then KEPT_OCTETS else left + weight r
