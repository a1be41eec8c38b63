-- Meaning: devices in memory, as their contracts see them, and which of their calls fail.
use Rattle.std.specs.Prelude.{◌==◌, ◌||◌, ◌+◌, ◌-◌, ◌^◌, ℕ, List, Bool, min, if◌then◌else◌}
use Rattle.std.specs.List.{list_any}

-- octets that are read in turn: those that were given, and those that are left
pub record TapeOf : Type 0 where
  pub given : List ℕ
  pub left : List ℕ

-- the calls of a device in memory
pub record CallsOf : Type 0 where
  -- how many calls there were
  pub count : ℕ
  -- the numbers of the calls that are to fail, counted from 0
  pub failing : List ℕ
  -- how many calls failed
  pub faults : ℕ

-- a source in memory
pub record SourceOf : Type 0 where
  pub tape : TapeOf
  pub calls : CallsOf

-- a sink in memory, with the octets that were written
pub record SinkOf : Type 0 where
  pub written : List ℕ
  pub calls : CallsOf

-- a link in memory, with the octets that were written, and one count of calls for reads and writes
pub record LinkOf : Type 0 where
  pub tape : TapeOf
  pub written : List ℕ
  pub calls : CallsOf

-- a number plus one, up to the maximum of a u64
abbrev pub one_more : ℕ → ℕ
one_more n = min (n + 1) (2 ^ 64 - 1)

-- whether the call with this number is to fail: it is listed, or the counter is at its maximum
abbrev pub is_to_fail : ℕ → List ℕ → Bool
is_to_fail call failing = (call == 2 ^ 64 - 1) || list_any (λ listed. listed == call) failing

-- the calls after one more call, which failed or not
abbrev pub after_call : CallsOf → Bool → CallsOf
after_call calls failed = record {
  count = one_more calls.count;
  failing = calls.failing;
  faults = (if failed then one_more calls.faults else calls.faults);
}

-- the calls before the first call
abbrev pub no_calls : List ℕ → CallsOf
no_calls failing = record { count = 0; failing = failing; faults = 0 }
