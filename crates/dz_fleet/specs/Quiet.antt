-- Meaning: why no job is handed out.
use Rattle.std.specs.Prelude.{◌≡◌, ℕ, ◌<◌, ◌^◌, ◌-◌, ◌⊎◌, Option}
use Rattle.std.specs.Option.{ForSome}

-- why no job was handed out: how many entries the list has, the moment, how many jobs are in flight and how many were
-- handed out, and the earliest moment of a zone without a job in flight
pub record QuietOf : Type 0 where
  pub count : ℕ
  pub moment : ℕ
  pub in_flight : ℕ
  pub drawn : ℕ
  pub earliest : Option ℕ

-- all jobs are in flight, no ticket is left, or no zone is due
abbrev pub IsQuiet : QuietOf → Type 0
IsQuiet q = (q.in_flight ≡ 16) ⊎ ((q.drawn ≡ 2 ^ 64 - 2) ⊎ ForSome q.earliest (λ earliest. q.moment < earliest))
