-- Inner: transfers that are not refused for their own sake.
use Rattle.std.specs.Prelude.{⊤}
use Rattle.dz_take.specs.Transfer.{Decision, up_to_date, new, refused}

-- a transfer isn't refused for its own sake
abbrev pub Stands : Decision → Type 0
Stands up_to_date = ⊤
Stands (new zone) = ⊤
Stands (refused fault) = ⊥
