-- Meaning: how many octets of replies wait at the connections of a worker.
use Rattle.std.specs.Prelude.{ℕ, List, Option, None, Some, sum_by, vec_len}
use Rattle.dz_edge.specs.declared.connection.Connection.{Connection}

-- how many octets wait at a place: the replies that its connection keeps until the socket has taken the last of them
abbrev pub waits_at : Option Connection → ℕ
waits_at None = 0
waits_at (Some connection) = vec_len connection.unsent

-- how many octets wait at all places together
abbrev pub waiting_at : List (Option Connection) → ℕ
waiting_at places = sum_by waits_at places
