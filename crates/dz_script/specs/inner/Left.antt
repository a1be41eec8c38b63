-- Inner: the fields that a reader has left, and peers that were read.
use Rattle.std.specs.Prelude.{ℕ, List, [], ◌++◌, Option, Some, None, option_map}
use Rattle.dz_io.specs.declared.peer.Peer.{Peer}
use Rattle.dz_name.specs.Words.{Octets}
use Rattle.dz_script.specs.Fields.{parts_of}

-- none is left after the last field, and the text after a separator has one or more
abbrev pub parts_left : ℕ → Option Octets → List Octets
parts_left separator None = []
parts_left separator (Some text) = parts_of separator text

-- peers before those that are still to be read
abbrev pub with_peers : List Peer → Option (List Peer) → Option (List Peer)
with_peers peers more = option_map (λ others. peers ++ others) more
