-- Inner: an owner as a reply has it.
use Rattle.std.specs.Prelude.{[], ◌++◌}
use Rattle.std.specs.Option.{option_map_or}
use Rattle.dz_name.specs.Words.{Octets}
use Rattle.dz_name.specs.Numbers.{two}
use Rattle.dz_reply.specs.declared.layout.Shown.{Shown}

-- the octets of an owner: its first labels, and the pointer after them, if there is one
abbrev pub owner_shown : Shown → Octets
owner_shown s = s.front.now ++ option_map_or (λ p. two p) s.pointer []
