-- Inner: octets that are compared with messages as they would be sent.
use Rattle.std.specs.Prelude.{◌≡◌, ◌++◌, List}
use Rattle.dz_name.specs.Words.{Octets}
use Rattle.dz_message.specs.Frame.{stream}
use Rattle.dz_message.specs.Message.{Content}
use Rattle.dz_message.specs.Piece.{written}

-- the first messages were at the beginning of the octets; the others are to be compared with the rest
pub record IsMatching (octets rest : Octets) (all left : List Content) : Type 0 where
  pub front : Octets
  pub octets_are : octets ≡ front ++ rest
  pub messages_are : stream (written all) ≡ front ++ stream (written left)

-- messages were written, and others are left
abbrev pub IsWriting : Octets → Octets → List Content → List Content → Type 0
IsWriting before now all left = now ++ stream (written left) ≡ before ++ stream (written all)
