-- Judge: what is sent of a version is the version (RFC 5936 section 2.2).
use Rattle.std.specs.Prelude.{◌≡◌, ℕ, ◌<◌, ◌^◌, true, None}
use Rattle.dz_message.specs.Frame.{stream}
use Rattle.dz_message.specs.Piece.{written}
use Rattle.dz_zone.specs.Version.{Zone, IsVersion}
use Rattle.dz_take.specs.Outcome.{outcome}
use Rattle.dz_take.specs.Transfer.{Transfer, new}
use Rattle.dz_take.specs.declared.ask.Ask.TheVariants.{Axfr}
use Rattle.dz_outward.specs.Stream.{messages_of, is_fit}

-- the transfer of the whole zone with this ID, where none is held
abbrev pub transfer_of : ℕ → Zone → Transfer
transfer_of id zone = record { apex = zone.apex; ask = Axfr; id = id; held = None }

-- of a version that can be sent, the outcome of its stream is the version
abbrev pub ComesBack : Type 0
ComesBack = (id : ℕ) (zone : Zone) → id < 2 ^ 16 → IsVersion zone → is_fit zone ≡ true
    → outcome (transfer_of id zone) (stream (written (messages_of id zone))) ≡ new zone
