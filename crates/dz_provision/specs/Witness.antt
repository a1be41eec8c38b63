-- Answer: what the witness of a NOTIFY that was heard says of the core (RFC 1996 section 3.11).
use Rattle.std.specs.Prelude.{◌≡◌, List}
use Rattle.dz_name.specs.Words.{Name}
use Rattle.dz_io.specs.declared.peer.Peer.{Peer}
use Rattle.dz_notify.specs.declared.notify.Heard.{Heard}
use Rattle.dz_history.specs.declared.entry.Entry.{Entry}
use Rattle.dz_fleet.specs.Core.{Core, heard_of, after_notify}

-- the core as a NOTIFY came, and after it was heard
pub record WitnessOf : Type 0 where
  pub before : Core
  pub after : Core

-- it was heard after this list, by the primaries of the zone; one that is taken made its zone due, at once or as soon
-- as its job in flight ends, and any other changed nothing
pub record IsWitnessOf (w : WitnessOf) (entries : List Entry) (peer : Peer) (zone : Name) (how : Heard) : Type 0 where
  pub list : w.before.list ≡ entries
  pub heard : how ≡ heard_of w.before peer zone
  pub after : w.after ≡ after_notify w.before zone how
