-- Meaning: who is heard when a NOTIFY comes (RFC 1996 section 3.10).
use Rattle.std.specs.Prelude.{List, Option, Some, None, if◌then◌else◌}
use Rattle.std.specs.List.{list_any}
use Rattle.std.specs.Str.{bytes_eq}
use Rattle.dz_name.specs.Words.{Name}
use Rattle.dz_io.specs.declared.peer.Peer.{Peer}
use Rattle.dz_notify.specs.declared.notify.Heard.{Heard}
use Rattle.dz_notify.specs.declared.notify.Heard.TheVariants as heard
use Rattle.dz_history.specs.declared.entry.Entry.{Entry}
use Rattle.dz_history.specs.State.{primaries_at}
use Rattle.dz_history.specs.After.{after}

-- how a peer with these primaries of a zone is heard: a zone without primaries isn't served, and else the peer's
-- address is one of theirs or a stranger's
abbrev pub heard_from : Peer → Option (List Peer) → Heard
heard_from peer None = heard.NotOurs
heard_from peer (Some peers) =
    if list_any (λ p. bytes_eq p.address peer.address) peers then heard.Taken else heard.Stranger

-- how a peer is heard of a zone, after a list of entries
abbrev pub heard_at : List Entry → Peer → Name → Heard
heard_at list peer zone = heard_from peer (primaries_at (after list) zone)
