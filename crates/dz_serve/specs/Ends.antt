-- Meaning: how sessions end, and how serving does.
use Rattle.std.specs.Prelude.{◌≡◌, Bool, true, false}
use Rattle.dz_query.specs.declared.datagrams.SessionEnd.{SessionEnd}
use Rattle.dz_query.specs.declared.datagrams.SessionEnd.TheVariants.{Closed, Failed}
use Rattle.dz_query.specs.declared.links.LinksEnd.{LinksEnd}
use Rattle.dz_query.specs.declared.links.LinksEnd.TheVariants as links_ends
use Rattle.dz_transfer.specs.declared.serve.Transfers.{Transfers}
use Rattle.dz_transfer.specs.declared.serve.TransferEnd.TheVariants as transfer_ends
use Rattle.dz_serve.specs.declared.status.ServeEnd.{ServeEnd}
use Rattle.dz_serve.specs.declared.status.ServeEnd.TheVariants as ends

-- a session ended at its device's end, with no reply lost
abbrev pub is_whole : SessionEnd → Bool
is_whole (Closed true unheard) = false
is_whole (Closed false unheard) = true
is_whole Failed = false

-- a NOTIFY may have got no reply in a session, since it was not heard
abbrev pub unheard_in : SessionEnd → Bool
unheard_in (Closed lost unheard) = unheard
unheard_in Failed = true

-- an acceptor closed
abbrev pub has_closed : LinksEnd → Bool
has_closed (links_ends.Closed starved unheard) = true
has_closed (links_ends.Failed starved unheard) = false

-- serving ended since a write to the log failed
abbrev pub is_write_fault : ServeEnd → Bool
is_write_fault ends.WriteFault = true
is_write_fault end = false

-- a transfer worker was stopped, and each of its jobs was in flight as it ended
abbrev pub IsClear : Transfers → Type 0
IsClear done = (done.end ≡ transfer_ends.Stopped) × (done.absent ≡ 0)
