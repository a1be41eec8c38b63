-- Meaning: what workers hand on.
use Rattle.std.specs.Prelude.{◌≡◌, ℕ, Bool, true, false, List, length, Option}
use Rattle.std.specs.List.{All}
use Rattle.std.specs.Mem.{manually_drop_value}
use mathlib.Core.List.{IsPrefix}
use Rattle.dz_name.specs.Words.{Octets}
use Rattle.dz_io.specs.Ports.{Accepts, Dials, accepts, dials}
use Rattle.dz_io.specs.declared.acceptor.Acceptor as acceptors
use Rattle.dz_io.specs.declared.clock.Clock as clocks
use Rattle.dz_io.specs.declared.datagrams.Datagrams as datagrams
use Rattle.dz_io.specs.declared.dialer.Dialer as dialers
use Rattle.dz_desk.specs.Seen.{Book, Viewed}
use Rattle.dz_query.specs.Session.{Told, told, IsSession, HasClosed}
use Rattle.dz_query.specs.declared.datagrams.SessionEnd.{SessionEnd}
use Rattle.dz_query.specs.Served.{excused}
use Rattle.dz_query.specs.Links.{AreVisits, AcceptsUntil, links_told, starved_at, unheard_at}
use Rattle.dz_query.specs.declared.links.LinksEnd.{LinksEnd}
use Rattle.dz_provision.specs.Endings.{EndsAmong}
use Rattle.dz_transfer.specs.Serving.{IsTransfers}
use Rattle.dz_transfer.specs.declared.serve.Transfers.{Transfers}
use Rattle.dz_transfer.specs.declared.serve.TransferEnd.TheVariants as transfer_ends
use Rattle.dz_serve.specs.declared.udp_worker.Listened.{Listened}
use Rattle.dz_serve.specs.declared.tcp_worker.Linked.{Linked}
use Rattle.dz_serve.specs.declared.transfer_worker.Transferred.{Transferred}

-- a reading that has seen more, and is at rest
pub record HasSeenMore (before after : Viewed) : Type 0 where
  pub rests : after.is_out ≡ false
  pub own : after.book ≡ before.book
  pub seen : IsPrefix before.list after.list

-- a datagram worker: its session, by a list that has all that its reading had seen
pub record HasListened (ending : SessionEnd) (mark : Bool) (may_fail : Type 0) (may_give : ℕ → Bool)
    (before after : Viewed) (old now : Told) : Type 0 where
  pub more : HasSeenMore before after
  pub session : IsSession ending may_fail may_give (length before.list) after.list old now
  pub closed : HasClosed ending mark

-- a link worker: the sessions over its links, by the addresses to which zones are sent
pub record HasLinked (ending : LinksEnd) (downstream : List Octets) (may_fail : Type 0) (may_give : ℕ → Bool)
    (before after : Viewed) (old now : Accepts) (given told : Option (List ℕ)) : Type 0 where
  pub more : HasSeenMore before after
  pub visits : AreVisits (starved_at ending) downstream (excused (unheard_at ending) may_fail) may_give
      (length before.list) after.list (links_told old.links before.sights given)
      (links_told now.links after.sights told)
  pub until : AcceptsUntil ending now.is_closed old.faults now.faults

-- a transfer worker, whose jobs ended at moments of its clock, with so many lines of want of memory
pub record HasTransferred (done : Transfers) (lines : ℕ) (may_stop : Bool) (may_give : ℕ → Bool)
    (before after : Viewed) (old now : Dials) : Type 0 where
  pub more : HasSeenMore before after
  pub transfers :
      IsTransfers done lines (length before.list) after.list old.links now.links old.faults now.faults
  pub moments : All (EndsAmong may_give) done.endings
  pub stopped : done.end ≡ transfer_ends.Stopped → may_stop ≡ true

-- what a datagram worker shows of what it hands on, by the device, the reading and the clock that it was given
abbrev pub ShowsListening : {D C : Type 0} → datagrams.Ghosts D → clocks.Ghosts C → Type 0 → D → Viewed → C
    → Listened D C → Type 0
ShowsListening d c may_fail device reading clock done =
    let its_device = manually_drop_value done.device in
    HasListened done.end (d.is_closed its_device) may_fail (c.may_give clock) reading done.reading
    (told (d.received device) (d.sent device) (d.faults device) reading.sights (c.given clock))
    (told (d.received its_device) (d.sent its_device) (d.faults its_device) done.reading.sights (c.given done.clock))

-- what a link worker shows, by the addresses to which zones are sent
abbrev pub ShowsLinking : {A L C : Type 0} → acceptors.Ghosts A L → clocks.Ghosts C → Type 0 → List Octets → A → Viewed
    → C → Linked A C → Type 0
ShowsLinking a c may_fail downstream acceptor reading clock done =
    let its_acceptor = manually_drop_value done.acceptor in
    HasLinked done.end downstream may_fail (c.may_give clock) reading done.reading
    (accepts (a.links acceptor) (a.out acceptor) (a.is_closed acceptor) (a.faults acceptor))
    (accepts (a.links its_acceptor) (a.out its_acceptor) (a.is_closed its_acceptor) (a.faults its_acceptor))
    (c.given clock) (c.given done.clock)

-- what a transfer worker shows, whose share of the ledger has counted nothing; it keeps its parts
abbrev pub ShowsTransferring : {D L C N : Type 0} → dialers.Ghosts D L → clocks.Ghosts C → D → Viewed → C → ℕ
    → Transferred D N → Type 0
ShowsTransferring d c dialer reading clock parts done =
    let its_dialer = manually_drop_value done.dialer in
    HasTransferred done.transfers done.share.amount (c.may_stop clock) (c.may_give clock) reading done.reading
    (dials (d.links dialer) (d.out dialer) (d.faults dialer))
    (dials (d.links its_dialer) (d.out its_dialer) (d.faults its_dialer))
    × (done.share.parts ≡ parts)

-- a reading of this book, at rest
pub record IsSeated (book : Book) (reading : Viewed) : Type 0 where
  pub rests : reading.is_out ≡ false
  pub own : reading.book ≡ book

-- six readings of this book, all at rest
pub record AreSeated (book : Book) (one two three four five six : Viewed) : Type 0 where
  pub first : IsSeated book one
  pub second : IsSeated book two
  pub third : IsSeated book three
  pub fourth : IsSeated book four
  pub fifth : IsSeated book five
  pub sixth : IsSeated book six

-- six readings of this book came back, all at rest
abbrev pub AreBack : Book → List Viewed → Type 0
AreBack book readings = (length readings ≡ 6) × All (IsSeated book) readings

-- a worker was given this reading, this device and this clock
abbrev pub IsMadeOf : {D C : Type 0} → Viewed → D → C → Viewed → D → C → Type 0
IsMadeOf reading device clock its_reading its_device its_clock =
    (its_reading ≡ reading) × (its_device ≡ device) × (its_clock ≡ clock)
