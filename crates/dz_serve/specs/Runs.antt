-- Meaning: what a run of a server shows: of its list of taken transfers, and of each device that it opened.
use Rattle.std.specs.Prelude.{⊤, ◌≡◌, ◌⊎◌, ◌+◌, ℕ, Bool, true, false, not, List, Option, Some, slice_get}
use Rattle.std.specs.List.{All, AllByRecursion}
use Rattle.dz_name.specs.Words.{Octets}
use Rattle.dz_io.specs.Counts.{HasRisen, HasRisenBy}
use Rattle.dz_io.specs.Device.{Tells}
use Rattle.dz_io.specs.Ports.{Exchange, Accepts, Dials}
use Rattle.dz_settings.specs.declared.config.CatalogSettings.{CatalogSettings}
use Rattle.dz_history.specs.declared.entry.Entry.{Entry}
use Rattle.dz_history.specs.declared.entry.Entry.TheVariants.{Setup}
use Rattle.dz_history.specs.Legal.{IsLegal}
use Rattle.dz_query.specs.Served.{Served, requests, replies, losses, excused, AreInTurn}
use Rattle.dz_query.specs.Links.{Visit, IsVisit, links_of, all_served, some_starved}
use Rattle.dz_provision.specs.Endings.{EndsAmong}
use Rattle.dz_provision.specs.Log.{IsLogged}
use Rattle.dz_transfer.specs.declared.serve.Transfers.{Transfers}
use Rattle.dz_transfer.specs.declared.serve.TransferEnd.TheVariants as transfer_ends
use Rattle.dz_transfer.specs.Serving.{Dial, IsServed, endings_in, sum_of, absent_of, starved_of, Counts, link_faults}
use Rattle.dz_transfer.specs.Serving.{DialsShow, HaveNoLogFault, LogFaultIsLast}
use Rattle.dz_transfer.specs.Serving as work
use Rattle.dz_io.specs.declared.peer.Peer.{Peer}
use Rattle.dz_serve.specs.Ends.{IsClear, is_write_fault}
use Rattle.dz_serve.specs.Rows.{Rows, AreUnused, both_back, opened_at}
use Rattle.dz_serve.specs.declared.status.ServeEnd.{ServeEnd}
use Rattle.dz_serve.specs.declared.status.ServeEnd.TheVariants as ends

-- a datagram device: each packet that came was answered, at a moment that the clock may give, by a beginning of the
-- list; the beginnings never shrink, and each has the configuration. It is whole where the device has closed and no
-- send failed. A NOTIFY may have got no reply only where one was not heard
pub record IsExchanged (is_whole unheard : Bool) (may_fail : Type 0) (may_give : ℕ → Bool) (list : List Entry)
    (x : Exchange) : Type 0 where
  pub served : List Served
  pub turns : AreInTurn (excused unheard may_fail) may_give false 1 list served
  pub received : Tells (requests served) x.received
  pub sent : Tells (replies list served) x.sent
  pub covered : HasRisenBy (losses served) 0 x.faults
  pub whole : is_whole ≡ true → (losses served ≡ 0) × (x.is_closed ≡ true)
  pub faulty : is_whole ≡ false → HasRisen 0 x.faults

-- an acceptor: the same of the requests over its links, of all links in their order; zones are sent to the addresses
-- of `downstream`. It is starved where one of its links ran out of memory
pub record IsAccepted (has_closed starved unheard : Bool) (downstream : List Octets) (may_fail : Type 0)
    (may_give : ℕ → Bool) (list : List Entry) (y : Accepts) : Type 0 where
  pub visits : List Visit
  pub links : Tells (links_of visits) y.links
  pub each : AllByRecursion (IsVisit downstream list) visits
  pub turns : AreInTurn (excused unheard may_fail) may_give true 1 list (all_served visits)
  pub closed : has_closed ≡ true → y.is_closed ≡ true
  pub faulty : has_closed ≡ false → HasRisen 0 y.faults
  pub starving : starved ≡ some_starved visits

-- a dialer: each dial has its receipt, by what its worker told: how its jobs ended, at moments that the clock may
-- give, how many of them were not in flight, and how many ended for want of memory. So many lines of it were written
pub record IsDialled (done : Transfers) (lines : ℕ) (may_give : ℕ → Bool) (list : List Entry) (z : Dials) : Type 0
  where
    pub dials : List Dial
    pub links : Tells (work.links_in dials) z.links
    pub served : IsServed 1 list dials
    pub endings : done.endings ≡ endings_in dials
    pub moments : All (EndsAmong may_give) done.endings
    pub absent : Counts (sum_of absent_of dials) done.absent
    pub starved : Counts (sum_of starved_of dials) done.starved
    pub noted : lines ≡ sum_of starved_of dials
    pub faults : HasRisenBy (link_faults dials) 0 z.faults
    pub shown : DialsShow done.dialed dials 0 z.faults
    pub last : LogFaultIsLast dials
    pub stopped : done.end ≡ transfer_ends.Stopped → HaveNoLogFault dials

-- two devices of each kind were served and given back, and so many lines of want of memory were written as dials ended
-- so. After Done each NOTIFY was heard, the transfer workers are clear and, where it must be, one of them has dialed.
-- Memory is told to have run out only where no device has failed
pub record IsRun (must_dial : Bool) (how : ServeEnd) (downstream : List Octets) (may_fail : Type 0)
    (may_give : ℕ → Bool) (lines : ℕ) (list : List Entry) (before after : Rows) : Type 0 where
  pub whole_one : Bool
  pub whole_two : Bool
  pub closed_one : Bool
  pub closed_two : Bool
  pub starved_one : Bool
  pub starved_two : Bool
  pub unheard_one : Bool
  pub unheard_two : Bool
  pub unheard_three : Bool
  pub unheard_four : Bool
  pub transfers_one : Transfers
  pub transfers_two : Transfers
  pub lines_one : ℕ
  pub lines_two : ℕ
  pub one : Exchange
  pub two : Exchange
  pub three : Accepts
  pub four : Accepts
  pub five : Dials
  pub six : Dials
  pub datagrams : after.datagrams ≡ both_back one two before.datagrams
  pub acceptors : after.acceptors ≡ both_back three four before.acceptors
  pub dialers : after.dialers ≡ both_back five six before.dialers
  pub exchanged_one : IsExchanged whole_one unheard_one may_fail may_give list one
  pub exchanged_two : IsExchanged whole_two unheard_two may_fail may_give list two
  pub accepted_one : IsAccepted closed_one starved_one unheard_three downstream may_fail may_give list three
  pub accepted_two : IsAccepted closed_two starved_two unheard_four downstream may_fail may_give list four
  pub dialled_one : IsDialled transfers_one lines_one may_give list five
  pub dialled_two : IsDialled transfers_two lines_two may_give list six
  pub lines_are : lines ≡ lines_one + lines_two
  pub done : how ≡ ends.Done → (whole_one ≡ true) × (whole_two ≡ true) × (closed_one ≡ true) × (closed_two ≡ true)
      × (starved_one ≡ false) × (starved_two ≡ false)
      × (unheard_one ≡ false) × (unheard_two ≡ false) × (unheard_three ≡ false) × (unheard_four ≡ false)
      × IsClear transfers_one × IsClear transfers_two
      × (must_dial ≡ true → (transfers_one.dialed ≡ true) ⊎ (transfers_two.dialed ≡ true))
  pub starved : how ≡ ends.NoMemory
      → (whole_one ≡ true) × (whole_two ≡ true) × (closed_one ≡ true) × (closed_two ≡ true)

-- an end before a worker started: a line of the log could not be written, or memory ran out
abbrev pub IsHalt : ServeEnd → Type 0
IsHalt ends.WriteFault = ⊤
IsHalt ends.NoMemory = ⊤
IsHalt how = ⊥

-- what came of a server whose list has begun: its devices were served; or, only where it keeps zones, it ended before
-- a worker started, what was opened came back unused, and no line of want of memory was written. A server that keeps
-- zones need not dial: those that it was given back may not be due
pub data HasRun (keeps : Bool) (how : ServeEnd) (downstream : List Octets) (may_fail : Type 0) (may_give : ℕ → Bool)
    (lines : ℕ) (list : List Entry) (listen : Peer) (before after : Rows) : Type 0 where
  ran : IsRun (not keeps) how downstream may_fail may_give lines list (opened_at listen before) after
      → HasRun keeps how downstream may_fail may_give lines list listen before after
  halted : keeps ≡ true → IsHalt how → lines ≡ 0 → AreUnused before after
      → HasRun keeps how downstream may_fail may_give lines list listen before after

-- the same, and what its output holds: a log of the list, with so many lines of want of memory
pub record HasRunLogged (keeps : Bool) (how : ServeEnd) (downstream : List Octets) (may_fail : Type 0)
    (may_give : ℕ → Bool) (held : Option Octets) (list : List Entry) (listen : Peer) (before after : Rows) : Type 0
  where
    pub starved : ℕ
    pub run : HasRun keeps how downstream may_fail may_give starved list listen before after
    pub logged : IsLogged list starved held (is_write_fault how)

-- the list that a run leaves is legal, and begins with the configuration
pub record IsListOf (config : List CatalogSettings) (list : List Entry) : Type 0 where
  pub legal : IsLegal list
  pub begins : slice_get list 0 ≡ Some (Setup config)
