-- Meaning: what a session over datagrams owes for the packets that came in it.
use Rattle.std.specs.Prelude.{⊤, ◌≡◌, ◌+◌, ℕ, Bool, true, false, List, length, Option, IsSome}
use Rattle.dz_io.specs.Counts.{HasRisen, HasRisenBy}
use Rattle.dz_io.specs.Device.{Gains}
use Rattle.dz_io.specs.Packets.{Packet}
use Rattle.dz_history.specs.declared.entry.Entry.{Entry}
use Rattle.dz_query.specs.Served.{Served, requests, moments, replies, losses, excused, AreInTurn}
use Rattle.dz_query.specs.declared.datagrams.SessionEnd.{SessionEnd}
use Rattle.dz_query.specs.declared.datagrams.SessionEnd.TheVariants.{Closed, Failed}

-- what the device, the reading and the clock tell: the packets received and sent, the count of faults, the sights, and
-- the moments
pub record Told : Type 0 where
  pub received : Option (List Packet)
  pub sent : Option (List Packet)
  pub faults : ℕ
  pub sights : ℕ
  pub moments : Option (List ℕ)

-- these five as one record
abbrev pub told : Option (List Packet) → Option (List Packet) → ℕ → ℕ → Option (List ℕ) → Told
told received sent faults sights moments =
    record { received = received; sent = sent; faults = faults; sights = sights; moments = moments }

-- these packets were received, and their replies sent, each at the moment in its place; each had a look of its own
pub record AreAnswered (may_fail : Type 0) (may_give : ℕ → Bool) (from : ℕ) (list : List Entry) (before now : Told)
    (served : List Served) : Type 0 where
  pub turns : AreInTurn may_fail may_give false from list served
  pub received : Gains (requests served) before.received now.received
  pub sent : Gains (replies list served) before.sent now.sent
  pub given : IsSome now.moments → Gains (moments served) before.moments now.moments
  pub sights : HasRisenBy (length served) before.sights now.sights

-- a session, with whether a reply is missing since a send failed; the count of faults rose by as many as are
pub record HasAnswered (lost : Bool) (may_fail : Type 0) (may_give : ℕ → Bool) (from : ℕ) (list : List Entry)
    (before now : Told) : Type 0 where
  pub served : List Served
  pub answers : AreAnswered may_fail may_give from list before now served
  pub covered : HasRisenBy (losses served) before.faults now.faults
  pub whole : lost ≡ false → losses served ≡ 0
  pub risen : lost ≡ true → HasRisen before.faults now.faults

-- a session that failed: the count rose by more
pub record HasFailed (may_fail : Type 0) (may_give : ℕ → Bool) (from : ℕ) (list : List Entry)
    (before now : Told) : Type 0 where
  pub served : List Served
  pub answers : AreAnswered may_fail may_give from list before now served
  pub covered : HasRisenBy (losses served + 1) before.faults now.faults

-- a session by its end: closed, where each NOTIFY that was due a reply got it unless one was not heard; or failed
abbrev pub IsSession : SessionEnd → Type 0 → (ℕ → Bool) → ℕ → List Entry → Told → Told → Type 0
IsSession (Closed lost unheard) may_fail may_give from list before now =
    HasAnswered lost (excused unheard may_fail) may_give from list before now
IsSession Failed may_fail may_give from list before now = HasFailed may_fail may_give from list before now

-- closed only where the device said so
abbrev pub HasClosed : SessionEnd → Bool → Type 0
HasClosed (Closed lost unheard) mark = mark ≡ true
HasClosed Failed mark = ⊤
