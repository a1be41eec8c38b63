-- Meaning: two devices of one kind that are opened at ports, and that go back.
use Rattle.std.specs.Prelude.{◌≡◌, ℕ, List, ◌++◌, option_map}
use Rattle.std.specs.List.{AllByRecursion}
use Rattle.dz_io.specs.Ports.{Row, Exchange, Accepts, Dials, IsFreshExchange, IsFreshAccepts, IsFreshDials, opening}
use Rattle.dz_io.specs.Ports.{closing, place}
use Rattle.dz_io.specs.declared.peer.Peer.{Peer}
use Rattle.dz_io.specs.declared.ports.Place.{Place}

-- two were opened that listen there, one for each worker
abbrev pub both_at : {T : Type 0} → Peer → Row Place T → Row Place T
both_at listen row = opening (place listen 1) (opening (place listen 0) row)

-- two were made, one for each worker
abbrev pub both_made : {T : Type 0} → Row ℕ T → Row ℕ T
both_made row = opening 1 (opening 0 row)

-- two came back, the first worker's first
abbrev pub both_back : {P T : Type 0} → T → T → Row P T → Row P T
both_back first second row = closing second (closing first row)

-- what was opened came back, and tells what a device tells that was never used
unfoldable pub IsUnused : {P T : Type 0} → (T → Type 0) → Row P T → Row P T → Type 0
IsUnused {P = P} {T = T} IsFresh before after =
    (places : List P) × (devices : List T) × AllByRecursion IsFresh devices
    × (after ≡ record {
      opened = option_map (λ held. held ++ places) before.opened;
      out = before.out;
      back = option_map (λ held. held ++ devices) before.back;
    })

-- what ports tell of the devices of each kind
pub record Rows : Type 0 where
  pub datagrams : Row Place Exchange
  pub acceptors : Row Place Accepts
  pub dialers : Row ℕ Dials

-- these three as one record
abbrev pub rows : Row Place Exchange → Row Place Accepts → Row ℕ Dials → Rows
rows datagrams acceptors dialers = record { datagrams = datagrams; acceptors = acceptors; dialers = dialers }

-- two of each kind were opened, those that listen at this peer
abbrev pub opened_at : Peer → Rows → Rows
opened_at listen r = rows (both_at listen r.datagrams) (both_at listen r.acceptors) (both_made r.dialers)

-- what was opened of each kind came back as it was opened
pub record AreUnused (before after : Rows) : Type 0 where
  pub datagrams : IsUnused IsFreshExchange before.datagrams after.datagrams
  pub acceptors : IsUnused IsFreshAccepts before.acceptors after.acceptors
  pub dialers : IsUnused IsFreshDials before.dialers after.dialers
