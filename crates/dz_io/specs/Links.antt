-- Meaning: the links that a dialer or an acceptor gives out one at a time, and what it reports of those that came
-- back.
use Rattle.std.specs.Prelude.{◌≡◌, ℕ, Bool, true, List, [], Option}
use Rattle.dz_io.specs.Device.{Tells}
use Rattle.dz_io.specs.declared.peer.Peer.{Peer}
use Rattle.dz_io.specs.declared.acceptor.Accepted.{Accepted}
use Rattle.dz_io.specs.declared.acceptor.Accepted.TheVariants as accepted

-- a link that was opened, from this end or the other, as it came back: the peer at the other end, the octets that were
-- read, those still to be read and those written, and its count of faults
pub record Dialled : Type 0 where
  pub peer : Peer
  pub read : Option (List ℕ)
  pub left : Option (List ℕ)
  pub written : Option (List ℕ)
  pub faults : ℕ

-- such a link with these parts
abbrev pub dialled : Peer → Option (List ℕ) → Option (List ℕ) → Option (List ℕ) → ℕ → Dialled
dialled peer read left written faults =
    record { peer = peer; read = read; left = left; written = written; faults = faults }

-- nothing was read from the link or written to it, and it has no fault
pub record IsFreshLink (read written : Option (List ℕ)) (faults : ℕ) : Type 0 where
  pub unread : Tells [] read
  pub unwritten : Tells [] written
  pub faultless : faults ≡ 0

-- what an acceptor gave: a link and its peer, of which the one holds; or none, and the other holds
abbrev pub IsAccepted : {L : Type 0} → Accepted L → (L → Peer → Type 0) → Type 0 → Type 0
IsAccepted (accepted.One link peer) given none = given link peer
IsAccepted accepted.Closed given none = none

-- an acceptor is marked as closed once it has returned Closed
abbrev pub ClosesTo : {L : Type 0} → Accepted L → Bool → Bool → Type 0
ClosesTo (accepted.One link peer) before after = after ≡ before
ClosesTo accepted.Closed before after = after ≡ true
